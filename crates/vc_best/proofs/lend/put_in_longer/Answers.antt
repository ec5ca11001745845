use Rattle.vc_base.proofs.Common.{◌≡◌, ℕ, ◌≤◌, false, List, [], ◌∷◌, sym, ap, ◌∙◌, subst, arith, place_of, best_need, Terms, Layout, with_grant, Granted, ask}
use Rattle.vc_best.specs.Ask.{more_bytes}
use Rattle.vc_best.proofs.Common.{IsPutInGap, layout_by, tiling}
use Rattle.vc_gaps.specs.Cost.{GapsCost}
use Rattle.vc_extent.specs.declared.extents.Extents.{Extents}
use Rattle.vc_best.proofs.Asking.{Answers-granted}
use Rattle.vc_best.proofs.BlockCounts.{put-count}
use Rattle.vc_best.proofs.Costs.{changed_cost, still_cost, then_cost}
use Rattle.vc_best.proofs.Lends.{segments-by}
use Rattle.vc_best.proofs.Longer.{more-change, more-gaps, more-layout, more-out}
use Rattle.vc_best.proofs.lend.put_in_longer.Given.{Over}
use Rattle.vc_best.proofs.lend.put_in_longer.Goals as goal
use Rattle.vc_best.proofs.lend.put_in_longer.Goals.{In-Ok}

-- the terms of the discipline
abbrev terms : (g : Over) (c : In-Ok g) → Terms
terms g c = ((goal.SegDisc-dyn g (c.args.disc.now.vtable, c.args.disc.now.value)).state c.args.disc.now.value).terms

some : (g : Over) (c : In-Ok g) → 1 ≤ c.need_of-bytes.result
some g c = let least = c.need_of-bytes.ensures.legal.least in omega (arith, least)

pub put_at_end-requires : goal.put_at_end-requires
put_at_end-requires g c =
    let i = (goal.at.put_at_end-requires g c).In-Ok in
    let e = c.args.extents.now in
    more-out e.segs.items c.widen_last.new.extents.segs.items e.index.items e.kept c.args.root.now.0 c.args.last.0 c.args.last.1 c.need_of-bytes.result c.args.size c.args.align c.in-Ok.end.0
    (terms g i) c.in-Ok.ensures.more (some g i) c.requires.allowed c.requires.whole c.requires.none c.need_of-bytes.ensures.fits

layout : (g : Over) (c : In-Ok g) → layout_by c.widen_last.new.extents.segs.items ≡ with_grant (layout_by c.args.extents.now.segs.items) (more_bytes c.args.last.0 c.need_of-bytes.result)
layout g c =
    let e = c.args.extents.now in
    more-layout e.segs.items c.widen_last.new.extents.segs.items e.index.items e.kept c.args.root.now.0 c.args.last.0 c.args.last.1 c.need_of-bytes.result c.args.size c.args.align c.in-Ok.end.0
    (terms g c) c.in-Ok.ensures.more (some g c)

pub returns-in-Ok-clause-put : goal.returns-in-Ok-clause-put
returns-in-Ok-clause-put g c =
    let i = (goal.at.returns-in-Ok-clause-put g c).In-Ok in
    let bytes = c.need_of-bytes.result in
    let grant = more_bytes c.args.last.0 bytes in
    let old = layout_by c.args.extents.now.segs.items in
    let new = layout_by c.put_at_end.new.extents.segs.items in
    let put : IsPutInGap (with_grant old grant) new c.args.tag c.args.size c.args.align c.put_at_end.result.0 =
    subst (λ (r : Layout ℕ). IsPutInGap r new c.args.tag c.args.size c.args.align c.put_at_end.result.0) (layout g i) c.put_at_end.ensures.put in
    let granted : ask (terms g i) (best_need (terms g i) c.args.size c.args.align) old.segments false ≡ Granted grant =
    ap (λ (k : ℕ). ask (terms g i) k old.segments false) (sym c.need_of-bytes.ensures.value) ∙ ap (λ (ss : List (ℕ × ℕ)). ask (terms g i) bytes ss false) (segments-by c.args.extents.now.segs.items) ∙ c.in-Ok.ensures.more.granted in
    record {
      answer = Answers-granted old new (terms g i) c.args.tag c.args.size c.args.align c.requires.none grant granted c.put_at_end.result put;
      count = put-count (with_grant old grant) new c.args.tag c.args.size (place_of c.put_at_end.result.0) put.layout;
      err = tt;
      no_memory = λ e. absurd (cc);
      fresh = put.fresh;
    }

pub returns-in-Ok-clause-cost : goal.returns-in-Ok-clause-cost
returns-in-Ok-clause-cost g c =
    let i = (goal.at.returns-in-Ok-clause-cost g c).In-Ok in
    let e = c.args.extents.now in
    let m = c.widen_last.new.extents in
    let root = c.args.root.now.0 in
    let n = c.args.steps.now in
    then_cost
    (more-gaps e.segs.items m.segs.items e.index.items e.kept root c.args.last.0 c.args.last.1 c.need_of-bytes.result c.args.size c.args.align c.in-Ok.end.0 (terms g i) c.in-Ok.ensures.more (some g i) c.requires.whole.kept.gaps)
    (changed_cost _ _ _ _ e.kept m.kept root n n 0 [] (c.in-Ok.end.0 ∷ [])
    (more-change e.segs.items m.segs.items e.index.items e.kept root c.args.last.0 c.args.last.1 c.need_of-bytes.result c.args.size c.args.align c.in-Ok.end.0 (terms g i) c.in-Ok.ensures.more (some g i))
    c.requires.whole.kept.gaps (omega arith))
    c.put_at_end.ensures.cost

pub returns-in-Err-clause-cost : goal.returns-in-Err-clause-cost
returns-in-Err-clause-cost g c =
    let t = tiling c.args.extents.now.segs.items in
    let root = c.args.root.now.0 in
    let n = c.args.steps.now in
    subst (λ (e : Extents). GapsCost t (tiling e.segs.items) root root n n 28 3 2) (sym c.in-Err.ensures.same) (still_cost _ _ c.args.extents.now.kept root n n 28 3 2 (omega arith))
