use Rattle.vc_base.proofs.Common.{◌≡◌, ℕ, ◌-◌, false, ◌≢◌, List, [], ◌∷◌, Err, Result, IsErrOf, sym, ap, ◌∙◌, subst, arith, place_of, best_need, Terms, Layout, with_grant, Granted, TooMany, ask, new_segment}
use Rattle.vc_best.proofs.Common.{Addr, AreWhole, IsLeastOut, IsPutInGap, layout_by, tiling}
use Rattle.vc_seg.specs.declared.fault.RegionFault.{RegionFault}
use Rattle.vc_seg.specs.declared.fault.RegionFault.TheVariants as code
use Rattle.vc_seg.specs.Lend.{IsNoGrant}
use Rattle.vc_gaps.specs.Cost.{GapsCost}
use Rattle.vc_extent.specs.declared.extents.Extents.{Extents}
use Rattle.vc_seg.proofs.Segments.{Served-granted}
use Rattle.vc_best.proofs.Asking.{Answers-fault, Answers-granted}
use Rattle.vc_best.proofs.BlockCounts.{put-count}
use Rattle.vc_best.proofs.Costs.{changed_cost, still_cost, then_cost}
use Rattle.vc_best.proofs.Lends.{lent-change, lent-out, segments-by}
use Rattle.vc_best.proofs.Segments.{layout-added}
use Rattle.vc_best.proofs.lend.put_in_new.Goals as goal
use Rattle.vc_best.proofs.lend.put_in_new.Goals.{After-new-a, After-need_of-bytes}
use Rattle.vc_best.proofs.lend.put_in_new.Given.{Over}

same_fault : (a b : RegionFault) → IsErrOf {T = Addr} (Err a) b → IsErrOf {T = ℕ} (Err a) b
same_fault a b e = let s : a ≡ b = cc in let f : RegionFault → Result ℕ RegionFault = λ z. Err z in ap f s

-- the terms of the discipline
abbrev terms : (g : Over) (c : After-need_of-bytes g) → Terms
terms g c = ((goal.SegDisc-dyn g (c.args.disc.now.vtable, c.args.disc.now.value)).state c.args.disc.now.value).terms

out : (g : Over) (c : After-new-a g) → IsLeastOut c.lend_next.new.extents.segs.items c.args.root.now.0 c.args.size c.args.align c.new-a.result.0
out g c =
    let b = (goal.at.After-new-a g c).After-need_of-bytes in
    lent-out _ c.lend_next.new.extents.segs.items _ c.args.extents.now.kept c.args.root.now.0 c.in-Ok.number c.need_of-bytes.result c.args.size c.args.align c.new-a.result.0 c.new-a.ensures.place c.new-a.ensures.value
    (terms g b) c.in-Ok.ensures.lent c.requires.allowed c.requires.whole c.requires.none c.need_of-bytes.ensures.legal c.need_of-bytes.ensures.fits

pub put_in_out-requires : goal.put_in_out-requires
put_in_out-requires g c = out g (goal.at.put_in_out-requires g c).After-new-a

pub returns-in-Ok-clause-put : goal.returns-in-Ok-clause-put
returns-in-Ok-clause-put g c =
    let n = c.in-Ok.number in
    let bytes = c.need_of-bytes.result in
    let old = layout_by c.args.extents.now.segs.items in
    let new = layout_by c.put_in_out.new.extents.segs.items in
    let lent = with_grant old (new_segment n bytes) in
    let b = (goal.at.returns-in-Ok-clause-put g c).After-need_of-bytes in
    let l = c.in-Ok.ensures.lent in
    let put : IsPutInGap lent new c.args.tag c.args.size c.args.align c.put_in_out.result.0 =
    subst (λ (r : Layout ℕ). IsPutInGap r new c.args.tag c.args.size c.args.align c.put_in_out.result.0) (layout-added c.args.extents.now.segs.items c.lend_next.new.extents.segs.items n bytes (bytes - 32) l.extents l.pairs) c.put_in_out.ensures.put in
    let granted : ask (terms g b) (best_need (terms g b) c.args.size c.args.align) old.segments false ≡ Granted (new_segment n bytes) =
    ap (λ (k : ℕ). ask (terms g b) k old.segments false) (sym c.need_of-bytes.ensures.value) ∙ ap (λ (ss : List (ℕ × ℕ)). ask (terms g b) bytes ss false) (segments-by c.args.extents.now.segs.items) ∙ l.granted in
    record {
      answer = Answers-granted old new (terms g b) c.args.tag c.args.size c.args.align c.requires.none (new_segment n bytes) granted c.put_in_out.result put;
      count = put-count lent new c.args.tag c.args.size (place_of c.put_in_out.result.0) put.layout;
      err = tt;
      no_memory = λ e. absurd (cc);
      fresh = put.fresh;
    }

pub returns-in-Err-clause-put : goal.returns-in-Err-clause-put
returns-in-Err-clause-put g c =
    let segs = c.args.extents.now.segs.items in
    let old = layout_by segs in
    let b = (goal.at.returns-in-Err-clause-put g c).After-need_of-bytes in
    let same : layout_by c.lend_next.new.extents.segs.items ≡ old = ap (λ (e : Extents). layout_by e.segs.items) c.in-Err.ensures.same in
    let none : IsNoGrant (terms g b) (best_need (terms g b) c.args.size c.args.align) old.segments c.in-Err.fault =
    subst (λ (k : ℕ). IsNoGrant (terms g b) k old.segments c.in-Err.fault) c.need_of-bytes.ensures.value (subst (λ (ss : List (ℕ × ℕ)). IsNoGrant (terms g b) c.need_of-bytes.result ss c.in-Err.fault) (sym (segments-by segs)) c.in-Err.ensures.fault) in
    record {
      answer = Answers-fault old (layout_by c.lend_next.new.extents.segs.items) (terms g b) c.args.tag c.args.size c.args.align c.requires.none c.in-Err.fault none same;
      count = tt;
      err = same;
      no_memory = λ e. record {
        none = c.requires.none;
        may =
            subst (λ (k : ℕ). ask (terms g b) k old.segments false ≢ TooMany) c.need_of-bytes.ensures.value
            (subst (λ (ss : List (ℕ × ℕ)). ask (terms g b) c.need_of-bytes.result ss false ≢ TooMany) (sym (segments-by segs)) (c.in-Err.ensures.no_memory (same_fault c.in-Err.fault code.OutOfMemory e)));
      };
      fresh = tt;
    }

pub returns-in-Err-clause-whole : goal.returns-in-Err-clause-whole
returns-in-Err-clause-whole g c = subst (λ (e : Extents). AreWhole e.segs.items c.args.root.now.0) (sym c.in-Err.ensures.same) c.requires.whole

pub returns-in-Ok-clause-disc : goal.returns-in-Ok-clause-disc
returns-in-Ok-clause-disc g c =
    Served-granted _ _ _ _ c.in-Ok.number c.need_of-bytes.result _ c.need_of-bytes.ensures.value
    (ap (λ (r : Layout ℕ). r.segments) c.put_in_out.ensures.put.layout ∙ ap (λ (r : Layout ℕ). r.segments) (layout-added c.args.extents.now.segs.items c.lend_next.new.extents.segs.items c.in-Ok.number c.need_of-bytes.result (c.need_of-bytes.result - 32) c.in-Ok.ensures.lent.extents c.in-Ok.ensures.lent.pairs)) c.in-Ok.ensures.disc

pub returns-in-Ok-clause-cost : goal.returns-in-Ok-clause-cost
returns-in-Ok-clause-cost g c =
    let at = goal.at.returns-in-Ok-clause-cost g c in
    let b = at.After-need_of-bytes in
    let root = c.args.root.now.0 in
    let n = c.args.steps.now in
    then_cost (out g at.After-new-a).gaps
    (changed_cost _ _ _ _ c.args.extents.now.kept c.lend_next.new.extents.kept root n n 0 [] (c.new-a.result.0 ∷ [])
    (lent-change _ c.lend_next.new.extents.segs.items _ c.args.extents.now.kept root c.in-Ok.number c.need_of-bytes.result c.args.size c.args.align c.new-a.result.0 c.new-a.ensures.place c.new-a.ensures.value
    (terms g b) c.in-Ok.ensures.lent c.requires.allowed c.requires.whole c.requires.none c.need_of-bytes.ensures.legal c.need_of-bytes.ensures.fits)
    c.requires.whole.kept.gaps (omega arith))
    c.put_in_out.ensures.cost

pub returns-in-Err-clause-cost : goal.returns-in-Err-clause-cost
returns-in-Err-clause-cost g c =
    let t = tiling c.args.extents.now.segs.items in
    let root = c.args.root.now.0 in
    let n = c.args.steps.now in
    subst (λ (e : Extents). GapsCost t (tiling e.segs.items) root root n n 16 3 2) (sym c.in-Err.ensures.same) (still_cost _ _ c.args.extents.now.kept root n n 16 3 2 (omega arith))
