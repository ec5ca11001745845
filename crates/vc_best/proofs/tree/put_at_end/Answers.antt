use Rattle.vc_base.proofs.Common.{◌≡◌, ℕ, false, ◌||◌, List, [], ◌∷◌, ◌++◌, sym, ap, ◌∙◌, subst, arith, ne_eqb, Layout, least}
use Rattle.vc_best.proofs.Common.{HasGaps, IsPutInGap, free_before, layout_by, tiling}
use Rattle.vc_best.proofs.Costs.{changed_cost, cost_from, then_cost}
use Rattle.vc_best.proofs.Held.{AreMost}
use Rattle.vc_best.proofs.Linking.{gaps-changed}
use Rattle.vc_best.proofs.MergedBut.{merged_but-stays}
use Rattle.vc_best.proofs.Only.{only-stays}
use Rattle.vc_best.proofs.Plain.{before_name-stays, free-stays, layout-stays}
use Rattle.vc_best.proofs.tree.put_at_end.Given.{Over}
use Rattle.vc_best.proofs.tree.put_at_end.Goals as goal
use Rattle.vc_best.proofs.tree.put_at_end.Goals.{After-absorb_before-gap}

pub unlink_before-requires-clause-gaps : goal.unlink_before-requires-clause-gaps
unlink_before-requires-clause-gaps g c =
    let a = c.args.end.0 in
    record {
      out = a ∷ [];
      gaps = c.requires.gaps;
      later = λ b lt. ap (λ z. z || false) (ne_eqb a b (λ q. omega (arith, lt, q)));
    }

pub absorb_before-gap-requires : goal.absorb_before-gap-requires
absorb_before-gap-requires g c =
    record { free = free-stays (tiling c.args.extents.now.segs.items) (tiling c.unlink_before.new.extents.segs.items) c.unlink_before.ensures.rest.extents c.args.end.0 c.requires.free }

-- those that are out before the two become one, and the one that is out then
before : (g : Over) (c : After-absorb_before-gap g) → HasGaps (tiling c.unlink_before.new.extents.segs.items) c.unlink_before.new.root.0
    (free_before (tiling c.unlink_before.new.extents.segs.items) c.args.end.0 ++ c.args.end.0 ∷ [])
before g c =
    let a = c.args.end.0 in
    let t1 = tiling c.args.extents.now.segs.items in
    let t2 = tiling c.unlink_before.new.extents.segs.items in
    subst (λ (ps : List ℕ). HasGaps t2 c.unlink_before.new.root.0 (ps ++ a ∷ [])) (sym (before_name-stays t1 t2 c.unlink_before.ensures.rest.extents a)) (c.unlink_before.ensures.gaps (a ∷ []) c.requires.gaps)

out : (g : Over) (c : After-absorb_before-gap g) → HasGaps (tiling c.absorb_before-gap.new.extents.segs.items) c.unlink_before.new.root.0 (c.absorb_before-gap.result.0 ∷ [])
out g c =
    gaps-changed (tiling c.unlink_before.new.extents.segs.items) (tiling c.absorb_before-gap.new.extents.segs.items) c.unlink_before.new.root.0 _ (c.absorb_before-gap.result.0 ∷ []) c.absorb_before-gap.ensures.gaps (before g c)

same : (g : Over) (c : After-absorb_before-gap g) → layout_by c.absorb_before-gap.new.extents.segs.items ≡ layout_by c.args.extents.now.segs.items
same g c = c.absorb_before-gap.ensures.layout ∙ layout-stays c.args.extents.now.segs.items c.unlink_before.new.extents.segs.items c.unlink_before.ensures.rest

pub put_in_out-requires : goal.put_in_out-requires
put_in_out-requires g c =
    let f = (goal.at.put_in_out-requires g c).After-absorb_before-gap in
    let t1 = tiling c.args.extents.now.segs.items in
    let t2 = tiling c.unlink_before.new.extents.segs.items in
    let links = c.unlink_before.ensures.rest.extents in
    let a = c.args.end.0 in
    record {
      allowed = c.requires.allowed;
      least = sym (ap least (c.absorb_before-gap.ensures.only c.args.size c.args.align (only-stays t1 t2 links c.args.size c.args.align a c.requires.only)));
      merged = c.absorb_before-gap.ensures.merged (merged_but-stays t1 t2 links a c.requires.merged);
      gaps = out g f;
      sizes = subst (λ (r : Layout ℕ). AreMost r.blocks) (sym (same g f)) c.requires.sizes;
    }

pub returns-clause-put : goal.returns-clause-put
returns-clause-put g c =
    subst (λ (r : Layout ℕ). IsPutInGap r (layout_by c.put_in_out.new.extents.segs.items) c.args.tag c.args.size c.args.align c.put_in_out.result.0)
    (same g (goal.at.returns-clause-put g c).After-absorb_before-gap) c.put_in_out.ensures.put

pub returns-clause-cost : goal.returns-clause-cost
returns-clause-cost g c =
    let f = (goal.at.returns-clause-cost g c).After-absorb_before-gap in
    let n = c.args.steps.now in
    then_cost (before g f) (cost_from n c.unlink_before.ensures.cost)
    (then_cost (out g f)
    (changed_cost _ _ _ _ c.unlink_before.new.extents.kept c.absorb_before-gap.new.extents.kept c.unlink_before.new.root.0 n n 0
    (free_before (tiling c.unlink_before.new.extents.segs.items) c.args.end.0 ++ c.args.end.0 ∷ []) (c.absorb_before-gap.result.0 ∷ []) c.absorb_before-gap.ensures.gaps (before g f) (omega arith))
    c.put_in_out.ensures.cost)
