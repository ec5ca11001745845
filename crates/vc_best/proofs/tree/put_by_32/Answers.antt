use Rattle.vc_base.proofs.Common.{[], sym, refl, subst, arith, Layout, place_of, span}
use Rattle.vc_model.proofs.Owned.{address-place_of}
use Rattle.vc_best.proofs.Common.{IsPutInGap, layout_by, tiling}
use Rattle.vc_best.proofs.Bests.{best-free, least-stays}
use Rattle.vc_best.proofs.Costs.{cost_from, cost_within, still_cost, then_cost}
use Rattle.vc_best.proofs.Held.{AreMost}
use Rattle.vc_best.proofs.Linking.{in-tree}
use Rattle.vc_best.proofs.Plain.{layout-stays, merged-stays}
use Rattle.vc_best.proofs.Puts.{IsLeastGap, put-in_gap, put-most}
use Rattle.vc_best.proofs.tree.put_by_32.Given.{Over}
use Rattle.vc_best.proofs.tree.put_by_32.Goals as goal
use Rattle.vc_best.proofs.tree.put_by_32.Goals.{After-span_at}

pub span_at-requires : goal.span_at-requires
span_at-requires g c =
    let e = c.args.extents.now in
    (best-free e.segs.items e.index.items e.kept (span c.args.size) 32 c.args.a.0 c.requires.least).named

-- the gap, where it is in the tree
gap : (g : Over) (c : After-span_at g) → IsLeastGap c.args.extents.now.segs.items c.args.size 32 c.args.a.0
gap g c = record { allowed = c.requires.allowed; least = c.requires.least; merged = c.requires.whole.kept.merged; sizes = c.requires.whole.sizes }

pub returns-then-span_of-span_at-clause-put : goal.returns-then-span_of-span_at-clause-put
returns-then-span_of-span_at-clause-put g c =
    let at = goal.at.returns-then-span_of-span_at-clause-put g c in
    put-in_gap _ _ c.args.extents.now.kept c.args.size 32 c.args.tag c.args.a.0 (place_of c.args.a.0).1 (gap g at.After-span_at) (omega arith) _ _ c.put_at_start.new.extents.kept c.args.a.0 (sym (address-place_of c.args.a.0)) c.put_at_start.ensures.layout

pub returns-then-span_of-span_at-clause-whole : goal.returns-then-span_of-span_at-clause-whole
returns-then-span_of-span_at-clause-whole g c =
    let at = goal.at.returns-then-span_of-span_at-clause-whole g c in
    record {
      kept = c.put_at_start.ensures.kept;
      sizes = put-most _ _ c.args.extents.now.kept c.args.size 32 c.args.tag c.args.a.0 (place_of c.args.a.0).1 (gap g at.After-span_at) (omega arith) _ _ c.put_at_start.new.extents.kept c.args.a.0 (sym (address-place_of c.args.a.0)) c.put_at_start.ensures.layout;
    }

pub unlink_gap-requires : goal.unlink_gap-requires
unlink_gap-requires g c =
    let e = c.args.extents.now in
    let f = best-free e.segs.items e.index.items e.kept (span c.args.size) 32 c.args.a.0 c.requires.least in
    in-tree (tiling e.segs.items) c.args.root.now.0 [] c.args.a.0 c.requires.whole.kept.gaps f.named f.free refl

pub put_in_out-requires : goal.put_in_out-requires
put_in_out-requires g c =
    let old = c.args.extents.now.segs.items in
    let new = c.unlink_gap.new.extents.segs.items in
    record {
      allowed = c.requires.allowed;
      least = least-stays (tiling old) (tiling new) c.unlink_gap.ensures.rest.extents (span c.args.size) 32 c.args.a.0 c.requires.least;
      merged = merged-stays (tiling old) (tiling new) c.unlink_gap.ensures.rest.extents c.requires.whole.kept.merged;
      gaps = c.unlink_gap.ensures.unlinked.gaps [] c.requires.whole.kept.gaps;
      sizes = subst (λ (r : Layout _). AreMost r.blocks) (sym (layout-stays old new c.unlink_gap.ensures.rest)) c.requires.whole.sizes;
    }

pub returns-clause-put : goal.returns-clause-put
returns-clause-put g c =
    subst (λ (r : Layout _). IsPutInGap r (layout_by c.put_in_out.new.extents.segs.items) c.args.tag c.args.size 32 c.put_in_out.result.0)
    (layout-stays c.args.extents.now.segs.items c.unlink_gap.new.extents.segs.items c.unlink_gap.ensures.rest) c.put_in_out.ensures.put

pub returns-clause-cost : goal.returns-clause-cost
returns-clause-cost g c =
    let one = c.span_at.ensures.counter in
    cost_within
    (then_cost c.requires.whole.kept.gaps
    (still_cost _ _ c.args.extents.now.kept c.args.root.now.0 c.args.steps.now c.span_at.new.steps 0 1 0 (omega arith))
    (then_cost (c.unlink_gap.ensures.unlinked.gaps [] c.requires.whole.kept.gaps) (cost_from c.span_at.new.steps c.unlink_gap.ensures.cost) (c.put_in_out.ensures.cost_by_32 refl)))
    28 3 2 (omega arith) (omega arith) (omega arith)
