use Rattle.vc_base.proofs.Common.{◌≡◌, ℕ, ◌≤◌, [], sym, ap, ◌∙◌, subst, arith, place_of, Layout, resize_there, span}
use Rattle.vc_best.proofs.Common.{HasGaps, extent_of, free_next, tiling}
use Rattle.vc_best.proofs.Costs.{changed_cost, cost_from, cost_within, still_cost, then_cost}
use Rattle.vc_best.proofs.Linking.{gaps-changed}
use Rattle.vc_best.proofs.Plain.{busy-still, layout-stays, merged-stays, next_name-stays, room-stays}
use Rattle.vc_best.proofs.tree.resize_block.Given.{Over}
use Rattle.vc_best.proofs.tree.resize_block.Goals as goal
use Rattle.vc_best.proofs.tree.resize_block.Goals.{After-unlink_next}

pub resize_there-requires-2 : goal.resize_there-requires-2
resize_there-requires-2 g c =
    let t = tiling c.args.extents.now.segs.items in
    let t1 = tiling c.unlink_next.new.extents.segs.items in
    let stays = c.unlink_next.ensures.rest.extents in
    record {
      busy = busy-still t t1 stays c.args.a.0 c.requires.busy;
      merged = merged-stays t t1 stays c.requires.kept.merged;
      sized = c.requires.size;
      room = subst (λ (n : ℕ). span c.args.size ≤ n) (sym (room-stays t t1 stays c.args.a.0)) c.requires.room;
    }

-- the one behind it is out
alone : (g : Over) (c : After-unlink_next g) → HasGaps (tiling c.unlink_next.new.extents.segs.items) c.unlink_next.new.root.0 (free_next (tiling c.unlink_next.new.extents.segs.items) c.args.a.0)
alone g c =
    let t1 = tiling c.unlink_next.new.extents.segs.items in
    subst (HasGaps t1 c.unlink_next.new.root.0) (sym (next_name-stays (tiling c.args.extents.now.segs.items) t1 c.unlink_next.ensures.rest.extents c.args.a.0)) c.unlink_next.ensures.gaps

pub link_next-requires-clause-gaps : goal.link_next-requires-clause-gaps
link_next-requires-clause-gaps g c =
    gaps-changed _ _ c.unlink_next.new.root.0 _ _ c.resize_there-2.ensures.gaps.gaps (alone g (goal.at.link_next-requires-clause-gaps g c).After-unlink_next)

pub returns-clause-layout : goal.returns-clause-layout
returns-clause-layout g c =
    layout-stays c.resize_there-2.new.extents.segs.items c.link_next.new.extents.segs.items c.link_next.ensures.rest
    ∙ c.resize_there-2.ensures.layout
    ∙ ap (λ (r : Layout ℕ). resize_there r (place_of c.args.a.0) c.args.size) (layout-stays c.args.extents.now.segs.items c.unlink_next.new.extents.segs.items c.unlink_next.ensures.rest)

pub returns-clause-kept : goal.returns-clause-kept
returns-clause-kept g c =
    record {
      merged = merged-stays (tiling c.resize_there-2.new.extents.segs.items) (tiling c.link_next.new.extents.segs.items) c.link_next.ensures.rest.extents c.resize_there-2.ensures.merged;
      gaps = c.link_next.ensures.gaps;
    }

pub returns-then-span_of-span_at-clause-kept : goal.returns-then-span_of-span_at-clause-kept
returns-then-span_of-span_at-clause-kept g c =
    let same : span c.args.size ≡ (extent_of (tiling c.args.extents.now.segs.items) c.args.a.0).span = omega (arith, c.span_of.ensures, c.span_at.ensures.value, c.if-span_of-span_at.true) in
    record {
      merged = c.resize_there.ensures.merged;
      gaps = gaps-changed _ _ c.args.root.now.0 [] [] (c.resize_there.ensures.gaps.same_span same) c.requires.kept.gaps;
    }

pub returns-clause-cost : goal.returns-clause-cost
returns-clause-cost g c =
    let at = goal.at.returns-clause-cost g c in
    let w = alone g at.After-unlink_next in
    let read = c.span_at.new.steps in
    let from = c.args.steps.now in
    then_cost c.requires.kept.gaps (still_cost _ _ c.args.extents.now.kept c.args.root.now.0 from read 0 1 0 (let one = c.span_at.ensures.counter in omega arith))
    (then_cost w (cost_from read c.unlink_next.ensures.cost)
    (then_cost (gaps-changed _ _ c.unlink_next.new.root.0 _ _ c.resize_there-2.ensures.gaps.gaps w)
    (changed_cost _ _ _ _ c.unlink_next.new.extents.kept c.resize_there-2.new.extents.kept c.unlink_next.new.root.0 read c.resize_there-2.new.steps 1 _ _ c.resize_there-2.ensures.gaps.gaps w (let one = c.resize_there-2.ensures.counter in omega arith))
    c.link_next.ensures.cost))

pub returns-then-span_of-span_at-clause-cost : goal.returns-then-span_of-span_at-clause-cost
returns-then-span_of-span_at-clause-cost g c =
    let same : span c.args.size ≡ (extent_of (tiling c.args.extents.now.segs.items) c.args.a.0).span = omega (arith, c.span_of.ensures, c.span_at.ensures.value) in
    cost_within
    (changed_cost _ _ _ _ c.args.extents.now.kept c.resize_there.new.extents.kept c.args.root.now.0 c.args.steps.now c.resize_there.new.steps 2 [] [] (c.resize_there.ensures.gaps.same_span same) c.requires.kept.gaps
    (let one = c.span_at.ensures.counter in let two = c.resize_there.ensures.counter in omega arith))
    20 3 1 (omega arith) (omega arith) (omega arith)
