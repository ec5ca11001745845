use Rattle.vc_base.proofs.Common.{ℕ, List, [], ◌∷◌, ◌++◌, sym, refl, ap, ◌∙◌, subst, arith, place_of, without_block_at, Layout}
use Rattle.vc_best.proofs.Common.{HasGaps, StaysButLinks, free_before, free_next, tiling}
use Rattle.vc_base.proofs.Members.{within-head}
use Rattle.vc_gaps.specs.GapLaws.{but_links_twice}
use Rattle.vc_gaps.proofs.GapTrees.{can_link-out}
use Rattle.vc_best.proofs.Costs.{changed_cost, cost_from, then_cost}
use Rattle.vc_best.proofs.Linking.{gaps-changed, next-later}
use Rattle.vc_best.proofs.Plain.{before_name-stays, busy-still, layout-stays, merged-stays, named-stays, next_name-stays}
use Rattle.vc_best.proofs.tree.free_block.Given.{Over}
use Rattle.vc_best.proofs.tree.free_block.Goals as goal
use Rattle.vc_best.proofs.tree.free_block.Goals.{After-release-freed, After-unlink_before, After-unlink_next}

pub unlink_before-requires-clause-named : goal.unlink_before-requires-clause-named
unlink_before-requires-clause-named g c = named-stays (tiling c.args.extents.now.segs.items) (tiling c.unlink_next.new.extents.segs.items) c.unlink_next.ensures.rest.extents c.args.a.0 c.requires.busy.named

-- the one behind is out of the tree
behind : (g : Over) (c : After-unlink_next g) → HasGaps (tiling c.unlink_next.new.extents.segs.items) c.unlink_next.new.root.0 (free_next (tiling c.unlink_next.new.extents.segs.items) c.args.a.0)
behind g c =
    let t1 = tiling c.unlink_next.new.extents.segs.items in
    subst (HasGaps t1 c.unlink_next.new.root.0) (sym (next_name-stays (tiling c.args.extents.now.segs.items) t1 c.unlink_next.ensures.rest.extents c.args.a.0)) c.unlink_next.ensures.gaps

pub unlink_before-requires-clause-gaps : goal.unlink_before-requires-clause-gaps
unlink_before-requires-clause-gaps g c =
    let u = (goal.at.unlink_before-requires-clause-gaps g c).After-unlink_next in
    let e = c.unlink_next.new.extents in
    record {
      out = free_next (tiling e.segs.items) c.args.a.0;
      gaps = behind g u;
      later = next-later e.segs.items e.index.items e.kept c.args.a.0 (named-stays (tiling c.args.extents.now.segs.items) (tiling e.segs.items) c.unlink_next.ensures.rest.extents c.args.a.0 c.requires.busy.named);
    }

-- all but links is as it was when both are out
rest : (g : Over) (c : After-unlink_before g) → StaysButLinks c.args.extents.now.segs.items c.unlink_before.new.extents.segs.items
rest g c = but_links_twice c.args.extents.now.segs.items c.unlink_next.new.extents.segs.items c.unlink_before.new.extents.segs.items c.unlink_next.ensures.rest c.unlink_before.ensures.rest

pub release-freed-requires-clause-busy : goal.release-freed-requires-clause-busy
release-freed-requires-clause-busy g c =
    busy-still (tiling c.args.extents.now.segs.items) (tiling c.unlink_before.new.extents.segs.items) (rest g (goal.at.release-freed-requires-clause-busy g c).After-unlink_before).extents c.args.a.0 c.requires.busy

pub release-freed-requires-clause-merged : goal.release-freed-requires-clause-merged
release-freed-requires-clause-merged g c =
    merged-stays (tiling c.args.extents.now.segs.items) (tiling c.unlink_before.new.extents.segs.items) (rest g (goal.at.release-freed-requires-clause-merged g c).After-unlink_before).extents c.requires.kept.merged

-- those beside it are out, and then the freed one alone
beside : (g : Over) (c : After-release-freed g) → HasGaps (tiling c.unlink_before.new.extents.segs.items) c.unlink_before.new.root.0
    (free_before (tiling c.unlink_before.new.extents.segs.items) c.args.a.0 ++ free_next (tiling c.unlink_before.new.extents.segs.items) c.args.a.0)
beside g c =
    let a = c.args.a.0 in
    let t1 = tiling c.unlink_next.new.extents.segs.items in
    let t2 = tiling c.unlink_before.new.extents.segs.items in
    let root = c.unlink_before.new.root.0 in
    let same = c.unlink_before.ensures.rest.extents in
    subst (λ (ps : List ℕ). HasGaps t2 root (ps ++ free_next t2 a)) (sym (before_name-stays t1 t2 same a))
    (subst (λ (ns : List ℕ). HasGaps t2 root (free_before t1 a ++ ns)) (sym (next_name-stays t1 t2 same a))
    (c.unlink_before.ensures.gaps (free_next t1 a) (behind g (goal.at.After-release-freed g c).After-unlink_next)))

freed : (g : Over) (c : After-release-freed g) → HasGaps (tiling c.release-freed.new.extents.segs.items) c.unlink_before.new.root.0 (c.release-freed.result.0 ∷ [])
freed g c =
    gaps-changed (tiling c.unlink_before.new.extents.segs.items) (tiling c.release-freed.new.extents.segs.items) c.unlink_before.new.root.0 _ (c.release-freed.result.0 ∷ []) c.release-freed.ensures.gaps (beside g c)

pub link_gap-requires : goal.link_gap-requires
link_gap-requires g c =
    let a = c.release-freed.result.0 in
    can_link-out (tiling c.release-freed.new.extents.segs.items) c.unlink_before.new.root.0 (a ∷ []) a (freed g (goal.at.link_gap-requires g c).After-release-freed) (within-head a []) c.release-freed.ensures.free

pub returns-clause-layout : goal.returns-clause-layout
returns-clause-layout g c =
    layout-stays c.release-freed.new.extents.segs.items c.link_gap.new.extents.segs.items c.link_gap.ensures.rest
    ∙ c.release-freed.ensures.layout
    ∙ ap (λ (r : Layout ℕ). without_block_at r (place_of c.args.a.0)) (layout-stays c.args.extents.now.segs.items c.unlink_before.new.extents.segs.items (rest g (goal.at.returns-clause-layout g c).After-unlink_before))

pub returns-clause-kept : goal.returns-clause-kept
returns-clause-kept g c =
    record {
      merged = merged-stays (tiling c.release-freed.new.extents.segs.items) (tiling c.link_gap.new.extents.segs.items) c.link_gap.ensures.rest.extents c.release-freed.ensures.merged;
      gaps = c.link_gap.ensures.linked.gaps [] (freed g (goal.at.returns-clause-kept g c).After-release-freed) refl;
    }

pub returns-clause-cost : goal.returns-clause-cost
returns-clause-cost g c =
    let at = goal.at.returns-clause-cost g c in
    let n = c.args.steps.now in
    then_cost c.unlink_next.ensures.gaps (cost_from n c.unlink_next.ensures.cost)
    (then_cost (beside g at.After-release-freed) (cost_from n c.unlink_before.ensures.cost)
    (then_cost (freed g at.After-release-freed)
    (changed_cost _ _ _ _ c.unlink_before.new.extents.kept c.release-freed.new.extents.kept c.unlink_before.new.root.0 n n 0
    (free_before (tiling c.unlink_before.new.extents.segs.items) c.args.a.0 ++ free_next (tiling c.unlink_before.new.extents.segs.items) c.args.a.0) (c.release-freed.result.0 ∷ []) c.release-freed.ensures.gaps (beside g at.After-release-freed) (omega arith))
    c.link_gap.ensures.cost))
