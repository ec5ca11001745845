use Rattle.vc_base.proofs.Common.{◌≡◌, ℕ, true, List, [], ◌∷◌, sym, refl, subst, arith, contains}
use Rattle.vc_best.proofs.Common.{HasGaps, extent_of, free_next, tiling}
use Rattle.vc_base.proofs.Members.{within-head}
use Rattle.vc_gaps.proofs.GapTrees.{can_link-out}
use Rattle.vc_best.proofs.Costs.{still_cost}
use Rattle.vc_best.proofs.Linking.{next-not, next-one}
use Rattle.vc_best.proofs.Nexts.{not-busy}
use Rattle.vc_best.proofs.tree.link_next.Given.{Over}
use Rattle.vc_best.proofs.tree.link_next.Goals as goal
use Rattle.vc_best.proofs.tree.link_next.Goals.{Then-not-is_busy}

-- the extent behind is the one that is out
free : (g : Over) (c : Then-not-is_busy g) → free_next (tiling c.args.extents.now.segs.items) c.args.a.0 ≡ c.in-Some.next.0 ∷ []
free g c =
    let b = c.in-Some.next.0 in
    next-one _ _ c.args.extents.now.kept c.args.a.0 c.requires.named b c.in-Some.ensures.value (not-busy c.is_busy.result (extent_of (tiling c.args.extents.now.segs.items) b).size c.is_busy.ensures.1 c.if-not-is_busy.true)

pub link_gap-requires : goal.link_gap-requires
link_gap-requires g c =
    let t = tiling c.args.extents.now.segs.items in
    let b = c.in-Some.next.0 in
    can_link-out t c.args.root.now.0 (free_next t c.args.a.0) b c.requires.gaps
    (subst (λ (ns : List ℕ). contains ns b ≡ true) (sym (free g (goal.at.link_gap-requires g c).Then-not-is_busy)) (within-head b []))
    (record { named = c.in-Some.ensures.named; free = not-busy c.is_busy.result (extent_of (tiling c.args.extents.now.segs.items) b).size c.is_busy.ensures.1 c.if-not-is_busy.true })

pub returns-then-not-is_busy-clause-gaps : goal.returns-then-not-is_busy-clause-gaps
returns-then-not-is_busy-clause-gaps g c =
    c.link_gap.ensures.linked.gaps []
    (subst (HasGaps (tiling c.args.extents.now.segs.items) c.args.root.now.0) (free g (goal.at.returns-then-not-is_busy-clause-gaps g c).Then-not-is_busy) c.requires.gaps) refl

pub returns-else-not-is_busy-clause-gaps : goal.returns-else-not-is_busy-clause-gaps
returns-else-not-is_busy-clause-gaps g c =
    subst (HasGaps (tiling c.args.extents.now.segs.items) c.args.root.now.0)
    (next-not _ _ c.args.extents.now.kept c.args.a.0 c.requires.named c.in-Some.next.0 c.in-Some.ensures.value (c.is_busy.ensures.0 c.if-not-is_busy.false)) c.requires.gaps

pub returns-else-not-is_busy-clause-cost : goal.returns-else-not-is_busy-clause-cost
returns-else-not-is_busy-clause-cost g c = still_cost _ _ c.args.extents.now.kept c.args.root.now.0 c.args.steps.now c.args.steps.now 8 1 1 (omega arith)

pub returns-in_default-clause-cost : goal.returns-in_default-clause-cost
returns-in_default-clause-cost g c = still_cost _ _ c.args.extents.now.kept c.args.root.now.0 c.args.steps.now c.args.steps.now 8 1 1 (omega arith)
