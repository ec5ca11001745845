use Rattle.vc_base.proofs.Common.{ℕ, List, ◌++◌, sym, subst, arith, place_of}
use Rattle.vc_best.proofs.Common.{HasGaps, extent_of, previous_of, tiling}
use Rattle.vc_best.proofs.Costs.{still_cost}
use Rattle.vc_best.proofs.Linking.{before-less, before-not, before-one, in-tree}
use Rattle.vc_best.proofs.Nexts.{not-busy, some-address}
use Rattle.vc_best.proofs.tree.unlink_before.Goals as goal

pub unlink_gap-requires : goal.unlink_gap-requires
unlink_gap-requires c =
    let t = tiling c.args.extents.now.segs.items in
    let a = c.args.a.0 in
    let b = c.in-Some.before.0 in
    let f = some-address (place_of a).0 b (previous_of t a) c.in-Some.ensures.value in
    in-tree t c.args.root.now.0 c.requires.gaps.out b c.requires.gaps.gaps c.in-Some.ensures.named (not-busy c.is_busy.result (extent_of (tiling c.args.extents.now.segs.items) b).size c.is_busy.ensures.1 c.if-not-is_busy.true)
    (c.requires.gaps.later b (before-less _ _ c.args.extents.now.kept a c.requires.named b f.0 f.1 f.2))

pub returns-then-not-is_busy-clause-gaps : goal.returns-then-not-is_busy-clause-gaps
returns-then-not-is_busy-clause-gaps c =
    let b = c.in-Some.before.0 in
    λ out h.
    subst (λ (ps : List ℕ). HasGaps (tiling c.unlink_gap.new.extents.segs.items) c.unlink_gap.result.0 (ps ++ out))
    (sym (before-one _ _ c.args.extents.now.kept c.args.a.0 c.requires.named b c.in-Some.ensures.value (not-busy c.is_busy.result (extent_of (tiling c.args.extents.now.segs.items) b).size c.is_busy.ensures.1 c.if-not-is_busy.true)))
    (c.unlink_gap.ensures.unlinked.gaps out h)

pub returns-else-not-is_busy-clause-gaps : goal.returns-else-not-is_busy-clause-gaps
returns-else-not-is_busy-clause-gaps c =
    let t = tiling c.args.extents.now.segs.items in
    λ out h.
    subst (λ (ps : List ℕ). HasGaps t c.args.root.now.0 (ps ++ out))
    (sym (before-not _ _ c.args.extents.now.kept c.args.a.0 c.requires.named c.in-Some.before.0 c.in-Some.ensures.value (c.is_busy.ensures.0 c.if-not-is_busy.false))) h

pub returns-else-not-is_busy-clause-cost : goal.returns-else-not-is_busy-clause-cost
returns-else-not-is_busy-clause-cost c = still_cost _ _ c.args.extents.now.kept c.args.root.now.0 0 0 12 0 0 (omega arith)

pub returns-in_default-clause-cost : goal.returns-in_default-clause-cost
returns-in_default-clause-cost c = still_cost _ _ c.args.extents.now.kept c.args.root.now.0 0 0 12 0 0 (omega arith)
