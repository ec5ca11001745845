use Rattle.vc_base.proofs.Common.{[], sym, subst, arith}
use Rattle.vc_best.proofs.Common.{HasGaps, extent_of, tiling}
use Rattle.vc_best.proofs.Costs.{still_cost}
use Rattle.vc_best.proofs.Linking.{next-not, next-one}
use Rattle.vc_best.proofs.Nexts.{not-busy}
use Rattle.vc_best.proofs.tree.unlink_next.Goals as goal

pub returns-then-not-is_busy-clause-gaps : goal.returns-then-not-is_busy-clause-gaps
returns-then-not-is_busy-clause-gaps c =
    let b = c.in-Some.next.0 in
    subst (HasGaps (tiling c.unlink_gap.new.extents.segs.items) c.unlink_gap.result.0)
    (sym (next-one _ _ c.args.extents.now.kept c.args.a.0 c.requires.named b c.in-Some.ensures.value (not-busy c.is_busy.result (extent_of (tiling c.args.extents.now.segs.items) b).size c.is_busy.ensures.1 c.if-not-is_busy.true)))
    (c.unlink_gap.ensures.unlinked.gaps [] c.requires.gaps)

pub returns-else-not-is_busy-clause-gaps : goal.returns-else-not-is_busy-clause-gaps
returns-else-not-is_busy-clause-gaps c =
    subst (HasGaps (tiling c.args.extents.now.segs.items) c.args.root.now.0)
    (sym (next-not _ _ c.args.extents.now.kept c.args.a.0 c.requires.named c.in-Some.next.0 c.in-Some.ensures.value (c.is_busy.ensures.0 c.if-not-is_busy.false))) c.requires.gaps

pub returns-else-not-is_busy-clause-cost : goal.returns-else-not-is_busy-clause-cost
returns-else-not-is_busy-clause-cost c = still_cost _ _ c.args.extents.now.kept c.args.root.now.0 0 0 12 0 0 (omega arith)

pub returns-in_default-clause-cost : goal.returns-in_default-clause-cost
returns-in_default-clause-cost c = still_cost _ _ c.args.extents.now.kept c.args.root.now.0 0 0 12 0 0 (omega arith)
