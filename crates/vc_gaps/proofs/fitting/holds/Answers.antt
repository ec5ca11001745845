use Rattle.vc_gaps.proofs.Common.{tiling}
use Rattle.vc_gaps.proofs.Holding.{gap_off, holds-computed}
use Rattle.vc_gaps.proofs.fitting.holds.Goals as goal

pub returns-clause-value : goal.returns-clause-value
returns-clause-value g c =
    let segs = c.args.gaps.now.extents.now.segs.items in
    holds-computed (tiling segs) c.args.at c.args.span c.args.align c.off-off.result c.rounded_up.result c.span_at-bytes.result
    (gap_off segs c.args.gaps.now.extents.now.index.items c.args.gaps.now.extents.now.kept c.args.at c.requires.free) c.requires.least c.off-off.ensures c.rounded_up.ensures c.span_at-bytes.ensures.value
