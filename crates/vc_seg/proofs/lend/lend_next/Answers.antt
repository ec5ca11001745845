use Rattle.vc_base.proofs.Common.{map, arith, length-map}
use Rattle.vc_seg.proofs.Grants.{grant-of}
use Rattle.vc_seg.proofs.lend.lend_next.Goals as goal

pub returns-clause-granted : goal.returns-clause-granted
returns-clause-granted g c =
    let long = length-map c.args.segs.now g.T.Numbered.pair in
    let few = c.if-segs-ge1023.false in
    let last = c.lowest_unused-number.ensures.last in
    grant-of _ c.args.bytes c.lowest_unused-number.result (map g.T.Numbered.pair c.args.segs.now) c.requires.new (omega (arith, few, long)) c.lowest_unused-number.ensures.value c.lowest_unused-number.ensures.first (omega (arith, last, few)) c.lend_segment.result c.lend_segment.ensures.segment
