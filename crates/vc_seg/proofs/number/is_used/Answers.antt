use Rattle.vc_base.proofs.Common.{sym}
use Rattle.vc_seg.proofs.Unused.{among-found, among-none}
use Rattle.vc_seg.proofs.number.is_used.Goals as goal

pub returns-in-Some : goal.returns-in-Some
returns-in-Some g c = sym (among-found g.T.Numbered.pair c.args.number c.args.segs.now _ c.in-Some.ensures.found.0 c.in-Some.ensures.found.1)

pub returns-in-None : goal.returns-in-None
returns-in-None g c = sym (among-none g.T.Numbered.pair c.args.number c.args.segs.now c.in-None.ensures.none)
