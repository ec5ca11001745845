use Rattle.vc_last.proofs.Types.{have}
use Rattle.vc_last.proofs.last.Last.next_block.Goals as goal

pub next_in-requires : goal.next_in-requires
next_in-requires g c = record { kept = rw c.deref.ensures.value (have c.args.self.now.segs.items c.args.self.now.latest.0 c.args.self.now.kept) }
