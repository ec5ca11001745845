use Rattle.vc_last.proofs.Types.{have}
use Rattle.vc_last.proofs.last.Last.block_at.Goals as goal

pub block_in-requires : goal.block_in-requires
block_in-requires g c = record { kept = rw c.deref.ensures.value (have c.args.self.now.segs.items c.args.self.now.latest.0 c.args.self.now.kept) }
