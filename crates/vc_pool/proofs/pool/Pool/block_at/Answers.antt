use Rattle.vc_pool.proofs.Sound.{kept-of}
use Rattle.vc_pool.proofs.pool.Pool.block_at.Goals as goal

pub block_in-requires : goal.block_in-requires
block_in-requires g c = record { kept = rw c.deref.ensures.value (kept-of c.args.self.now).cells }
