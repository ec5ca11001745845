use Rattle.vc_pool.proofs.Sound.{kept-of}
use Rattle.vc_pool.proofs.pool.Pool.next_block.Goals as goal

pub next_in-requires : goal.next_in-requires
next_in-requires g c = record { kept = rw c.deref.ensures.value (kept-of c.args.self.now).cells }
