use Rattle.vc_pool.proofs.Sound.{kept-of}
use Rattle.vc_pool.proofs.pool.Pool.read.Goals as goal

pub read_at-requires-clause-kept : goal.read_at-requires-clause-kept
read_at-requires-clause-kept g c = rw c.deref.ensures.value (kept-of c.args.self.now).cells
