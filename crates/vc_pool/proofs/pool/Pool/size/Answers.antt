use Rattle.vc_pool.proofs.Sound.{kept-of}
use Rattle.vc_pool.proofs.pool.Pool.size.Goals as goal

pub pair_at-requires-clause-kept : goal.pair_at-requires-clause-kept
pair_at-requires-clause-kept g c = rw c.deref.ensures.value (kept-of c.args.self.now).cells
