use Rattle.vc_base.proofs.Common.{arith}
use Rattle.vc_pool.proofs.PoolAfterCalls.{pairs-length}
use Rattle.vc_pool.proofs.pool.Pool.segment_count.Goals as goal

pub returns : goal.returns
returns g c = let long = pairs-length c.args.self.now.segs.items c.args.self.now.element c.args.self.now.freed.0 in omega (arith, long, c.len.ensures, c.args.self.now.segs.ok)
