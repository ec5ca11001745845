use Rattle.vc_base.proofs.Common.{List, ap, ◌∙◌}
use Rattle.vc_pool.specs.declared.cells.segment.PoolSegment.{PoolSegment}
use Rattle.vc_pool.specs.Read.{pool_by}
use Rattle.vc_pool.specs.Stat.{pool_stat}
use Rattle.vc_pool.proofs.Sound.{kept-of}
use Rattle.vc_pool.proofs.pool.Pool.stat.Goals as goal

pub stat_of-requires : goal.stat_of-requires
stat_of-requires g c = record { kept = rw c.deref.ensures.value (kept-of c.args.self.now).cells }

pub returns : goal.returns
returns g c = c.stat_of.ensures c.args.self.now.freed.0 ∙ ap (λ (ss : List PoolSegment). pool_stat (pool_by ss c.args.self.now.element c.args.self.now.freed.0)) c.deref.ensures.value
