use Rattle.vc_base.proofs.Common.{◌≡◌, ◌+◌, ◌++◌, List, length, Discipline}
use Rattle.vc_pool.specs.declared.pool.Pool.{Pool}
use Rattle.vc_ways.specs.PoolParts.{holdings}
use Rattle.vc_ways.specs.Settled.{AreBack, slots_on}
use Rattle.vc_ways.proofs.close.close_pools.Given as goal

abbrev pub meaning : (g : goal.Over) → (x : g.dyn-1.0.I) × (g.dyn-1.0.entry x).0.Denot → Discipline
meaning g p = (g.dyn-1.0.entry p.0).1.state p.1

-- the pools that are closed stood behind those that are left, and their disciplines are back
abbrev pub invariant-loop-pool : goal.invariant-loop-pool
invariant-loop-pool g l =
    (gone : List (Pool g.dyn-1.0.I (λ x. (g.dyn-1.0.entry x).0.Denot)))
    × (l.initial.pools.items ≡ l.pools.items ++ gone)
    × AreBack (2 + length l.pools.items) (holdings (meaning g) gone) (slots_on (meaning g) l.initial.shelf) (slots_on (meaning g) l.shelf)

abbrev pub decreases-loop-pool : goal.decreases-loop-pool
decreases-loop-pool g l = length l.pools.items
