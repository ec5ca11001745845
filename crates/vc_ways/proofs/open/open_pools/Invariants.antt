use Rattle.vc_base.proofs.Common.{◌≡◌, ◌-◌, ◌≤◌, ◌++◌, List, Option, All, length, vec_capacity, Discipline}
use Rattle.vc_model.specs.Pool.{empty_pool}
use Rattle.vc_pool.specs.Parts.{pool_of}
use Rattle.vc_ways.specs.Answer.{Holding}
use Rattle.vc_ways.specs.Lends.{Opens}
use Rattle.vc_ways.specs.PoolParts.{holdings}
use Rattle.vc_ways.specs.Settled.{slots_on}
use Rattle.vc_ways.proofs.open.open_pools.Given as goal

abbrev pub meaning : (g : goal.Over) → (x : g.dyn-1.0.I) × (g.dyn-1.0.entry x).0.Denot → Discipline
meaning g p = (g.dyn-1.0.entry p.0).1.state p.1

-- the first classes have their pools
abbrev pub invariant-loop-alloc : goal.invariant-loop-alloc
invariant-loop-alloc g l =
    record {
      few : length l.pools.items ≤ 20;
      room : 20 ≤ vec_capacity l.pools;
      empty : All (λ p. pool_of p ≡ empty_pool) l.pools.items;
      lends : (old : List (Option Discipline)) (hs : List Holding) → length hs ≡ 2 → Opens hs old (slots_on (meaning g) l.fn.shelf) → Opens (hs ++ holdings (meaning g) l.pools.items) old (slots_on (meaning g) l.shelf);
    }

abbrev pub decreases-loop-alloc : goal.decreases-loop-alloc
decreases-loop-alloc g l = 20 - length l.pools.items
