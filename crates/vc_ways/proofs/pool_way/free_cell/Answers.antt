use Rattle.vc_base.proofs.Common.{Discipline, ◌<◌, ℕ, List, HasBlock, length, length-map, ap, sym, subst, arith}
use Rattle.vc_model.specs.Pool.{Pool}
use Rattle.vc_pool.specs.Parts.{pool_of}
use Rattle.vc_ways.specs.PoolParts.{class_blocks, holding_in, pools_of}
use Rattle.vc_ways.specs.PoolWay.{class_of}
use Rattle.vc_ways.proofs.Cells.{freed-others}
use Rattle.vc_ways.proofs.PoolSteps.{keeps-equal}
use Rattle.vc_ways.proofs.PoolLists.{freed-here, has-here, kept-here}
use Rattle.vc_ways.proofs.pool_way.free_cell.Given as given
use Rattle.vc_ways.proofs.pool_way.free_cell.Goals as goal

abbrev meaning : (g : given.Over) → (x : g.dyn-1.0.I) × (g.dyn-1.0.entry x).0.Denot → Discipline
meaning g p = (g.dyn-1.0.entry p.0).1.state p.1

pub free-requires : goal.free-requires
free-requires g c =
    has-here (meaning g) c.args.pools.now.items c.class_of-class.result c.index_mut.result.now c.index_mut.result.now (omega (arith, c.class_of-class.ensures.few, c.requires.classes)) c.index_mut.ensures.value c.args.at.0 _ c.class_of-class.ensures.value c.requires.block

pub returns-clause-pools : goal.returns-clause-pools
returns-clause-pools g c =
    freed-here (meaning g) c.args.pools.now.items c.class_of-class.result c.index_mut.result.now c.free.new.self (omega (arith, c.class_of-class.ensures.few, c.requires.classes)) c.index_mut.ensures.value _ _ c.class_of-class.ensures.value c.free.ensures.pool

pub returns-clause-keeps : goal.returns-clause-keeps
returns-clause-keeps g c =
    kept-here (meaning g) c.args.pools.now.items c.class_of-class.result c.index_mut.result.now c.free.new.self (omega (arith, c.class_of-class.ensures.few, c.requires.classes)) c.index_mut.ensures.value
    (keeps-equal (holding_in (meaning g) c.index_mut.result.now) (holding_in (meaning g) c.free.new.self) c.free.ensures.disc (ap (λ p. p.layout.segments) c.free.ensures.pool))

pub returns-clause-others : goal.returns-clause-others
returns-clause-others g c =
    λ class a has other.
    let xs = c.args.pools.now.items in
    let few : class_of c.args.size < length (pools_of xs) = omega (arith, c.class_of-class.ensures.few, c.class_of-class.ensures.value, c.requires.classes, length-map xs pool_of) in
    let freed = freed-here (meaning g) xs c.class_of-class.result c.index_mut.result.now c.free.new.self (omega (arith, c.class_of-class.ensures.few, c.requires.classes)) c.index_mut.ensures.value _ _ c.class_of-class.ensures.value c.free.ensures.pool in
    subst (λ (ps : List (Pool ℕ)). HasBlock (class_blocks ps class) a) (sym freed) (freed-others (pools_of xs) (class_of c.args.size) c.args.at.0 few class a has other)
