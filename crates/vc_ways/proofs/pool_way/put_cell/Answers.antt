use Rattle.vc_base.proofs.Common.{Discipline, ◌∙◌, ℕ, arith, false, length-set}
use Rattle.vc_model.specs.Pool.{Pool, pool_alloc}
use Rattle.vc_pool.specs.Parts.{disc_in, pool_of}
use Rattle.vc_ways.specs.PoolWay.{class_bytes}
use Rattle.vc_ways.proofs.Growth.{pool-grows}
use Rattle.vc_ways.proofs.Kept.{asked-keeps, asked-unserved}
use Rattle.vc_ways.proofs.PoolLists.{answer-here, cells-other, comes-here, class-size, kept-here, lent-here}
use Rattle.vc_ways.proofs.Refusals.{refused-here}
use Rattle.vc_ways.proofs.pool_way.put_cell.Given as given
use Rattle.vc_ways.proofs.pool_way.put_cell.Goals as goal

abbrev meaning : (g : given.Over) → (x : g.dyn-1.0.I) × (g.dyn-1.0.entry x).0.Denot → Discipline
meaning g p = (g.dyn-1.0.entry p.0).1.state p.1

pub alloc-requires-clause-lent : goal.alloc-requires-clause-lent
alloc-requires-clause-lent g c =
    lent-here (meaning g) c.args.pools.now.items c.class_of-class.result c.index_mut.result.now c.index_mut.result.now (omega (arith, c.class_of-class.ensures.few, c.requires.can.classes)) c.index_mut.ensures.value c.requires.can.lent

pub alloc-requires-clause-size : goal.alloc-requires-clause-size
alloc-requires-clause-size g c = class-size c.class_of-class.result c.class_of-class.ensures.few

pub returns-clause-answer : goal.returns-clause-answer
returns-clause-answer g c =
    answer-here (meaning g) c.args.pools.now.items c.class_of-class.result c.index_mut.result.now c.alloc.new.self (omega (arith, c.class_of-class.ensures.few, c.requires.can.classes)) c.index_mut.ensures.value c.args.size c.alloc.result c.class_of-class.ensures.value c.alloc.ensures.answer

pub returns-clause-leaves : goal.returns-clause-leaves
returns-clause-leaves g c =
    record {
      classes = length-set c.args.pools.now.items c.class_of-class.result c.alloc.new.self ∙ c.requires.can.classes;
      keeps =
          kept-here (meaning g) c.args.pools.now.items c.class_of-class.result c.index_mut.result.now c.alloc.new.self (omega (arith, c.class_of-class.ensures.few, c.requires.can.classes)) c.index_mut.ensures.value
          (asked-keeps {R = Pool ℕ} (λ p. p.layout.segments) (pool_alloc (disc_in (meaning g) c.index_mut.result.now).terms (pool_of c.index_mut.result.now) 0 (class_bytes c.class_of-class.result)) c.alloc.result (pool_of c.index_mut.result.now) (pool_of c.alloc.new.self) _ _ _ c.alloc.ensures.answer (pool-grows (disc_in (meaning g) c.index_mut.result.now).terms (pool_of c.index_mut.result.now) 0 (class_bytes c.class_of-class.result) false) c.alloc.ensures.disc);
      refused = λ refused.
          refused-here (meaning g) c.args.pools.now.items c.class_of-class.result c.index_mut.result.now c.alloc.new.self (omega (arith, c.class_of-class.ensures.few, c.requires.can.classes)) c.index_mut.ensures.value c.args.size c.class_of-class.ensures.value
          (asked-unserved c.alloc.result _ _ _ _ _ c.alloc.ensures.disc refused);
    }

pub returns-clause-others : goal.returns-clause-others
returns-clause-others g c =
    λ n other.
    cells-other (meaning g) c.args.pools.now.items c.class_of-class.result c.index_mut.result.now c.alloc.new.self (omega (arith, c.class_of-class.ensures.few, c.requires.can.classes)) c.index_mut.ensures.value n (λ e. other (e ∙ c.class_of-class.ensures.value))

pub returns-clause-comes : goal.returns-clause-comes
returns-clause-comes g c =
    comes-here (meaning g) c.args.pools.now.items c.class_of-class.result c.index_mut.result.now c.alloc.new.self (omega (arith, c.class_of-class.ensures.few, c.requires.can.classes)) c.index_mut.ensures.value c.args.size c.alloc.result c.class_of-class.ensures.value c.alloc.ensures.put
