use Rattle.vc_base.proofs.Common.{ℕ, Option, Discipline}
use Rattle.vc_store.specs.Reading.{Contents, previous_place}
use Rattle.vc_store.proofs.Here.{changes-moved, goes-there, whole-by}
use Rattle.vc_store.proofs.stores.store.Store.prev.Given.{Over}
use Rattle.vc_store.proofs.stores.store.Store.prev.Goals as goal

-- what a region's boxed discipline means
abbrev meaning : (g : Over) → (x : g.dyn-1.0.I) × (g.dyn-1.0.entry x).0.Denot → Discipline
meaning g p = (goal.SegDisc-dyn g p).state p.1

-- where it goes
abbrev place : Contents → Option ℕ
place x = previous_place x.place

pub to_prev-requires : goal.to_prev-requires
to_prev-requires g c = record { whole = whole-by (meaning g) g.D.DictDisc.rules c.args.self.now c.args.n c.requires.dict c.index_mut.result.now c.in-Some.dict c.index_mut.ensures.value c.in-Some.is }

pub returns-clause-goes : goal.returns-clause-goes
returns-clause-goes g c =
    goes-there (meaning g) g.D.DictDisc.rules c.args.self.now c.args.n c.requires.dict c.index_mut.result.now c.in-Some.dict c.index_mut.ensures.value c.in-Some.is place c.to_prev.result c.to_prev.new.dict c.to_prev.ensures.moves

pub returns-clause-changes : goal.returns-clause-changes
returns-clause-changes g c =
    changes-moved (meaning g) g.D.DictDisc.rules c.args.self.now c.args.n c.requires.dict c.index_mut.result.now c.in-Some.dict c.index_mut.ensures.value c.in-Some.is place c.to_prev.result c.to_prev.new.dict c.to_prev.ensures.moves
