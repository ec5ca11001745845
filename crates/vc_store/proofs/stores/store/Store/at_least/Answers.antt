use Rattle.vc_base.proofs.Common.{refl, ap, Discipline}
use Rattle.vc_store.specs.Reading.{Contents, Sought, is_sought_from}
use Rattle.vc_store.proofs.Changed.{Call, changes-objects, moved}
use Rattle.vc_store.proofs.Here.{call-kept, whole-read, with_dict}
use Rattle.vc_store.proofs.stores.store.Store.at_least.Given.{Over}
use Rattle.vc_store.proofs.stores.store.Store.at_least.Goals as goal
use Rattle.vc_store.proofs.stores.store.Store.at_least.Goals.{After-self-2-1}

-- what a region's boxed discipline means
abbrev meaning : (g : Over) → (x : g.dyn-1.0.I) × (g.dyn-1.0.entry x).0.Denot → Discipline
meaning g p = (goal.SegDisc-dyn g p).state p.1

pub seek_from-requires : goal.seek_from-requires
seek_from-requires g c = record { whole = whole-read (meaning g) g.D.DictDisc.rules c.args.self.now c.args.n c.requires.dict c.index_mut.result.now c.in-Some.dict c.index.result.now c.index_mut.ensures.value c.in-Some.is c.index.ensures }

called : (g : Over) (c : After-self-2-1 g) → Call (meaning g) g.D.DictDisc.rules c.args.self.now (with_dict c.args.self.now c.args.n c.seek_from.new.best c.seek_from.new.dict) c.args.n c.in-Some.dict c.seek_from.new.dict c.index.result.now c.index.result.now
called g c =
    call-kept (meaning g) g.D.DictDisc.rules c.args.self.now c.args.n c.requires.dict c.index_mut.result.now c.in-Some.dict c.index.result.now c.index_mut.ensures.value c.in-Some.is c.index.ensures
    c.seek_from.new.best c.seek_from.new.dict c.seek_from.ensures.leaves

pub returns-clause-sought : goal.returns-clause-sought
returns-clause-sought g c = moved (called g c) (λ r x y. Sought (is_sought_from x.method r c.args.key.now) c.seek_from.result x y) c.seek_from.ensures.sought

pub returns-clause-changes : goal.returns-clause-changes
returns-clause-changes g c = changes-objects (called g c) refl (ap (λ (x : Contents). x.method) c.seek_from.ensures.sought.same)
