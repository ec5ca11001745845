use Rattle.vc_base.proofs.Common.{◌≡◌, refl, Discipline}
use Rattle.vc_store.specs.Reading.{AfterPut, place_after}
use Rattle.vc_store.proofs.Changed.{Call, changes-objects, moved, tried-at}
use Rattle.vc_store.proofs.Here.{call-kept, whole-read, with_dict}
use Rattle.vc_store.proofs.stores.store.Store.insert.Given.{Over}
use Rattle.vc_store.proofs.stores.store.Store.insert.Goals as goal
use Rattle.vc_store.proofs.stores.store.Store.insert.Goals.{After-self-2-1}

-- what a region's boxed discipline means
abbrev meaning : (g : Over) → (x : g.dyn-1.0.I) × (g.dyn-1.0.entry x).0.Denot → Discipline
meaning g p = (goal.SegDisc-dyn g p).state p.1

pub put-requires : goal.put-requires
put-requires g c = record { ask = record { whole = whole-read (meaning g) g.D.DictDisc.rules c.args.self.now c.args.n c.requires.dict c.index_mut.result.now c.in-Some.into c.index.result.now c.index_mut.ensures.value c.in-Some.is c.index.ensures; lent = c.requires.dict.is_open.lent } }

called : (g : Over) (c : After-self-2-1 g)
    → Call (meaning g) g.D.DictDisc.rules c.args.self.now (with_dict c.args.self.now c.args.n c.put.new.best c.put.new.dict) c.args.n c.in-Some.into c.put.new.dict c.index.result.now c.index.result.now
called g c =
    call-kept (meaning g) g.D.DictDisc.rules c.args.self.now c.args.n c.requires.dict c.index_mut.result.now c.in-Some.into c.index.result.now c.index_mut.ensures.value c.in-Some.is c.index.ensures
    c.put.new.best c.put.new.dict c.put.ensures.leaves

pub returns-clause-objects : goal.returns-clause-objects
returns-clause-objects g c =
    moved (called g c) (λ r x y. AfterPut c.put.result r c.args.object.now x y.objects) c.put.ensures.objects

pub returns-clause-place : goal.returns-clause-place
returns-clause-place g c =
    moved (called g c) (λ r x y. y.place ≡ place_after c.put.result r c.args.object.now x) c.put.ensures.place

pub returns-clause-tried : goal.returns-clause-tried
returns-clause-tried g c = tried-at (called g c) c.put.result c.args.object.now c.put.ensures.tried

pub returns-clause-changes : goal.returns-clause-changes
returns-clause-changes g c = changes-objects (called g c) refl c.put.ensures.method
