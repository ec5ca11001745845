use Rattle.vc_base.proofs.Common.{Discipline}
use Rattle.vc_store.specs.Reading.{Removes}
use Rattle.vc_store.proofs.Changed.{Call, all-moved, changes-one}
use Rattle.vc_store.proofs.Here.{call-changed, whole-read, with_both}
use Rattle.vc_store.proofs.stores.store.Store.remove.Given.{Over}
use Rattle.vc_store.proofs.stores.store.Store.remove.Goals as goal
use Rattle.vc_store.proofs.stores.store.Store.remove.Goals.{After-self-3-1}

-- what a region's boxed discipline means
abbrev meaning : (g : Over) → (x : g.dyn-1.0.I) × (g.dyn-1.0.entry x).0.Denot → Discipline
meaning g p = (goal.SegDisc-dyn g p).state p.1

pub take-requires : goal.take-requires
take-requires g c = record { whole = whole-read (meaning g) g.D.DictDisc.rules c.args.self.now c.args.n c.requires.dict c.index_mut.result.now c.in-Some.dict c.index_mut-2.result.now c.index_mut.ensures.value c.in-Some.is c.index_mut-2.ensures.value }

called : (g : Over) (c : After-self-3-1 g)
    → Call (meaning g) g.D.DictDisc.rules c.args.self.now (with_both c.args.self.now c.args.n c.take.new.best c.take.new.dict c.take.new.kind) c.args.n c.in-Some.dict c.take.new.dict c.index_mut-2.result.now c.take.new.kind
called g c =
    call-changed (meaning g) g.D.DictDisc.rules c.args.self.now c.args.n c.requires.dict c.index_mut.result.now c.in-Some.dict c.index_mut-2.result.now c.index_mut.ensures.value c.in-Some.is c.index_mut-2.ensures.value
    c.take.new.best c.take.new.dict c.take.ensures.leaves c.take.new.kind c.take.ensures.rules

pub returns-clause-removes : goal.returns-clause-removes
returns-clause-removes g c =
    all-moved (called g c) g.D.DictDisc.gone (λ r x y told told'. Removes r c.args.key.now c.take.result c.take.new.out.items x y told told') c.take.ensures.removes

pub returns-clause-changes : goal.returns-clause-changes
returns-clause-changes g c = changes-one (called g c) c.take.ensures.method
