use Rattle.vc_base.proofs.Common.{◌≡◌, length, length-map, sym, ap, ◌∙◌, Discipline}
use Rattle.vc_dtdisc.specs.Objects.{bytes_of}
use Rattle.vc_objects.specs.Leaves.{told_each}
use Rattle.vc_objects.specs.Objects.{Dictionary}
use Rattle.vc_objects.specs.Parts.{dictionary_in}
use Rattle.vc_store.specs.Contents.{contents_of}
use Rattle.vc_store.specs.Reading.{no_objects}
use Rattle.vc_store.specs.Stores.Stores.{contents}
use Rattle.vc_store.proofs.Changed.{Call, changes-one, moved, told-at}
use Rattle.vc_store.proofs.Here.{call-changed, whole-read, with_both}
use Rattle.vc_store.proofs.stores.store.Store.empty.Given.{Over}
use Rattle.vc_store.proofs.stores.store.Store.empty.Goals as goal
use Rattle.vc_store.proofs.stores.store.Store.empty.Goals.{After-self-3-1}

-- what a region's boxed discipline means
abbrev meaning : (g : Over) → (x : g.dyn-1.0.I) × (g.dyn-1.0.entry x).0.Denot → Discipline
meaning g p = (goal.SegDisc-dyn g p).state p.1

pub empty-requires : goal.empty-requires
empty-requires g c = record { whole = whole-read (meaning g) g.D.DictDisc.rules c.args.self.now c.args.n c.requires.dict c.index_mut.result.now c.in-Some.dict c.index_mut-2.result.now c.index_mut.ensures.value c.in-Some.is c.index_mut-2.ensures.value }

called : (g : Over) (c : After-self-3-1 g)
    → Call (meaning g) g.D.DictDisc.rules c.args.self.now (with_both c.args.self.now c.args.n c.empty.new.best c.empty.new.dict c.empty.new.kind) c.args.n c.in-Some.dict c.empty.new.dict c.index_mut-2.result.now c.empty.new.kind
called g c =
    call-changed (meaning g) g.D.DictDisc.rules c.args.self.now c.args.n c.requires.dict c.index_mut.result.now c.in-Some.dict c.index_mut-2.result.now c.index_mut.ensures.value c.in-Some.is c.index_mut-2.ensures.value
    c.empty.new.best c.empty.new.dict c.empty.ensures.empties.leaves c.empty.new.kind c.empty.ensures.empties.kind

pub returns-clause-count : goal.returns-clause-count
returns-clause-count g c =
    moved (called g c) (λ r x y. c.empty.result ≡ length x.objects) (c.empty.ensures.count ∙ sym (length-map (dictionary_in c.in-Some.dict c.args.self.now.best).objects bytes_of))

pub returns-clause-empty : goal.returns-clause-empty
returns-clause-empty g c = moved (called g c) (λ r x y. y ≡ no_objects x.method) (ap contents_of c.empty.ensures.empties.dict)

pub returns-clause-told : goal.returns-clause-told
returns-clause-told g c =
    told-at (called g c) g.D.DictDisc.gone (λ x y. y ≡ told_each (contents c.args.self.now c.args.n).objects x)
    (moved (called g c) (λ r x y. g.D.DictDisc.gone c.empty.new.kind ≡ told_each x.objects (g.D.DictDisc.gone c.index_mut-2.result.now)) c.empty.ensures.empties.gone)

pub returns-clause-changes : goal.returns-clause-changes
returns-clause-changes g c = changes-one (called g c) (ap (λ (d : Dictionary). d.method) c.empty.ensures.empties.dict)
