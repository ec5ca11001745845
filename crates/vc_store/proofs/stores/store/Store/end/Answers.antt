use Rattle.vc_base.proofs.Common.{Some, set, refl, sym, ap, ◌∙◌, Discipline}
use Rattle.std.proofs.lemmas.Option.{slice_get-get_or}
use Rattle.vc_store.specs.Stores.Stores.{dicts_of}
use Rattle.vc_store.proofs.Ended.{ended, ended-none}
use Rattle.vc_store.proofs.Here.{kind-here, read-there, whole-here}
use Rattle.vc_store.proofs.stores.store.Store.end.Given.{Over}
use Rattle.vc_store.proofs.stores.store.Store.end.Goals as goal

-- what a region's boxed discipline means
abbrev meaning : (g : Over) → (x : g.dyn-1.0.I) × (g.dyn-1.0.entry x).0.Denot → Discipline
meaning g p = (goal.SegDisc-dyn g p).state p.1

pub shut-requires : goal.shut-requires
shut-requires g c =
    let s = c.args.self.now in
    let at = read-there (dicts_of s) c.args.n c.index_mut.result.now c.requires.given c.index_mut.ensures.value ∙ sym c.in-Some.ensures.value in
    record { whole = whole-here g.D.DictDisc.rules s c.args.n c.requires.open c.requires.given c.index_mut-in-Some.result.now c.index_mut-in-Some.ensures.value c.in-Some.dict at }

pub returns-in-Some : goal.returns-in-Some
returns-in-Some g c =
    let s = c.args.self.now in
    let n = c.args.n in
    let k = c.index_mut-in-Some.result.now in
    let at = read-there (dicts_of s) n c.index_mut.result.now c.requires.given c.index_mut.ensures.value ∙ sym c.in-Some.ensures.value in
    ended (meaning g) g.D.DictDisc.rules g.D.DictDisc.gone s _ n c.in-Some.dict k c.shut.new.kind c.requires.open at
    (kind-here g.D.DictDisc.rules s n c.requires.open c.requires.given k c.index_mut-in-Some.ensures.value) (ap (set (dicts_of s) n) c.in-Some.ensures.after) refl c.shut.ensures.rules c.shut.ensures.leaves c.shut.ensures.disc c.shut.ensures.gone

pub returns-in-None : goal.returns-in-None
returns-in-None g c =
    let s = c.args.self.now in
    let n = c.args.n in
    let none = slice_get-get_or (dicts_of s) n c.index_mut.result.now c.requires.given ∙ ap Some (sym c.index_mut.ensures.value ∙ sym c.in-None.ensures.value) in
    ended-none (meaning g) g.D.DictDisc.rules g.D.DictDisc.gone s _ n c.requires.open none (ap (set (dicts_of s) n) c.in-None.ensures.after) refl refl
