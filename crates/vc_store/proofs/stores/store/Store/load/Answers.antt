use Rattle.vc_base.proofs.Common.{◌≡◌, ℕ, List, length, map, refl, sym, ◌∙◌, subst, true≢false, AllByRecursion, Discipline}
use Rattle.vc_dtdisc.specs.Rules.{Rules}
use Rattle.vc_dict.specs.declared.dict.Dict.{Dict}
use Rattle.vc_best.specs.Cells.{cells_in}
use Rattle.vc_region.specs.declared.region.Region.TheVariants.{Best as OfBest}
use Rattle.vc_image.specs.Load.{IsLoaded}
use Rattle.vc_store.specs.Stores.Places.{CanStandAgain}
use Rattle.vc_store.proofs.Loaded.{can-stand-each, each-whole, has-out, holds, out-back, shared}
use Rattle.vc_store.proofs.stores.store.Store.load.Given.{Over}
use Rattle.vc_store.proofs.stores.store.Store.load.Goals as goal

-- what a region's boxed discipline means
abbrev meaning : (g : Over) → (x : g.dyn-1.0.I) × (g.dyn-1.0.entry x).0.Denot → Discipline
meaning g p = (goal.SegDisc-dyn g p).state p.1

-- the kinds' rules
abbrev by : (g : Over) → List g.row.D.Denot → List Rules
by g kinds = map g.D.DictDisc.rules kinds

pub place-requires-clause-fit : goal.place-requires-clause-fit
place-requires-clause-fit g c =
    let old = meaning g (c.args.disc.vtable, c.args.disc.value) in
    let ds = c.as_slice.result.now in
    let is = subst (λ (zs : List Dict). IsLoaded (by g c.args.kinds.items) old.terms c.args.image.now (OfBest c.in-Ok-loaded.best) zs) (sym c.as_slice.ensures) c.in-Ok-loaded.ensures.loaded in
    let b = c.in-Ok-loaded.best in
    let each = each-whole (meaning g) (by g c.args.kinds.items) old c.args.image.now (OfBest c.in-Ok-loaded.best) ds is c.in-Ok-loaded.ensures.lent b refl in
    let count : length c.in-Ok.places.items ≡ length c.args.kinds.items = c.in-Ok.ensures.count ∙ (c.len.ensures ∙ c.args.kinds.ok.0) in
    subst (λ (n : ℕ). AllByRecursion (CanStandAgain n) ds) (sym count) (can-stand-each g.D.DictDisc.rules c.args.kinds.items (cells_in b) ds each)

pub close-requires : goal.close-requires
close-requires g c =
    let old = meaning g (c.args.disc.vtable, c.args.disc.value) in
    has-out (meaning g) (by g c.args.kinds.items) old c.args.image.now (OfBest c.in-Ok-loaded.best) c.in-Ok-loaded.dicts c.in-Ok-loaded.ensures.loaded c.in-Ok-loaded.ensures.lent c.in-Ok-loaded.best refl

pub returns-then-place-clause-loaded : goal.returns-then-place-clause-loaded
returns-then-place-clause-loaded g c =
    let old = meaning g (c.args.disc.vtable, c.args.disc.value) in
    let ds = c.as_slice.result.now in
    let is = subst (λ (zs : List Dict). IsLoaded (by g c.args.kinds.items) old.terms c.args.image.now (OfBest c.in-Ok-loaded.best) zs) (sym c.as_slice.ensures) c.in-Ok-loaded.ensures.loaded in
    let count : length c.place.new.places.items ≡ length c.args.kinds.items = c.place.ensures.count ∙ (c.in-Ok.ensures.count ∙ (c.len.ensures ∙ c.args.kinds.ok.0)) in
    holds (meaning g) g.D.DictDisc.rules old c.args.image.now (OfBest c.in-Ok-loaded.best) ds _ is c.in-Ok-loaded.ensures.lent refl count (c.place.ensures.own.0 c.if-place.true) (c.place.ensures.placed c.if-place.true)

pub returns-else-place-clause-fault : goal.returns-else-place-clause-fault
returns-else-place-clause-fault g c =
    let old = meaning g (c.args.disc.vtable, c.args.disc.value) in
    let ds = c.as_slice.result.now in
    let is = subst (λ (zs : List Dict). IsLoaded (by g c.args.kinds.items) old.terms c.args.image.now (OfBest c.in-Ok-loaded.best) zs) (sym c.as_slice.ensures) c.in-Ok-loaded.ensures.loaded in
    shared (meaning g) (by g c.args.kinds.items) old c.args.image.now (OfBest c.in-Ok-loaded.best) ds is c.in-Ok-loaded.ensures.lent c.in-Ok-loaded.best refl _ c.close.ensures.disc
    (λ own. true≢false (sym (c.place.ensures.own.1 own) ∙ c.if-place.false))

pub returns-else-place-clause-out : goal.returns-else-place-clause-out
returns-else-place-clause-out g c =
    let old = meaning g (c.args.disc.vtable, c.args.disc.value) in
    out-back (meaning g) (by g c.args.kinds.items) old c.args.image.now (OfBest c.in-Ok-loaded.best) c.in-Ok-loaded.dicts c.in-Ok-loaded.ensures.loaded c.in-Ok-loaded.ensures.lent c.in-Ok-loaded.best refl _ c.close.ensures.disc
