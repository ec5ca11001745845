use Rattle.vc_base.proofs.Common.{IsSome, map, sym, ap, ◌∙◌, subst, at_number, Discipline}
use Rattle.vc_region.specs.Cells.{cells_in}
use Rattle.vc_algebra.specs.Filling.{CanFillIn}
use Rattle.vc_algebra.specs.InRegion.{held}
use Rattle.vc_algebra.proofs.FillLemmas.{can-opened, helds-opened}
use Rattle.vc_algebra.proofs.region_layers.RegionLayers.open.Given.{Over}
use Rattle.vc_algebra.proofs.region_layers.RegionLayers.open.Goals as goal

-- what a region's boxed discipline means
abbrev meaning : (g : Over) → (x : g.dyn-1.0.I) × (g.dyn-1.0.entry x).0.Denot → Discipline
meaning g p = (goal.SegDisc-dyn g p).state p.1

pub returns-in-Ok-clause-fill : goal.returns-in-Ok-clause-fill
returns-in-Ok-clause-fill g c =
    let s = c.args.self.now in
    let kinds = map g.D.DictDisc.rules s.kinds.items in
    let d = c.new.result in
    subst (λ ds. CanFillIn (meaning g) kinds s.region ds) (sym c.in-Ok.ensures.ok)
    (can-opened (meaning g) kinds s.region s.dicts d c.args.method (λ rules. c.new.ensures.dict rules (cells_in s.region)) c.new.ensures.current c.new.ensures.table c.new.ensures.method c.requires.method (subst (λ k. IsSome (at_number kinds k)) (sym c.new.ensures.kind) c.requires.kind) c.requires.fill)

pub returns-in-Ok-clause-ok : goal.returns-in-Ok-clause-ok
returns-in-Ok-clause-ok g c =
    let s = c.args.self.now in
    ap (map (held (cells_in s.region))) c.in-Ok.ensures.ok
    ∙ helds-opened s.region s.dicts c.new.result c.args.method c.args.kind (λ rules. c.new.ensures.dict rules (cells_in s.region)) c.new.ensures.current c.new.ensures.table c.new.ensures.method c.new.ensures.kind
