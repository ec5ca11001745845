use Rattle.vc_base.proofs.Common.{sym, ap, ◌∙◌}
use Rattle.vc_region.specs.Cells.{cells_in}
use Rattle.vc_views.specs.Dicts.{cells_held}
use Rattle.vc_views.proofs.Firsts.{no-other, no-region, region-looked}
use Rattle.vc_views.proofs.places.best_of.Goals as goal

pub unreachable-requires : goal.unreachable-requires
unreachable-requires g c = no-region c.args.homes.now.entries c.args.name.now c.requires.home c.requires.found c.in_default.ensures.found

pub unreachable-requires-in_default-region : goal.unreachable-requires-in_default-region
unreachable-requires-in_default-region g c =
    let same = region-looked c.args.homes.now.entries c.args.name.now c.requires.home c.index.result.now c.requires.found (sym c.in-Some.ensures.value ∙ c.index.ensures) in
    no-other c.index.result.now.region (sym (ap (λ p. p.0) same) ∙ c.requires.best) c.in_default-region.not-Best

pub returns : goal.returns
returns g c =
    let same = region-looked c.args.homes.now.entries c.args.name.now c.requires.home c.index.result.now c.requires.found (sym c.in-Some.ensures.value ∙ c.index.ensures) in
    sym (ap cells_held c.requires.found ∙ ap (λ p. p.1) same ∙ ap cells_in c.in-Best.is)
