use Rattle.vc_base.proofs.Common.{map, Some, sym, ap, ◌∙◌}
use Rattle.vc_best.specs.Cells as best
use Rattle.vc_region.specs.Cells.{cells_in}
use Rattle.vc_algebra.specs.RegionLaws.{found-there}
use Rattle.vc_algebra.proofs.ToldLemmas.{bytes-told, has-body}
use Rattle.vc_algebra.proofs.region_layers.RegionLayersLayers.object.Goals as goal

pub best_of-requires : goal.best_of-requires
best_of-requires g c = c.requires.dict.best

pub body-requires : goal.body-requires
body-requires g c =
    let kinds = map g.D.DictDisc.rules c.args.self.now.kinds.items in
    let b = cells_in c.args.self.now.region in
    let ds = c.args.self.now.dicts in
    let f = found-there kinds b ds c.args.d c.requires.dict.dicts c.requires.dict.there in
    has-body kinds b ds c.args.d c.requires.dict.dicts f.dict f.found (best.cells_in c.best_of.result.now) c.best_of.ensures c.args.at.0 c.requires.place

pub returns : goal.returns
returns g c =
    let kinds = map g.D.DictDisc.rules c.args.self.now.kinds.items in
    let b = cells_in c.args.self.now.region in
    let ds = c.args.self.now.dicts in
    let f = found-there kinds b ds c.args.d c.requires.dict.dicts c.requires.dict.there in
    bytes-told kinds b ds c.args.d c.requires.dict.dicts f.dict f.found (best.cells_in c.best_of.result.now) c.best_of.ensures c.args.at.0 c.requires.place ∙ ap (λ z. Some z) (sym c.body.ensures)
