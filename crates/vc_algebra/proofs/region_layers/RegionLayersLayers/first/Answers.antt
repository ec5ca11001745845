use Rattle.vc_base.proofs.Common.{map}
use Rattle.vc_best.specs.Cells as best
use Rattle.vc_region.specs.Cells.{cells_in}
use Rattle.vc_algebra.proofs.ToldLemmas.{first-told, is-kept}
use Rattle.vc_algebra.proofs.region_layers.RegionLayersLayers.first.Goals as goal

pub dict_of-requires : goal.dict_of-requires
dict_of-requires g c = c.requires.there

pub best_of-requires : goal.best_of-requires
best_of-requires g c = c.requires.best

pub first-requires : goal.first-requires
first-requires g c =
    let kinds = map g.D.DictDisc.rules c.args.self.now.kinds.items in
    let b = cells_in c.args.self.now.region in
    let ds = c.args.self.now.dicts in
    is-kept kinds b ds c.args.d c.requires.dicts c.dict_of.result.now c.dict_of.ensures (best.cells_in c.best_of.result.now) c.best_of.ensures

pub returns : goal.returns
returns g c =
    let kinds = map g.D.DictDisc.rules c.args.self.now.kinds.items in
    let b = cells_in c.args.self.now.region in
    let ds = c.args.self.now.dicts in
    first-told kinds b ds c.args.d c.requires.dicts c.dict_of.result.now c.dict_of.ensures (best.cells_in c.best_of.result.now) c.best_of.ensures _ c.first.ensures
