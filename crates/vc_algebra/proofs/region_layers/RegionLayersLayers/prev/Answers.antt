use Rattle.vc_base.proofs.Common.{map}
use Rattle.vc_best.specs.Cells as best
use Rattle.vc_region.specs.Cells.{cells_in}
use Rattle.vc_algebra.proofs.ToldLemmas.{prev-told, is-in}
use Rattle.vc_algebra.proofs.region_layers.RegionLayersLayers.prev.Goals as goal

pub dict_of-requires : goal.dict_of-requires
dict_of-requires g c = c.requires.dict.there

pub best_of-requires : goal.best_of-requires
best_of-requires g c = c.requires.dict.best

pub prev-requires : goal.prev-requires
prev-requires g c =
    let kinds = map g.D.DictDisc.rules c.args.self.now.kinds.items in
    let b = cells_in c.args.self.now.region in
    let ds = c.args.self.now.dicts in
    is-in kinds b ds c.args.d c.requires.dict.dicts c.dict_of.result.now c.dict_of.ensures (best.cells_in c.best_of.result.now) c.best_of.ensures c.args.at.0 c.requires.place

pub returns : goal.returns
returns g c =
    let kinds = map g.D.DictDisc.rules c.args.self.now.kinds.items in
    let b = cells_in c.args.self.now.region in
    let ds = c.args.self.now.dicts in
    prev-told kinds b ds c.args.d c.requires.dict.dicts c.dict_of.result.now c.dict_of.ensures (best.cells_in c.best_of.result.now) c.best_of.ensures c.args.at.0 c.requires.place _ c.prev.ensures
