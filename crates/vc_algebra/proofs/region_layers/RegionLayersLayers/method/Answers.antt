use Rattle.vc_base.proofs.Common.{map}
use Rattle.vc_region.specs.Cells.{cells_in}
use Rattle.vc_algebra.proofs.ToldLemmas.{method-told}
use Rattle.vc_algebra.proofs.region_layers.RegionLayersLayers.method.Goals as goal

pub dict_of-requires : goal.dict_of-requires
dict_of-requires g c = c.requires.there

pub returns : goal.returns
returns g c =
    let kinds = map g.D.DictDisc.rules c.args.self.now.kinds.items in
    let b = cells_in c.args.self.now.region in
    let ds = c.args.self.now.dicts in
    method-told kinds b ds c.args.d c.requires.dicts c.dict_of.result.now c.dict_of.ensures
