use Rattle.vc_base.proofs.Common.{map}
use Rattle.vc_region.specs.Cells.{cells_in}
use Rattle.vc_algebra.proofs.ToldLemmas.{kind-known}
use Rattle.vc_algebra.proofs.region_layers.RegionLayersLayers.compare_at.Goals as goal

pub kind_of-kind-requires : goal.kind_of-kind-requires
kind_of-kind-requires g c =
    let kinds = map g.D.DictDisc.rules c.args.self.now.kinds.items in
    let b = cells_in c.args.self.now.region in
    let ds = c.args.self.now.dicts in
    kind-known kinds b ds c.args.d c.requires.dict.dicts c.requires.dict.there c.kind_number.result c.kind_number.ensures
