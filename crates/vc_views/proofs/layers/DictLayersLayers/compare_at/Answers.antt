use Rattle.vc_base.proofs.Common.{map}
use Rattle.vc_views.specs.Dicts.{region_seen}
use Rattle.vc_views.proofs.NumberLayers.{kind-known}
use Rattle.vc_views.proofs.layers.DictLayersLayers.compare_at.Goals as goal

pub kind_of-kind-requires : goal.kind_of-kind-requires
kind_of-kind-requires g c = kind-known (map g.D.DictDisc.rules c.args.self.now.kinds.now.items) (map region_seen c.args.self.now.homes.now.entries) c.args.self.now.dicts.now.entries c.args.d c.requires.dict c.kind_number.result c.kind_number.ensures
