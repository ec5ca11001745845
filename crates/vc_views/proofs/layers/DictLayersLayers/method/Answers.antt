use Rattle.vc_base.proofs.Common.{map}
use Rattle.vc_views.specs.Dicts.{region_seen}
use Rattle.vc_views.proofs.NumberLayers.{method-told}
use Rattle.vc_views.proofs.layers.DictLayersLayers.method.Goals as goal

pub returns : goal.returns
returns g c = method-told (map g.D.DictDisc.rules c.args.self.now.kinds.now.items) (map region_seen c.args.self.now.homes.now.entries) c.args.self.now.dicts.now.entries c.args.d c.requires c.entry_of.result.now c.entry_of.ensures
