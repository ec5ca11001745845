use Rattle.vc_base.proofs.Common.{map}
use Rattle.vc_best.specs.Cells.{cells_in}
use Rattle.vc_views.specs.Dicts.{region_seen}
use Rattle.vc_views.proofs.NumberLayers.{best-there, prev-told, is-in}
use Rattle.vc_views.proofs.layers.DictLayersLayers.prev.Goals as goal

pub best_of-requires : goal.best_of-requires
best_of-requires g c = best-there (map g.D.DictDisc.rules c.args.self.now.kinds.now.items) (map region_seen c.args.self.now.homes.now.entries) c.args.self.now.dicts.now.entries c.args.d c.requires.dict c.entry_of-entry.result.now c.entry_of-entry.ensures

pub prev-requires : goal.prev-requires
prev-requires g c = is-in (map g.D.DictDisc.rules c.args.self.now.kinds.now.items) (map region_seen c.args.self.now.homes.now.entries) c.args.self.now.dicts.now.entries c.args.d c.requires.dict c.entry_of-entry.result.now c.entry_of-entry.ensures (cells_in c.best_of.result.now) c.best_of.ensures c.args.at.0 c.requires.place

pub returns : goal.returns
returns g c = prev-told (map g.D.DictDisc.rules c.args.self.now.kinds.now.items) (map region_seen c.args.self.now.homes.now.entries) c.args.self.now.dicts.now.entries c.args.d c.requires.dict c.entry_of-entry.result.now c.entry_of-entry.ensures (cells_in c.best_of.result.now) c.best_of.ensures c.args.at.0 c.requires.place _ c.prev.ensures
