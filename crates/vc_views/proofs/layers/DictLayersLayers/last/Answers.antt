use Rattle.vc_base.proofs.Common.{map}
use Rattle.vc_best.specs.Cells.{cells_in}
use Rattle.vc_views.specs.Dicts.{region_seen}
use Rattle.vc_views.proofs.NumberLayers.{best-there, last-told, is-kept}
use Rattle.vc_views.proofs.layers.DictLayersLayers.last.Goals as goal

pub best_of-requires : goal.best_of-requires
best_of-requires g c = best-there (map g.D.DictDisc.rules c.args.self.now.kinds.now.items) (map region_seen c.args.self.now.homes.now.entries) c.args.self.now.dicts.now.entries c.args.d c.requires c.entry_of-entry.result.now c.entry_of-entry.ensures

pub last-requires : goal.last-requires
last-requires g c = is-kept (map g.D.DictDisc.rules c.args.self.now.kinds.now.items) (map region_seen c.args.self.now.homes.now.entries) c.args.self.now.dicts.now.entries c.args.d c.requires c.entry_of-entry.result.now c.entry_of-entry.ensures (cells_in c.best_of.result.now) c.best_of.ensures

pub returns : goal.returns
returns g c = last-told (map g.D.DictDisc.rules c.args.self.now.kinds.now.items) (map region_seen c.args.self.now.homes.now.entries) c.args.self.now.dicts.now.entries c.args.d c.requires c.entry_of-entry.result.now c.entry_of-entry.ensures (cells_in c.best_of.result.now) c.best_of.ensures _ c.last.ensures
