use Rattle.vc_base.proofs.Common.{map, Some, sym, ap, ◌∙◌}
use Rattle.vc_best.specs.Cells.{cells_in}
use Rattle.vc_views.specs.Dicts.{region_seen}
use Rattle.vc_views.proofs.NumberLayers.{best-there, bytes-told, has-body}
use Rattle.vc_views.proofs.layers.DictLayersLayers.object.Goals as goal

pub best_of-requires : goal.best_of-requires
best_of-requires g c = best-there (map g.D.DictDisc.rules c.args.self.now.kinds.now.items) (map region_seen c.args.self.now.homes.now.entries) c.args.self.now.dicts.now.entries c.args.d c.requires.dict c.entry_of-entry.result.now c.entry_of-entry.ensures

pub body-requires : goal.body-requires
body-requires g c = has-body (map g.D.DictDisc.rules c.args.self.now.kinds.now.items) (map region_seen c.args.self.now.homes.now.entries) c.args.self.now.dicts.now.entries c.args.d c.requires.dict c.entry_of-entry.result.now c.entry_of-entry.ensures (cells_in c.best_of.result.now) c.best_of.ensures c.args.at.0 c.requires.place

pub returns : goal.returns
returns g c = bytes-told (map g.D.DictDisc.rules c.args.self.now.kinds.now.items) (map region_seen c.args.self.now.homes.now.entries) c.args.self.now.dicts.now.entries c.args.d c.requires.dict c.entry_of-entry.result.now c.entry_of-entry.ensures (cells_in c.best_of.result.now) c.best_of.ensures c.args.at.0 c.requires.place ∙ ap (λ z. Some z) (sym c.body.ensures)
