use Rattle.vc_base.proofs.Common.{map, refl, ap, ◌∙◌}
use Rattle.vc_paths.specs.Layers.{Layer, place_with}
use Rattle.vc_views.proofs.NumberLayers.{layer-indexed, same-left}
use Rattle.vc_views.proofs.layers.DictLayersLayers.find.Goals as goal

pub index_of-i-requires : goal.index_of-i-requires
index_of-i-requires g c = c.requires.there

pub sought_at-requires : goal.sought_at-requires
sought_at-requires g c = record { dicts = c.requires.dicts; index = c.index_of-i.ensures.within; side = tt }

pub returns-clause-found : goal.returns-clause-found
returns-clause-found g c =
    c.sought_at.ensures.found
    ∙ ap (λ (l : Layer). place_with l.rules c.args.key.now l.objects) (layer-indexed (map g.D.DictDisc.rules c.args.self.now.kinds.now.items) c.args.self.now.homes.now.entries c.args.self.now.dicts.now.entries c.args.d c.index_of-i.result c.index_of-i.ensures.entry)

pub returns-clause-layers : goal.returns-clause-layers
returns-clause-layers g c = same-left c.sought_at.ensures.leaves

pub returns-clause-stays : goal.returns-clause-stays
returns-clause-stays g c = (refl, refl, c.sought_at.ensures.leaves.keeps)
