use Rattle.vc_base.proofs.Common.{◌≡◌, IsSome, Some, map, refl, sym, ap, ◌∙◌, subst}
use Rattle.vc_paths.specs.Layers.{Layer, bytes_there}
use Rattle.vc_views.specs.Promises.{layer_at, layered_over}
use Rattle.vc_views.specs.Sides.{last_match_place}
use Rattle.vc_views.proofs.NumberLayers.{layer-indexed, same-left}
use Rattle.vc_views.proofs.layers.DictLayersLayers.last_like.Given.{Over}
use Rattle.vc_views.proofs.layers.DictLayersLayers.last_like.Goals as goal
use Rattle.vc_views.proofs.layers.DictLayersLayers.last_like.Goals.{After-index_of-i}

-- the layer of the index is that of the number
indexed : (g : Over) (c : After-index_of-i g)
    → layer_at (map g.D.DictDisc.rules c.args.self.now.kinds.now.items) c.args.self.now.homes.now.entries c.args.self.now.dicts.now.entries c.index_of-i.result ≡ (layered_over (map g.D.DictDisc.rules c.args.self.now.kinds.now.items) c.args.self.now.homes.now.entries c.args.self.now.dicts.now.entries).layer c.args.d
indexed g c = layer-indexed (map g.D.DictDisc.rules c.args.self.now.kinds.now.items) c.args.self.now.homes.now.entries c.args.self.now.dicts.now.entries c.args.d c.index_of-i.result c.index_of-i.ensures.entry

pub index_of-i-requires : goal.index_of-i-requires
index_of-i-requires g c = c.requires.dict.there

pub last_at-requires : goal.last_at-requires
last_at-requires g c = record {
  dicts = c.requires.dict.dicts;
  index = c.index_of-i.ensures.within;
  place = subst (λ (l : Layer). IsSome (bytes_there c.args.at.0 l.objects)) (sym (indexed g (goal.at.last_at-requires g c).After-index_of-i)) c.requires.place;
}

pub returns-clause-found : goal.returns-clause-found
returns-clause-found g c = λ bytes h.
    let same = indexed g (goal.at.returns-clause-found g c).After-index_of-i in
    c.last_at.ensures.found bytes (subst (λ (l : Layer). bytes_there c.args.at.0 l.objects ≡ Some bytes) (sym same) h)
    ∙ ap (λ (l : Layer). last_match_place l bytes) same

pub returns-clause-layers : goal.returns-clause-layers
returns-clause-layers g c = same-left c.last_at.ensures.leaves

pub returns-clause-stays : goal.returns-clause-stays
returns-clause-stays g c = (refl, refl, c.last_at.ensures.leaves.keeps)
