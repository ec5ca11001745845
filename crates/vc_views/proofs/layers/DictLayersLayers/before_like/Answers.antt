use Rattle.vc_base.proofs.Common.{map, refl, ◌∙◌}
use Rattle.vc_views.specs.Dicts.{region_seen}
use Rattle.vc_views.specs.LayerLaws.{are-layers}
use Rattle.vc_views.specs.Promises.{layered_over}
use Rattle.vc_views.proofs.NumberLayers.{place-less, same-left}
use Rattle.vc_views.proofs.layers.DictLayersLayers.before_like.Goals as goal

pub sought_like-requires : goal.sought_like-requires
sought_like-requires g c = record { dict = c.requires.dict; there = c.requires.compared.there; asked = c.requires.method; place = c.requires.compared.object }

pub returns-clause-found : goal.returns-clause-found
returns-clause-found g c = λ bytes h.
    let s = c.args.self.now in
    c.sought_like.ensures.found bytes h
    ∙ place-less ((layered_over (map g.D.DictDisc.rules s.kinds.now.items) s.homes.now.entries s.dicts.now.entries).layer c.args.d) bytes
    ((are-layers g.D.DictDisc.rules g.met.D.DictDisc.lawful s.kinds.now.items (map region_seen s.homes.now.entries) s.dicts.now.entries).lawful c.args.d c.requires.dict)

pub returns-clause-layers : goal.returns-clause-layers
returns-clause-layers g c = same-left c.sought_like.ensures.leaves

pub returns-clause-stays : goal.returns-clause-stays
returns-clause-stays g c = (refl, refl, c.sought_like.ensures.leaves.keeps)
