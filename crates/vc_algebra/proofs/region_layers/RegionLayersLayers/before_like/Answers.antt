use Rattle.vc_base.proofs.Common.{map, refl, ◌∙◌}
use Rattle.vc_region.specs.Cells.{cells_in}
use Rattle.vc_algebra.specs.InRegion.{layers_of_region}
use Rattle.vc_algebra.specs.RegionLaws.{are-layers}
use Rattle.vc_algebra.proofs.ToldLemmas.{place-less, same-left}
use Rattle.vc_algebra.proofs.region_layers.RegionLayersLayers.before_like.Goals as goal

pub sought_like-requires : goal.sought_like-requires
sought_like-requires g c = record { dict = c.requires.dict; there = c.requires.compared.there; asked = c.requires.method; place = c.requires.compared.object }

pub returns-clause-found : goal.returns-clause-found
returns-clause-found g c = λ bytes h.
    let s = c.args.self.now in
    c.sought_like.ensures.found bytes h
    ∙ place-less (layers_of_region (map g.D.DictDisc.rules s.kinds.items) (cells_in s.region) s.dicts c.args.d) bytes
    ((are-layers g.D.DictDisc.rules g.met.D.DictDisc.lawful s.kinds.items s.region s.dicts).lawful c.args.d c.requires.dict)

pub returns-clause-layers : goal.returns-clause-layers
returns-clause-layers g c = same-left c.sought_like.ensures.leaves

pub returns-clause-stays : goal.returns-clause-stays
returns-clause-stays g c = (refl, c.sought_like.ensures.leaves.keeps)
