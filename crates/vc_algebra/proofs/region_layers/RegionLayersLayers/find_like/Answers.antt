use Rattle.vc_base.proofs.Common.{refl}
use Rattle.vc_algebra.proofs.ToldLemmas.{same-left}
use Rattle.vc_algebra.proofs.region_layers.RegionLayersLayers.find_like.Goals as goal

pub sought_like-requires : goal.sought_like-requires
sought_like-requires g c = record { dict = c.requires.dict; there = c.requires.other; asked = tt; place = c.requires.place }

pub returns-clause-layers : goal.returns-clause-layers
returns-clause-layers g c = same-left c.sought_like.ensures.leaves

pub returns-clause-stays : goal.returns-clause-stays
returns-clause-stays g c = (refl, c.sought_like.ensures.leaves.keeps)
