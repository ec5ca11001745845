use Rattle.vc_base.proofs.Common.{refl}
use Rattle.vc_algebra.proofs.ToldLemmas.{same-left}
use Rattle.vc_algebra.proofs.region_layers.RegionLayersLayers.last_like.Goals as goal

pub last_at-requires : goal.last_at-requires
last_at-requires g c = record { dict = c.requires.dict; place = c.requires.place }

pub returns-clause-layers : goal.returns-clause-layers
returns-clause-layers g c = same-left c.last_at.ensures.leaves

pub returns-clause-stays : goal.returns-clause-stays
returns-clause-stays g c = (refl, c.last_at.ensures.leaves.keeps)
