use Rattle.vc_base.proofs.Common.{refl}
use Rattle.vc_algebra.proofs.ToldLemmas.{same-left}
use Rattle.vc_algebra.proofs.region_layers.RegionLayersLayers.find.Goals as goal

pub sought_at-requires : goal.sought_at-requires
sought_at-requires g c = record { dict = c.requires; side = tt }

pub returns-clause-layers : goal.returns-clause-layers
returns-clause-layers g c = same-left c.sought_at.ensures.leaves

pub returns-clause-stays : goal.returns-clause-stays
returns-clause-stays g c = (refl, c.sought_at.ensures.leaves.keeps)
