-- The labelled blocks of a region stay where zeros stand for the bytes of the unlabelled ones.
use Rattle.vc_base.proofs.Common.{◌≡◌, ℕ, refl}
use Rattle.vc_best.proofs.Labelled.{labelled_of, labelled-zeroed}
use Rattle.vc_region.specs.Cells.{tagged_blocks, rest_of}
use Rattle.vc_region.specs.Region as model
use Rattle.vc_region.proofs.RestFound.{by-blocks}

pub labelled-rest : (r : model.Region ℕ) → tagged_blocks (rest_of r) ≡ tagged_blocks r
labelled-rest r = by-blocks (λ bs cs. labelled_of bs ≡ labelled_of cs) r labelled-zeroed (λ bs. refl)
