-- A discipline that stands at its place again.
use Rattle.vc_base.proofs.Common.{◌≡◌, ℕ, ◌-◌, List, Some, None, set, ap, ◌∙◌, set-set, Discipline}
use Rattle.vc_dtdisc.specs.Rules.{Rules}
use Rattle.vc_image.specs.declared.fault.LoadFault.TheVariants.{Bad, Round, Grows, NoSegment, OutOfMemory}
use Rattle.vc_image_run.specs.Session.Opens.{IsNotOpened, StandsAgain}
use Rattle.vc_image_run.specs.declared.session.fault.OpenFault.{OpenFault}
use Rattle.vc_image_run.specs.declared.session.fault.OpenFault.TheVariants.{NoDiscipline, Load, Tags}
use Rattle.vc_steps.proofs.Sessions.{Slots}

pub again-by : (kinds : List Rules) (place : ℕ) (image : List ℕ) (slots slots' : Slots) (why : OpenFault) → StandsAgain kinds place image slots slots' why → IsNotOpened kinds place image slots slots' why
again-by kinds place image slots slots' NoDiscipline a = absurd a.cause
again-by kinds place image slots slots' (Load (Bad part)) a = a
again-by kinds place image slots slots' (Load (Round number)) a = a
again-by kinds place image slots slots' (Load Grows) a = a
again-by kinds place image slots slots' (Load (NoSegment number)) a = a
again-by kinds place image slots slots' (Load OutOfMemory) a = tt
again-by kinds place image slots slots' Tags a = a

-- a place that was emptied and filled
pub slots-again : (slots : Slots) (place : ℕ) (d : Discipline) {emptied filled : Slots} → emptied ≡ set slots (place - 1) None → filled ≡ set emptied (place - 1) (Some d) → filled ≡ set slots (place - 1) (Some d)
slots-again slots place d none some = some ∙ (ap (λ s. set s (place - 1) (Some d)) none ∙ set-set slots (place - 1) None (Some d))
