-- What is told of an image, by the status.
use Rattle.vc_base.proofs.Common.{◌≡◌, ℕ, List, Err, refl, sym, subst, codes, Discipline}
use Rattle.vc_dtdisc.specs.Rules.{Rules}
use Rattle.vc_image.specs.declared.fault.LoadFault.TheVariants as load
use Rattle.vc_image_check.specs.Dicts.Whole.{IsSoundImage}
use Rattle.vc_image_run.specs.Tool.Promises.{Checks, IsJudged, IsNotShown, PutsText, ShowsSoundImage, TellsLine}
use Rattle.vc_image_run.specs.Tool.Streams.{Sinks}
use Rattle.vc_image_run.specs.Tool.Told.{fault_line, status_of_image_fault}
use Rattle.vc_image_run.specs.declared.tool.fault.ImageFault.{ImageFault}
use Rattle.vc_image_run.specs.declared.tool.fault.ImageFault.TheVariants as fault
use Rattle.vc_image_run.specs.declared.tool.status.ImageStatus.{ImageStatus}
use Rattle.vc_image_run.specs.declared.tool.status.ImageStatus.TheVariants.{Done, Unsound, Usage, Read, Write, Memory, NotLent, Script, NoImage}

module _ (kinds : List Rules) (image : List ℕ) (old new : Sinks) where
  -- a sound image is told so
  pub put-checked : (status : ImageStatus) → IsSoundImage kinds image → PutsText (codes "sound\n") status old new → Checks kinds image status old new
  put-checked Done s p = (s, p)
  put-checked Unsound s p = absurd p
  put-checked Usage s p = (s, p)
  put-checked Read s p = (s, p)
  put-checked Write s p = (s, p)
  put-checked Memory s p = absurd p
  put-checked NotLent s p = (s, p)
  put-checked Script s p = (s, p)
  put-checked NoImage s p = (s, p)

  checked-by : (why : ImageFault) → IsJudged kinds image (Err why) → TellsLine old new (fault_line why) → Checks kinds image (status_of_image_fault why) old new
  checked-by fault.Usage j t = absurd j
  checked-by fault.Read j t = absurd j
  checked-by fault.Write j t = absurd j
  checked-by fault.Memory j t = t
  checked-by (fault.Load (load.Bad part)) j t = record { part = part; first = j; told = t }
  checked-by (fault.Load (load.Round number)) j t = absurd j
  checked-by (fault.Load load.Grows) j t = absurd j
  checked-by (fault.Load (load.NoSegment number)) j t = absurd j
  checked-by (fault.Load load.OutOfMemory) j t = absurd j
  checked-by (fault.Script why) j t = absurd j
  checked-by (fault.Open why) j t = absurd j

  -- and what is wrong with another one
  pub told-checked : (why : ImageFault) (status : ImageStatus) → IsJudged kinds image (Err why) → status ≡ status_of_image_fault why → TellsLine old new (fault_line why) → Checks kinds image status old new
  told-checked why status j e t = subst (λ z. Checks kinds image z old new) (sym e) (checked-by why j t)

  module _ (d : Discipline) where
    shown-by : (why : ImageFault) → IsNotShown kinds image d why → TellsLine old new (fault_line why) → ShowsSoundImage kinds image d (status_of_image_fault why) old new
    shown-by fault.Usage n t = absurd n
    shown-by fault.Read n t = absurd n
    shown-by fault.Write n t = absurd n
    shown-by fault.Memory n t = t
    shown-by (fault.Load (load.Bad part)) n t = record { part = part; first = n.1.0; told = t }
    shown-by (fault.Load (load.Round number)) n t = record { why = load.Round number; status = refl; left = n.0; cause = n.1; told = t }
    shown-by (fault.Load load.Grows) n t = record { why = load.Grows; status = refl; left = n.0; cause = n.1; told = t }
    shown-by (fault.Load (load.NoSegment number)) n t = record { why = load.NoSegment number; status = refl; left = n.0; cause = n.1; told = t }
    shown-by (fault.Load load.OutOfMemory) n t = t
    shown-by (fault.Script why) n t = absurd n
    shown-by (fault.Open why) n t = absurd n

    -- why nothing is shown of an image
    pub told-shown : (why : ImageFault) (status : ImageStatus) → IsNotShown kinds image d why → status ≡ status_of_image_fault why → TellsLine old new (fault_line why) → ShowsSoundImage kinds image d status old new
    told-shown why status n e t = subst (λ z. ShowsSoundImage kinds image d z old new) (sym e) (shown-by why n t)
