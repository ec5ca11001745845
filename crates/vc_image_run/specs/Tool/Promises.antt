-- What the tasks on an image promise, by the status with which they end.
use Rattle.std.specs.Prelude.{◌≡◌, ℕ, List, Result, Ok, Err, codes}
use Rattle.vc_model.specs.Discipline.{Discipline}
use Rattle.vc_dtdisc.specs.Rules.{Rules}
use Rattle.vc_image.specs.Load.{IsNotLoaded}
use Rattle.vc_image.specs.declared.fault.LoadFault.{LoadFault}
use Rattle.vc_image.specs.declared.fault.LoadFault.TheVariants as load
use Rattle.vc_image_check.specs.Dicts.Whole.{IsFirstUnsoundPart, IsSoundImage}
use Rattle.vc_image_check.specs.declared.parts.part.Part.{Part}
use Rattle.vc_image_run.specs.declared.tool.fault.ImageFault.{ImageFault}
use Rattle.vc_image_run.specs.declared.tool.fault.ImageFault.TheVariants as fault
use Rattle.vc_image_run.specs.declared.tool.status.ImageStatus.{ImageStatus}
use Rattle.vc_image_run.specs.declared.tool.status.ImageStatus.TheVariants.{Done, Unsound, Write, Memory, NotLent}
use Rattle.vc_image_run.specs.Tool.Shown.{shown_of}
use Rattle.vc_image_run.specs.Tool.Streams.{Sinks}
use Rattle.vc_image_run.specs.Tool.Told.{fault_line, load_status, vmimage_line}
use Rattle.vc_base.specs.Told.{Broke, Told, Tried}

-- one line was tried on err
abbrev pub Tries : Sinks → Sinks → List ℕ → Type 0
Tries old new line = Tried old.errors new.errors old.told new.told line

-- a line was tried on err, and nothing was written besides
abbrev pub TellsLine : Sinks → Sinks → List ℕ → Type 0
TellsLine old new line = (new.written ≡ old.written) × Tries old new line

-- a text was written, and nothing is told; or a front of it, and it is told that a write failed
abbrev pub PutsText : List ℕ → ImageStatus → Sinks → Sinks → Type 0
PutsText text Done old new = Told old.written new.written text × (new.told ≡ old.told)
PutsText text Write old new =
    Broke old.writes new.writes old.written new.written text × Tries old new (fault_line fault.Write)
PutsText text other old new = ⊥

-- the first part of an image that isn't sound is told
pub record TellsPart (kinds : List Rules) (image : List ℕ) (old new : Sinks) : Type 0 where
  pub part : Part
  pub first : IsFirstUnsoundPart kinds image part
  pub told : TellsLine old new (fault_line (fault.Load (load.Bad part)))

-- it is told why a sound image isn't loaded over a discipline
pub record TellsRefusal (kinds : List Rules) (image : List ℕ) (d : Discipline) (old new : Sinks) : Type 0 where
  pub why : LoadFault
  pub status : load_status why ≡ NotLent
  pub left : Discipline
  pub cause : IsNotLoaded kinds image d left why
  pub told : TellsLine old new (fault_line (fault.Load why))

-- want of memory is told, which may come at any time
abbrev pub TellsMemory : Sinks → Sinks → Type 0
TellsMemory old new = TellsLine old new (vmimage_line (codes "out of memory"))

-- an image is judged for some kinds: it is told that it is sound, or what isn't
abbrev pub Checks : List Rules → List ℕ → ImageStatus → Sinks → Sinks → Type 0
Checks kinds image Unsound old new = TellsPart kinds image old new
Checks kinds image Memory old new = TellsMemory old new
Checks kinds image status old new = IsSoundImage kinds image × PutsText (codes "sound\n") status old new

-- what a sound image holds is shown, where a discipline lends it its segments
abbrev pub ShowsSoundImage : List Rules → List ℕ → Discipline → ImageStatus → Sinks → Sinks → Type 0
ShowsSoundImage kinds image d Unsound old new = TellsPart kinds image old new
ShowsSoundImage kinds image d NotLent old new = TellsRefusal kinds image d old new
ShowsSoundImage kinds image d Memory old new = TellsMemory old new
ShowsSoundImage kinds image d status old new = IsSoundImage kinds image × PutsText (shown_of image) status old new

-- whether an image is sound; else its first part that isn't, or want of memory
abbrev pub IsJudged : List Rules → List ℕ → Result (Unit {0}) ImageFault → Type 0
IsJudged kinds image (Ok done) = IsSoundImage kinds image
IsJudged kinds image (Err (fault.Load (load.Bad part))) = IsFirstUnsoundPart kinds image part
IsJudged kinds image (Err fault.Memory) = Unit {0}
IsJudged kinds image (Err other) = ⊥

-- why nothing is shown of an image
abbrev pub IsNotShown : List Rules → List ℕ → Discipline → ImageFault → Type 0
IsNotShown kinds image d (fault.Load why) = (left : Discipline) × IsNotLoaded kinds image d left why
IsNotShown kinds image d fault.Memory = Unit {0}
IsNotShown kinds image d other = ⊥
