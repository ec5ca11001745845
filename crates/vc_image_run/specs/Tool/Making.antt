-- What is promised of an image that is made of what a script leaves.
use Rattle.std.specs.Prelude.{◌≡◌, ℕ, List, Option, Result, Ok, Err}
use Rattle.vc_base.specs.Memory.{MemorySink}
use Rattle.vc_dtdisc.specs.Rules.{Gone, Rules}
use Rattle.vc_model.specs.Discipline.{Discipline}
use Rattle.vc_image_run.specs.Script.Over.{Remakes}
use Rattle.vc_image_run.specs.Script.Promises.{FailsBy, Saves}
use Rattle.vc_image_run.specs.declared.script.over_fault.OverFault.{OverFault}
use Rattle.vc_image_run.specs.declared.script.fault.ScriptFault.{ScriptFault}
use Rattle.vc_image_run.specs.Tool.Told.{fault_line, over_fault, script_status, status_of_image_fault}
use Rattle.vc_image_run.specs.declared.tool.fault.ImageFault.TheVariants as fault
use Rattle.vc_image_run.specs.declared.tool.status.ImageStatus.{ImageStatus}
use Rattle.vc_session.specs.Streams.{Flows, Streams}
use Rattle.vc_steps.specs.Moment.{Moment}
use Rattle.vc_base.specs.Told.{Tried}

-- the source and the sink of replies among the streams
abbrev pub flows_of : Streams → Flows
flows_of s = record { left = s.left; reads = s.reads; written = s.written; writes = s.writes }

module _ (kinds : List Rules) where
  -- it is told why no image is made
  pub record TellsScript (status : ImageStatus) (start last : Moment) (old new : Streams) : Type 0 where
    pub why : ScriptFault
    pub cause : FailsBy kinds why start last (flows_of old) (flows_of new)
    pub status_is : status ≡ script_status why
    pub told : Tried old.errors new.errors old.told new.told (fault_line (fault.Script why))

  -- by what is answered
  abbrev pub Makes : Result MemorySink ImageStatus → Moment → Moment → Streams → Streams → Type 0
  Makes (Ok image) start last old new = Saves kinds (Ok image) start last (flows_of old) (flows_of new)
  Makes (Err status) start last old new = TellsScript status start last old new

module _ {D : Type 0} (rules : D → Rules) (gone : D → Gone) (place : ℕ) (image : List ℕ) (slots : List (Option Discipline)) (kinds : List D) where
  -- it is told why no image is made of what a script leaves that is run over this one
  pub record TellsOver (status : ImageStatus) (slots' : List (Option Discipline)) (kinds' : List D) (old new : Streams) : Type 0 where
    pub why : OverFault
    pub cause : Remakes rules gone place image slots kinds (Err why) slots' kinds' (flows_of old) (flows_of new)
    pub status_is : status ≡ status_of_image_fault (over_fault why)
    pub told : Tried old.errors new.errors old.told new.told (fault_line (over_fault why))

  -- by what is answered
  abbrev pub MakesOver : Result MemorySink ImageStatus → List (Option Discipline) → List D → Streams → Streams → Type 0
  MakesOver (Ok remade) slots' kinds' old new =
      Remakes rules gone place image slots kinds (Ok remade) slots' kinds' (flows_of old) (flows_of new)
  MakesOver (Err status) slots' kinds' old new = TellsOver status slots' kinds' old new
