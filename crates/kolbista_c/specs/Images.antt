-- What calls on images in memory promise.
use Rattle.std.specs.Prelude.{◌≡◌, ℕ, ◌⊎◌, List, [], Some, ◌&&◌, if◌then◌else◌, length, map}
use Rattle.kolbista_c.specs.Memory.{Buffer, IsFilled, NothingRan, fits_buffer}
use Rattle.vc_dtdisc.specs.Rules.{Rules}
use Rattle.vc_dtdisc.specs.Shapes.{rules_of}
use Rattle.vc_image_run.specs.Tool.Promises.{Checks, ShowsSoundImage}
use Rattle.vc_image_run.specs.Tool.Status.{image_status_number}
use Rattle.vc_image_run.specs.Tool.Streams.{Sinks}
use Rattle.vc_image_run.specs.declared.tool.status.ImageStatus.{ImageStatus}
use Rattle.vc_main.specs.Places.{shapes}
use Rattle.vc_model.specs.Discipline.{Discipline}

-- the rules of dtrun's kinds, from kind 1 on
abbrev pub dtrun_rules : List Rules
dtrun_rules = map rules_of shapes

-- the sinks before a task
abbrev pub no_sinks : Sinks
no_sinks = record { written = Some []; writes = 0; told = Some []; errors = 0 }

-- a task on an image was done, and as much as fits of what it wrote and told is in the buffers
pub record DidInMemory (did : ImageStatus → Sinks → Sinks → Type 0) (answer : ℕ) (out err : Buffer) : Type 0 where
  pub status : ImageStatus
  pub last : Sinks
  pub written : List ℕ
  pub told : List ℕ
  pub done : did status no_sinks last
  pub wrote : last.written ≡ Some written
  pub said : last.told ≡ Some told
  -- where all of it fits, the answer is the status, and else that of a failed write
  pub code : answer ≡ (if fits_buffer written out && fits_buffer told err then image_status_number status else 4)
  pub replied : IsFilled written out
  pub faulted : IsFilled told err

-- want of memory before the task, or the task
abbrev pub Does : (ImageStatus → Sinks → Sinks → Type 0) → ℕ → Buffer → Buffer → Type 0
Does did answer out err = NothingRan 5 answer out err ⊎ DidInMemory did answer out err

-- an image is judged for dtrun's kinds; that it is sound is told by the answer, and its six bytes go nowhere
pub record Judges (image : List ℕ) (answer : ℕ) (err : Buffer) : Type 0 where
  pub out : Buffer
  pub room : length out.before ≡ 6
  pub does : Does (Checks dtrun_rules image) answer out err

-- what an image holds is shown, over some discipline
pub record ShowsImage (image : List ℕ) (answer : ℕ) (out err : Buffer) : Type 0 where
  pub disc : Discipline
  pub does : Does (ShowsSoundImage dtrun_rules image disc) answer out err
