-- What calls promise that make an image of what a script leaves.
use Rattle.std.specs.Prelude.{◌≡◌, ℕ, ◌⊎◌, ◌&&◌, List, [], Option, Some, None, Result, Ok, Err, if◌then◌else◌, length, map}
use Rattle.kolbista_c.specs.Images.{dtrun_rules}
use Rattle.kolbista_c.specs.Memory.{Buffer, IsFilled, NothingRan, fits_buffer, streams_over}
use Rattle.vc_base.specs.Memory.{MemorySink}
use Rattle.vc_dtdisc.specs.Rules.{Gone, Rules}
use Rattle.vc_dtdisc.specs.Shapes.{BuiltInKind, rules_of}
use Rattle.vc_image_run.specs.Tool.Making.{Makes, MakesOver}
use Rattle.vc_image_run.specs.Tool.Status.{image_status_number}
use Rattle.vc_image_run.specs.declared.tool.status.ImageStatus.{ImageStatus}
use Rattle.vc_model.specs.Discipline.{Discipline}
use Rattle.vc_script.specs.declared.tool.Tool.TheVariants.{Dtrun}
use Rattle.vc_session.specs.Arming.{IsVersionOne, Keeps}
use Rattle.vc_session.specs.Streams.{Streams}
use Rattle.vc_steps.specs.Moment.{Moment, at_rest}

-- the bytes of an image that was made, and the number of the status
abbrev pub made_bytes : Result MemorySink ImageStatus → List ℕ
made_bytes (Ok image) = image.written
made_bytes (Err status) = []

abbrev pub made_status : Result MemorySink ImageStatus → ℕ
made_status (Ok image) = 0
made_status (Err status) = image_status_number status

-- an image was made or not, and as much as fits of it, of what was written and of what was told is in the buffers
pub record MadeInMemory (did : Result MemorySink ImageStatus → Streams → Type 0) (answer : ℕ) (made out err : Buffer) : Type 0 where
  pub image : Result MemorySink ImageStatus
  pub last : Streams
  pub written : List ℕ
  pub told : List ℕ
  pub done : did image last
  pub wrote : last.written ≡ Some written
  pub said : last.told ≡ Some told
  -- where all of it fits, the answer is the status, and else that of a failed write
  pub code : answer ≡ (if fits_buffer (made_bytes image) made && (fits_buffer written out && fits_buffer told err) then made_status image else 4)
  pub remade : IsFilled (made_bytes image) made
  pub replied : IsFilled written out
  pub faulted : IsFilled told err

-- want of memory before the run, or the run
abbrev pub MakesInMemory : (Result MemorySink ImageStatus → Streams → Type 0) → ℕ → Buffer → Buffer → Buffer → Type 0
MakesInMemory did answer made out err = (NothingRan 5 answer out err × IsFilled [] made) ⊎ MadeInMemory did answer made out err

-- over eighteen disciplines and dtrun's kinds, with nothing open, a script was run and the image of what it leaves was made, or not; and each place has its discipline again, with no segment more out
pub record Saved (script : List ℕ) (image : Result MemorySink ImageStatus) (streams : Streams) : Type 0 where
  pub start : Moment
  pub last : Moment
  pub places : length start.accounts ≡ 18
  pub kinds : start.state.kinds ≡ dtrun_rules
  pub makes : Makes dtrun_rules image start last (streams_over script) streams
  pub keeps : Keeps (IsVersionOne None Dtrun (Some script)) start last

-- what one of dtrun's kinds means, and what it was told of
abbrev pub kind_rules : BuiltInKind → Rules
kind_rules k = rules_of k.shape

abbrev pub kind_gone : BuiltInKind → Gone
kind_gone k = k.gone

-- the same of a script that was run over an image, whose region was opened over the first discipline
pub record Remade (image script : List ℕ) (remade : Result MemorySink ImageStatus) (streams : Streams) : Type 0 where
  pub slots : List (Option Discipline)
  pub kinds : List BuiltInKind
  pub slots' : List (Option Discipline)
  pub kinds' : List BuiltInKind
  pub places : length slots ≡ 18
  pub rules : map kind_rules kinds ≡ dtrun_rules
  pub makes : MakesOver kind_rules kind_gone 1 image slots kinds remade slots' kinds' (streams_over script) streams
  pub keeps : Keeps (IsVersionOne None Dtrun (Some script)) (at_rest kind_rules kind_gone slots kinds) (at_rest kind_rules kind_gone slots' kinds')
