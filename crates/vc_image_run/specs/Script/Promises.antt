-- What is promised of a script whose first region is saved.
use Rattle.std.specs.Prelude.{◌≡◌, ℕ, ◌⊎◌, List, [], Option, Some, None, Result, Ok, Err, IfSome, IsSomeAnd, false, slice_get}
use Rattle.vc_base.specs.Memory.{MemorySink}
use Rattle.vc_dtdisc.specs.Rules.{Rules}
use Rattle.vc_image_check.specs.Dicts.Whole.{IsFirstUnsoundPart, IsSoundImage}
use Rattle.vc_image_run.specs.Script.Image.{IsImageOf}
use Rattle.vc_image_run.specs.declared.script.fault.ScriptFault.{ScriptFault}
use Rattle.vc_image_run.specs.declared.script.fault.ScriptFault.TheVariants.{Line, Read, Write, Memory, NoRegion, WrongMethod, Unsound}
use Rattle.vc_commands.specs.Home.{Home}
use Rattle.vc_region.specs.Region.{is_best}
use Rattle.vc_script.specs.declared.line_fault.LineFault.{LineFault}
use Rattle.vc_script.specs.declared.tool.Tool.TheVariants.{Dtrun}
use Rattle.vc_session.specs.Engine.{RunsScript}
use Rattle.vc_session.specs.Replay.{LeavesReplay}
use Rattle.vc_session.specs.Rows.{no_words}
use Rattle.vc_session.specs.Streams.{Flows}
use Rattle.vc_session.specs.declared.engine.Stop.{Stop}
use Rattle.vc_session.specs.declared.engine.Stop.TheVariants as stop
use Rattle.vc_steps.specs.Moment.{Moment, over_sink}
use Rattle.vc_steps.specs.State.{State}

-- the fault of a run that was broken off
abbrev pub script_fault_of : Stop → ScriptFault
script_fault_of stop.Read = Read
script_fault_of stop.Write = Write
script_fault_of stop.Memory = Memory

-- what a run of a script without words promises, by its answer
abbrev pub RunsWithoutWords : Result (Option (ℕ × LineFault)) Stop → Moment → Moment → Flows → Flows → Type 0
RunsWithoutWords answer start last old new = RunsScript Dtrun no_words answer start last old new

-- the script was run to its end, and that is true of the state that it leaves
pub record RunsTo (holds : State → Type 0) (start last : Moment) (old new : Flows) : Type 0 where
  pub runs : RunsWithoutWords (Ok None) start last old new
  pub state : State
  pub leaves : IfSome old.left (λ input. LeavesReplay Dtrun no_words (over_sink start old.written) (over_sink (record last { state = state }) new.written) input None)
  pub is : holds state

-- there is a first region, of another method than best
abbrev pub IsOtherFirst : State → Type 0
IsOtherFirst s = IsSomeAnd (slice_get s.homes 0) (λ (h : Home). is_best h.region ≡ false)

module _ (kinds : List Rules) where
  -- a sound image of the first region with its dictionaries
  pub record IsSaved (s : State) (image : List ℕ) : Type 0 where
    pub image_of : IsImageOf s image
    pub sound : IsSoundImage kinds image

  -- why no image is made
  abbrev pub FailsBy : ScriptFault → Moment → Moment → Flows → Flows → Type 0
  FailsBy (Line n why) start last old new = RunsWithoutWords (Ok (Some (n, why))) start last old new
  FailsBy Read start last old new = RunsWithoutWords (Err stop.Read) start last old new
  FailsBy Write start last old new = RunsWithoutWords (Err stop.Write) start last old new
  FailsBy Memory start last old new = RunsWithoutWords (Err stop.Memory) start last old new ⊎ RunsWithoutWords (Ok None) start last old new
  FailsBy NoRegion start last old new = RunsTo (λ s. s.homes ≡ []) start last old new
  FailsBy WrongMethod start last old new = RunsTo IsOtherFirst start last old new
  FailsBy (Unsound part) start last old new = RunsTo (λ s. (image : List ℕ) × (IsImageOf s image × IsFirstUnsoundPart kinds image part)) start last old new

  -- by what is answered
  abbrev pub Saves : Result MemorySink ScriptFault → Moment → Moment → Flows → Flows → Type 0
  Saves (Ok image) start last old new = RunsTo (λ s. IsSaved s image.written) start last old new
  Saves (Err why) start last old new = FailsBy why start last old new
