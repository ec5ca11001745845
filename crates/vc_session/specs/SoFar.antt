-- A run in its middle, of lines that come in pieces.
use Rattle.std.specs.Prelude.{◌≡◌, ℕ, ◌+◌, ◌-◌, ◌*◌, ◌≤◌, List, [], ◌++◌, Option, Some, None, Bool, false, Result, Ok, IfOk, IfSome, IsOk, IsTrue, OnErr, length}
use Rattle.std.specs.List.{AllByRecursion}
use Rattle.vc_base.specs.declared.fault.OutOfMemory.{OutOfMemory}
use Rattle.vc_counts.specs.declared.counts.Counts.{Counts}
use Rattle.vc_script.specs.declared.command.Command.{Command}
use Rattle.vc_script.specs.declared.line_fault.LineFault.{LineFault}
use Rattle.vc_script.specs.declared.tool.Tool.{Tool}
use Rattle.vc_script.specs.Cutting.{Cutting, IsCutting}
use Rattle.vc_script.specs.Judged.{judged_lines, judged_from, last_number, line_limit}
use Rattle.vc_script.specs.Lines.{ended_after, lines_after}
use Rattle.vc_steps.specs.Moment.{Moment, over_sink}
use Rattle.vc_steps.specs.State.{State}
use Rattle.vc_steps.specs.declared.session.Session.{Session}
use Rattle.vc_session.specs.Far.{RanPart}
use Rattle.vc_session.specs.Progress.{CanCountOn, Progress}
use Rattle.vc_session.specs.QuietText.{style_by}
use Rattle.vc_session.specs.Replay.{ShowsNoFault, Stops}
use Rattle.vc_base.specs.Told.{Told}
use Rattle.vc_session.specs.Run.{commands_in, fault_in, first_bad, is_second, is_second_in, script, version_of, wholly_read}

-- lines by their numbers, or what is wrong with them
abbrev pub FoundSoFar : Type 0
FoundSoFar = List (ℕ × Result (List ℕ) LineFault)

-- so many lines were run, whatever is behind them
pub record Running (tool : Tool) (quiet : Bool) (start now : Moment) (counts : Counts) (text : List ℕ) (count : ℕ) (whole : FoundSoFar) : Type 0 where
  pub done : List (ℕ × Command)
  pub progress : Progress quiet start now counts text count done
  pub size : length whole ≡ count
  pub short : AllByRecursion (λ line. IsOk line.1) whole
  pub script : (behind : FoundSoFar) → commands_in tool (whole ++ behind) ≡ done ++ commands_in tool behind
  pub good : (behind : FoundSoFar) → fault_in tool (whole ++ behind) ≡ fault_in tool behind
  -- disciplines are armed by the version that the first line told
  pub armed : now.armed ≡ is_second_in tool whole

-- what is judged of the bytes behind those that were fed
abbrev pub judged_rest : Cutting → List ℕ → FoundSoFar
judged_rest s bytes = judged_from (s.count + 1) (lines_after s.kept bytes)

-- the lines that are ended in them
abbrev pub ended_rest : Cutting → List ℕ → FoundSoFar
ended_rest s bytes = judged_from (s.count + 1) (ended_after s.kept bytes)

-- of an input these lines were found, and the rest of the last piece is left with what is behind it
pub record Reading (tool : Tool) (input : List ℕ) (left : Option (List ℕ)) (s : Cutting) (rest : List ℕ) (whole : FoundSoFar) : Type 0 where
  pub before : List ℕ
  pub last : List ℕ
  pub behind : List ℕ
  pub split : input ≡ (before ++ last) ++ behind
  pub size : length last ≤ 4096
  pub no_fault : ShowsNoFault tool before
  pub unread : left ≡ Some behind
  pub lines : (more : List ℕ) → judged_lines ((before ++ last) ++ more) ≡ whole ++ judged_rest s (rest ++ more)
  pub ended : (more : List ℕ) → wholly_read ((before ++ last) ++ more) ≡ whole ++ ended_rest s (rest ++ more)

-- what was run so far of a source that told its bytes at the start, or didn't
pub record SoFar (tool : Tool) (quiet : Bool) (start now : Moment) (counts : Counts) (text : List ℕ) (told left : Option (List ℕ)) (s : Cutting) (rest : List ℕ) : Type 0 where
  pub whole : FoundSoFar
  pub running : Running tool quiet start now counts text s.count whole
  pub reading : IfSome told (λ input. Reading tool input left s rest whole)

-- the lines of an input were run to its end, or to the first bad one, and their replies are written; where there is no bad line, that is the number of lines
pub record AtEnd (tool : Tool) (quiet : Bool) (start now : Moment) (counts : Counts) (lines : ℕ) (input : List ℕ) (bad : Option (ℕ × LineFault)) (left : Option (List ℕ)) : Type 0 where
  pub text : List ℕ
  pub count : ℕ
  pub few : count ≤ last_number
  pub progress : Progress quiet start now counts text count (script tool input)
  pub armed : now.armed ≡ is_second tool input
  pub told : Told start.written now.written text
  pub first : bad ≡ first_bad tool input
  pub stops : Stops tool input bad left
  pub whole : bad ≡ None → lines ≡ length (judged_lines input)

-- disciplines aren't armed by a script of version 1
abbrev pub ArmsBy : Tool → List ℕ → Moment → Type 0
ArmsBy tool input now = version_of tool input ≡ 1 → now.armed ≡ false

-- of commands of an input the first were run so far, written as its version asks for
pub record RanPartBy (tool : Tool) (quiet : Bool) (start now : Moment) (text : List ℕ) (input : List ℕ) : Type 0 where
  pub part : RanPart (style_by quiet (is_second tool input)) start now text (script tool input)
  pub arms : ArmsBy tool input now

-- each run so far goes on: what was left of a piece was run up to what is left now, and its replies were gathered
pub record GoesOn (tool : Tool) (quiet : Bool) (first now : Moment) (before counts : Counts) (gathered : List ℕ) (s next : Cutting) (rest rest' : List ℕ) : Type 0 where
  pub on : {start : Moment} {text : List ℕ} {told left : Option (List ℕ)} → SoFar tool quiet start first before text told left s rest → SoFar tool quiet start now counts (text ++ gathered) told left next rest'

-- each run so far ends at this bad line, once what was gathered is written
pub record Ends (tool : Tool) (quiet : Bool) (first now : Moment) (before counts : Counts) (gathered : List ℕ) (s : Cutting) (lines : ℕ) (rest : List ℕ) (bad : ℕ × LineFault) : Type 0 where
  pub end : {start : Moment} {text : List ℕ} {told left : Option (List ℕ)} (after : Option (List ℕ)) → SoFar tool quiet start first before text told left s rest → Told start.written after (text ++ gathered) → IfSome told (λ input. AtEnd tool quiet start (over_sink now after) counts lines input (Some bad) left)

-- each run so far ends with the input
pub record EndsAll (tool : Tool) (quiet : Bool) (first now : Moment) (before counts : Counts) (gathered : List ℕ) (s : Cutting) (lines : ℕ) (bad : Option (ℕ × LineFault)) : Type 0 where
  pub end : {start : Moment} {text : List ℕ} {told left : Option (List ℕ)} (after : Option (List ℕ)) → SoFar tool quiet start first before text told left s [] → IfSome told (λ input. left ≡ Some []) → Told start.written after (text ++ gathered) → IfSome told (λ input. AtEnd tool quiet start (over_sink now after) counts lines input bad left)

-- each run so far is run on, whatever comes of it: what is gathered is a front of what is written of the replies
pub record GoesFar (tool : Tool) (quiet : Bool) (first now : Moment) (before : Counts) (gathered : List ℕ) (s : Cutting) (rest : List ℕ) : Type 0 where
  pub far : {start : Moment} {text : List ℕ} {told left : Option (List ℕ)} → SoFar tool quiet start first before text told left s rest → IfSome told (λ input. RanPartBy tool quiet start now (text ++ gathered) input)

-- and so with the input's end
pub record EndsFar (tool : Tool) (quiet : Bool) (first now : Moment) (before : Counts) (gathered : List ℕ) (s : Cutting) : Type 0 where
  pub far : {start : Moment} {text : List ℕ} {told left : Option (List ℕ)} → SoFar tool quiet start first before text told left s [] → IfSome told (λ input. left ≡ Some []) → IfSome told (λ input. RanPartBy tool quiet start now (text ++ gathered) input)

-- more may be fed to a cutter
pub record CanFeed (s : Cutting) : Type 0 where
  pub is_open : IsTrue s.is_open
  pub cutting : IsCutting s

-- and a quiet run can count the commands of later lines
pub record CanGoOn {I : Type 0} {V : I → Type 0} {D : Type 0} (quiet : Bool) (counts : Counts) (now : State) (session : Session D I V) (s : Cutting) : Type 0 where
  pub feeds : CanFeed s
  pub can_count : CanCountOn quiet counts now s.count
  -- before the first line it arms no discipline
  pub unarmed : s.count ≡ 0 → session.is_armed ≡ false

-- the bytes that can still be taken without a fault
abbrev pub fuel : Cutting → ℕ
fuel s = (last_number - s.count) * 4097 + (line_limit - length s.kept)

-- what running the lines that a piece ends promises by its answer; `gathered` are the replies
pub record RunsPiece (tool : Tool) (quiet : Bool) (answer : Result (Option (ℕ × LineFault)) OutOfMemory) (first now : Moment) (before counts : Counts) (gathered : List ℕ) (s next : Cutting) (piece : List ℕ) : Type 0 where
  -- each run so far goes on, or ends at the first bad line
  pub good : answer ≡ Ok None → GoesOn tool quiet first now before counts gathered s next piece []
  pub bad : (found : ℕ × LineFault) → answer ≡ Ok (Some found) → Ends tool quiet first now before counts gathered s next.count piece found
  -- with no bad line more can be fed, but for the bytes that were taken
  pub open_is : answer ≡ Ok None → CanFeed next
  pub less : answer ≡ Ok None → fuel next + length piece ≤ fuel s
  -- and counted
  pub counted : answer ≡ Ok None → CanCountOn quiet counts now.state next.count
  -- and then, or where memory was wanting, what was gathered is of the replies to what was run
  pub far_bad : (found : ℕ × LineFault) → answer ≡ Ok (Some found) → GoesFar tool quiet first now before gathered s piece
  pub far_wanting : OnErr answer (GoesFar tool quiet first now before gathered s piece)

-- what running the line that the input's end ends promises by its answer
pub record RunsLast (tool : Tool) (quiet : Bool) (answer : Result (Option (ℕ × LineFault)) OutOfMemory) (first now : Moment) (before counts : Counts) (gathered : List ℕ) (s : Cutting) (lines : ℕ) : Type 0 where
  pub ended : IfOk answer (EndsAll tool quiet first now before counts gathered s lines)
  pub far : EndsFar tool quiet first now before gathered s
