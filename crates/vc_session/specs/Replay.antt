-- What the end of a run promises.
use Rattle.std.specs.Prelude.{◌≡◌, ℕ, ◌+◌, ◌≤◌, List, [], ◌∷◌, ◌++◌, Option, Some, None, Bool, true, false, IfSome, IsOk, codes, decimal, length}
use Rattle.std.specs.List.{AllByRecursion}
use Rattle.vc_script.specs.declared.command.Command.{Command}
use Rattle.vc_script.specs.declared.line_fault.LineFault.{LineFault}
use Rattle.vc_script.specs.Faults.{fault_text}
use Rattle.vc_script.specs.declared.tool.Tool.{Tool}
use Rattle.vc_script.specs.declared.tool.Tool.TheVariants.{Vmreplay, Dtrun}
use Rattle.vc_model.specs.Numbered.{at_number}
use Rattle.vc_script.specs.Needs.{NoNeed, need_at}
use Rattle.vc_steps.specs.Account.{Settles, faults_of}
use Rattle.vc_steps.specs.Moment.{Moment}
use Rattle.vc_steps.specs.Told.{ended_told, tell}
use Rattle.vc_script.specs.Judged.{judged_lines}
use Rattle.vc_generate.specs.Generated.{commands_of_seed}
use Rattle.vc_session.specs.Completes.{Stayed}
use Rattle.vc_session.specs.QuietText.{needs_by_text, style_by}
use Rattle.vc_session.specs.Run.{Ran, commands_in, fault_in, first_bad, is_second, is_second_in, lines_of, run_from, script, wholly_read}
use Rattle.vc_session.specs.Text.{replies_text, good_lines, is_quiet, text_of}
use Rattle.vc_session.specs.declared.style.Style.{Style}
use Rattle.vc_base.specs.Told.{Told}
use Rattle.vc_words.specs.declared.words.Words.{Words}

abbrev pub tool_name : Tool → List ℕ
tool_name Vmreplay = codes "vmreplay"
tool_name Dtrun = codes "dtrun"

-- the line that err gets: the tool's name, and what happened
abbrev pub message : Tool → List ℕ → List ℕ
message tool text = tool_name tool ++ codes ": " ++ text ++ codes "\n"

-- the line that err gets for a bad line
abbrev pub err_line : Tool → ℕ × LineFault → List ℕ
err_line tool bad = message tool (codes "line " ++ decimal bad.0 ++ codes ": " ++ fault_text bad.1)

-- the run of commands for the needs that a text shows, by how replies are written
abbrev pub run_by : Style → Moment → List (ℕ × Command) → List ℕ → Ran
run_by style before commands written = run_from before.state commands (needs_by_text style (lines_of commands) written)

-- what a run and its end tell
abbrev pub all_told : Ran → List (ℕ × List ℕ)
all_told r = r.told ++ ended_told r.state

-- the faults of each place stayed, below their last value
abbrev pub FaultsStayed : Moment → Moment → Type 0
FaultsStayed before after =
    (place : ℕ) → Stayed (faults_of (at_number before.accounts place)) (faults_of (at_number after.accounts place))

-- at none of these lines does a text show a need
abbrev pub ShowsNone : Style → List ℕ → List ℕ → Type 0
ShowsNone style lines written =
    AllByRecursion (λ n. need_at (needs_by_text style lines written) n ≡ NoNeed) lines

-- a run of commands, quiet or not, of a script of version 2 or not, whose text is said by a function of the run: what was written is the text of the run for the needs that it shows, the shelf settles with the run's refusals, and the kinds were told of what went in it and at its end
pub record IsRunOf (quiet second : Bool) (said : Ran → List ℕ) (before after : Moment) (commands : List (ℕ × Command)) : Type 0 where
  pub written : List ℕ
  pub text : written ≡ said (run_by (style_by quiet second) before commands written)
  pub told : Told before.written after.written written
  pub settles : Settles second before.accounts after.accounts (run_by (style_by quiet second) before commands written).refusals
  -- where no fault was counted, it shows no need, and is the text of the run in which nothing is refused
  pub no_need : FaultsStayed before after → ShowsNone (style_by quiet second) (lines_of commands) written
  pub unrefused : FaultsStayed before after → written ≡ said (run_from before.state commands [])
  pub gone : after.gone ≡ tell (all_told (run_by (style_by quiet second) before commands written)) before.gone

-- what such a run leaves: its last state is that of the run for the needs that its text shows
pub record LeavesRun (quiet second : Bool) (said : Ran → List ℕ) (before last : Moment) (commands : List (ℕ × Command)) : Type 0 where
  pub written : List ℕ
  pub text : written ≡ said (run_by (style_by quiet second) before commands written)
  pub told : Told before.written last.written written
  pub state : last.state ≡ (run_by (style_by quiet second) before commands written).state

-- bytes that show no fault: their whole lines are good, and no line is too long or past the last number, the one that has begun among them
pub record ShowsNoFault (tool : Tool) (bytes : List ℕ) : Type 0 where
  pub good : fault_in tool (wholly_read bytes) ≡ None
  pub short : AllByRecursion (λ line. IsOk line.1) (judged_lines bytes)

-- the reading stopped at a bad line: what was taken before its last 4,096 bytes or fewer shows no fault
pub record StopsAtFault (tool : Tool) (input : List ℕ) (left : Option (List ℕ)) : Type 0 where
  pub before : List ℕ
  pub last : List ℕ
  pub rest : List ℕ
  pub split : input ≡ (before ++ last) ++ rest
  pub short : length last ≤ 4096
  pub no_fault : ShowsNoFault tool before
  pub unread : left ≡ Some rest

-- where there is no bad line, the source was read to its end
abbrev pub Stops : Tool → List ℕ → Option (ℕ × LineFault) → Option (List ℕ) → Type 0
Stops tool input None left = left ≡ Some []
Stops tool input (Some bad) left = StopsAtFault tool input left

-- by the words of a tool, a run of an input to its end, or to its first bad line
pub record IsReplay (tool : Tool) (w : Words) (before after : Moment) (input : List ℕ) (bad : Option (ℕ × LineFault)) (left : Option (List ℕ)) : Type 0 where
  pub first : bad ≡ first_bad tool input
  pub stops : Stops tool input bad left
  pub run : IsRunOf (is_quiet w) (is_second tool input) (text_of w (is_second tool input) (good_lines bad (length (judged_lines input)))) before after (script tool input)

-- and what it leaves, at its last line
abbrev pub LeavesReplay : Tool → Words → Moment → Moment → List ℕ → Option (ℕ × LineFault) → Type 0
LeavesReplay tool w before last input bad = LeavesRun (is_quiet w) (is_second tool input) (text_of w (is_second tool input) (good_lines bad (length (judged_lines input)))) before last (script tool input)

-- a run that a failed read ended: the lines that were wholly read were run, and no byte that was read shows a fault
pub record IsCutShort (tool : Tool) (quiet : Bool) (before after : Moment) (input : List ℕ) (left : Option (List ℕ)) : Type 0 where
  pub bytes : List ℕ
  pub rest : List ℕ
  pub split : input ≡ bytes ++ rest
  pub unread : left ≡ Some rest
  pub no_fault : ShowsNoFault tool bytes
  pub run : IsRunOf quiet (is_second_in tool (wholly_read bytes)) (replies_text (style_by quiet (is_second_in tool (wholly_read bytes)))) before after (commands_in tool (wholly_read bytes))

-- commands on the lines from a number on
abbrev pub on_lines : ℕ → List Command → List (ℕ × Command)
on_lines n [] = []
on_lines n (c ∷ cs) = (n, c) ∷ on_lines (n + 1) cs

-- the commands that so many words of the seed give, the first on line 1
abbrev pub generated_script : Tool → Words → ℕ → List (ℕ × Command)
generated_script tool w n = on_lines 1 (commands_of_seed tool n w.seed)

-- a quiet run of these, in version 1; no source is read, and none is spoken of
pub record IsGenerated (tool : Tool) (w : Words) (n : ℕ) (before after : Moment) : Type 0 where
  pub run : IsRunOf true false (text_of w false (length (commands_of_seed tool n w.seed))) before after (generated_script tool w n)

-- from one moment to another, and from what a source tells to what it has left: so many generated commands were run, of which no line is bad, or else the source's script, up to this bad line
abbrev pub ReplaysBy : Option ℕ → Tool → Words → Moment → Moment → Option (List ℕ) → Option (List ℕ) → Option (ℕ × LineFault) → Type 0
ReplaysBy None tool w before after told left bad = IfSome told (λ input. IsReplay tool w before after input bad left)
ReplaysBy (Some n) tool w before after told left bad = (bad ≡ None) × IsGenerated tool w n before after
