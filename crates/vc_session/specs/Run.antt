-- The commands of an input, a run of them, and its text.
use Rattle.std.specs.Prelude.{ℕ, Bool, ◌==◌, List, [], ◌∷◌, ◌++◌, Option, Some, None, Result, Ok, Err, map, max}
use Rattle.vc_counts.specs.Counts.{live_bytes}
use Rattle.vc_model.specs.Segments.{Grant}
use Rattle.vc_script.specs.declared.command.Command.{Command}
use Rattle.vc_script.specs.declared.line_answer.LineAnswer.{LineAnswer}
use Rattle.vc_script.specs.declared.line_answer.LineAnswer.TheVariants.{Blank, Is, Version, Bad}
use Rattle.vc_script.specs.declared.line_fault.LineFault.{LineFault}
use Rattle.vc_script.specs.declared.reply.Reply.{Reply}
use Rattle.vc_script.specs.declared.tool.Tool.{Tool}
use Rattle.vc_script.specs.Lines.{ended_lines}
use Rattle.vc_script.specs.Judged.{judged_lines, judged_from}
use Rattle.vc_script.specs.Answer.{answer}
use Rattle.vc_script.specs.Needs.{Need, need_at}
use Rattle.vc_steps.specs.State.{State, Stepped}
use Rattle.vc_steps.specs.Refusals.{refusal_at}
use Rattle.vc_steps.specs.Step.{step}

-- what a line's answer leaves of the commands behind it: none behind a bad line
abbrev pub command_then : ℕ → LineAnswer → List (ℕ × Command) → List (ℕ × Command)
command_then n Blank behind = behind
command_then n (Is command) behind = (n, command) ∷ behind
command_then n (Version version) behind = behind
command_then n (Bad fault) behind = []

abbrev pub command_in_turn : Tool → ℕ → Result (List ℕ) LineFault → List (ℕ × Command) → List (ℕ × Command)
command_in_turn tool n (Ok line) behind = command_then n (answer tool (n == 1) line) behind
command_in_turn tool n (Err fault) behind = []

-- the commands of lines before the first bad one, each with its line's number
abbrev pub commands_in : Tool → List (ℕ × Result (List ℕ) LineFault) → List (ℕ × Command)
commands_in tool [] = []
commands_in tool (line ∷ rest) = command_in_turn tool line.0 line.1 (commands_in tool rest)

abbrev pub script : Tool → List ℕ → List (ℕ × Command)
script tool input = commands_in tool (judged_lines input)

abbrev pub fault_then : ℕ → LineAnswer → Option (ℕ × LineFault) → Option (ℕ × LineFault)
fault_then n Blank behind = behind
fault_then n (Is command) behind = behind
fault_then n (Version version) behind = behind
fault_then n (Bad fault) behind = Some (n, fault)

abbrev pub fault_in_turn : Tool → ℕ → Result (List ℕ) LineFault → Option (ℕ × LineFault) → Option (ℕ × LineFault)
fault_in_turn tool n (Ok line) behind = fault_then n (answer tool (n == 1) line) behind
fault_in_turn tool n (Err fault) behind = Some (n, fault)

-- the first bad line, by its number, and what is wrong with it
abbrev pub fault_in : Tool → List (ℕ × Result (List ℕ) LineFault) → Option (ℕ × LineFault)
fault_in tool [] = None
fault_in tool (line ∷ rest) = fault_in_turn tool line.0 line.1 (fault_in tool rest)

abbrev pub first_bad : Tool → List ℕ → Option (ℕ × LineFault)
first_bad tool input = fault_in tool (judged_lines input)

-- the version that a line's answer tells
abbrev pub version_told : LineAnswer → ℕ
version_told (Version version) = version
version_told other = 1

abbrev pub version_in_turn : Tool → ℕ → Result (List ℕ) LineFault → ℕ
version_in_turn tool n (Ok line) = version_told (answer tool (n == 1) line)
version_in_turn tool n (Err fault) = 1

-- the version of lines, which the first of them tells; it is 1 where that one tells none
abbrev pub version_in : Tool → List (ℕ × Result (List ℕ) LineFault) → ℕ
version_in tool [] = 1
version_in tool (line ∷ rest) = version_in_turn tool line.0 line.1

abbrev pub version_of : Tool → List ℕ → ℕ
version_of tool input = version_in tool (judged_lines input)

-- whether it is the second, in which replies have their lines' numbers and disciplines are armed
abbrev pub is_second_in : Tool → List (ℕ × Result (List ℕ) LineFault) → Bool
is_second_in tool lines = version_in tool lines == 2

abbrev pub is_second : Tool → List ℕ → Bool
is_second tool input = version_of tool input == 2

-- the lines that were wholly read of an input of which these bytes were read
abbrev pub wholly_read : List ℕ → List (ℕ × Result (List ℕ) LineFault)
wholly_read bytes = judged_from 1 (ended_lines bytes)

-- a run: its replies, each with the number of its line; its last state; the place of the discipline at each refusal of a segment; what was told to kinds; what was granted of segments; and the most bytes that the blocks of all regions had after a command
pub record Ran : Type 0 where
  pub replies : List (ℕ × Reply)
  pub state : State
  pub refusals : List ℕ
  pub told : List (ℕ × List ℕ)
  pub granted : List Grant
  pub peak : ℕ

-- a run of no command
abbrev pub nothing_ran : State → Ran
nothing_ran s = record { replies = []; state = s; refusals = []; told = []; granted = []; peak = 0 }

-- a step, and then the run of the rest
abbrev pub run_with_step : State → ℕ × Command → Stepped → Ran → Ran
run_with_step s c t rest =
    record {
      replies = (c.0, t.reply) ∷ rest.replies;
      state = rest.state;
      refusals = refusal_at s c.1 t.reply ++ rest.refusals;
      told = t.told ++ rest.told;
      granted = t.granted ++ rest.granted;
      peak = max (live_bytes t.state) rest.peak;
    }

-- the steps in order, each with its line and with the need of that line
abbrev pub run_from : State → List (ℕ × Command) → List (ℕ × Need) → Ran
run_from s [] needs = nothing_ran s
run_from s (c ∷ cs) needs = let t = step s c.0 c.1 (need_at needs c.0) in run_with_step s c t (run_from t.state cs needs)

-- the lines of commands
abbrev pub lines_of : List (ℕ × Command) → List ℕ
lines_of commands = map (λ c. c.0) commands
