-- A trace from its first line to its end.
use Rattle.std.specs.Prelude.{ℕ, List, [], ◌∷◌, None, Result, Ok, Err, ◌==◌}
use Rattle.vc_model.specs.Outcome.{Fault}
use Rattle.vc_script.specs.declared.line_answer.LineAnswer.{LineAnswer}
use Rattle.vc_script.specs.declared.line_answer.LineAnswer.TheVariants.{Blank, Is, Version, Bad}
use Rattle.vc_script.specs.declared.line_fault.LineFault.{LineFault}
use Rattle.vc_script.specs.declared.tool.Tool.TheVariants.{Vmreplay}
use Rattle.vc_script.specs.Answer.{answer}
use Rattle.vc_script.specs.Judged.{judged_lines}
use Rattle.vc_ways.specs.declared.way.Way.{Way}
use Rattle.vc_ways.specs.Regions.{WayTerms}
use Rattle.vc_ways.specs.declared.tally.Tally.{Tally}
use Rattle.vc_ways.specs.Step.{End, Goes, Outside, Stops, TraceState, start, trace_step}

-- how a trace ends: with all its lines run; or at a line that is no command, that is outside of a trace, or at which a way refuses the command
pub data Compared : Type 0 where
  Finished : (tally : Tally) → Compared
  BadLine : (line : ℕ) (fault : LineFault) → Compared
  OutsideAt : (line : ℕ) → Compared
  StoppedAt : (line : ℕ) (way : Way) (why : Fault) → Compared

-- the trace goes on behind a line, or ends with it
abbrev pub after_command : ℕ → End → (TraceState → Compared) → Compared
after_command n (Goes after) behind = behind after
after_command n Outside behind = OutsideAt n
after_command n (Stops way why) behind = StoppedAt n way why

abbrev pub after_answer : WayTerms → ℕ → TraceState → LineAnswer → (TraceState → Compared) → Compared
after_answer terms n s Blank behind = behind s
after_answer terms n s (Is command) behind = after_command n (trace_step terms s command None) behind
after_answer terms n s (Version version) behind = OutsideAt n
after_answer terms n s (Bad fault) behind = BadLine n fault

abbrev pub after_line : WayTerms → ℕ → TraceState → Result (List ℕ) LineFault → (TraceState → Compared) → Compared
after_line terms n s (Ok line) behind = after_answer terms n s (answer Vmreplay (n == 1) line) behind
after_line terms n s (Err fault) behind = BadLine n fault

-- lines are run in turn from a state on, up to the first that can't be; no way asks in vain for a segment
abbrev pub compare_lines : WayTerms → TraceState → List (ℕ × Result (List ℕ) LineFault) → Compared
compare_lines terms s [] = Finished s.tally
compare_lines terms s (line ∷ rest) = after_line terms line.0 s line.1 (λ after. compare_lines terms after rest)

-- the lines of an input
abbrev pub compare_input : WayTerms → List ℕ → Compared
compare_input terms input = compare_lines terms start (judged_lines input)
