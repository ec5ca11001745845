-- How the run of a trace ends.
use Rattle.std.specs.Prelude.{◌≡◌, ℕ, List, [], ◌∷◌, ◌++◌, None, Option, Some, Result, Ok, Err, ◌==◌}
use Rattle.vc_model.specs.Outcome as outcome
use Rattle.vc_script.specs.Answer.{answer}
use Rattle.vc_script.specs.Pieces.{FoundLines}
use Rattle.vc_script.specs.declared.command.Command.{Command}
use Rattle.vc_script.specs.declared.line_answer.LineAnswer.TheVariants.{Is}
use Rattle.vc_script.specs.declared.tool.Tool.TheVariants.{Vmreplay}
use Rattle.vc_seg.specs.declared.fault.RegionFault.TheVariants as code
use Rattle.vc_compare.specs.declared.ending.Ending.{Ending}
use Rattle.vc_compare.specs.declared.ending.Ending.TheVariants.{Finished, Faulty, Read, Memory}
use Rattle.vc_compare.specs.declared.ending.Fault.TheVariants.{Bad, Outside, NoSegment, TooMany}
use Rattle.vc_ways.specs.Asking.{Asking, asking, size_asked}
use Rattle.vc_ways.specs.Compare as compared
use Rattle.vc_ways.specs.Compare.{Compared, after_line, compare_lines}
use Rattle.vc_ways.specs.Regions.{WayTerms}
use Rattle.vc_ways.specs.Step.{Stops, TraceState, trace_step}
use Rattle.vc_ways.specs.declared.line.Wrong.{Wrong}
use Rattle.vc_ways.specs.declared.line.Wrong.TheVariants as wrong
use Rattle.vc_ways.specs.declared.regions.Stop.{Stop}
use Rattle.vc_ways.specs.declared.way.Way.{Way}

-- a way stops a command; any other fault is told as want of memory
abbrev pub StopsAs : ℕ → Stop → Ending → Type 0
StopsAs n stop (Faulty m (TooMany way)) = (m ≡ n) × ((stop.fault ≡ code.TooManySegments) × (stop.way ≡ way))
StopsAs n stop (Faulty m (NoSegment way)) = (m ≡ n) × ((stop.fault ≡ code.NoSegment) × (stop.way ≡ way))
StopsAs n stop Memory = Unit {0}
StopsAs n stop other = ⊥

-- how a trace ends at a line with which that is wrong; where nothing is, it goes on
abbrev pub ending_of : ℕ → Option Wrong → Result Unit Ending
ending_of n None = Ok tt
ending_of n (Some (wrong.Bad fault)) = Err (Faulty n (Bad fault))
ending_of n (Some wrong.Outside) = Err (Faulty n Outside)

-- a command asks for a segment in a way: were it refused, the way would stop it there. What is said of a refusal holds of what it asks for
pub record AsksIn (terms : WayTerms) (s : TraceState) (Refused : Asking → Type 0) (n : ℕ) (line : List ℕ) (way : Way) : Type 0 where
  pub command : Command
  pub is : answer Vmreplay (n == 1) line ≡ Is command
  pub stops : trace_step terms s command (Some way) ≡ Stops way outcome.NoSegment
  pub refused : Refused (asking terms s.regions way (size_asked command))

-- running one line: the trace goes on from a state, or ends there. With a refused segment, what is said of a refusal holds
abbrev pub RunsTraceLine : WayTerms → TraceState → (Asking → Type 0) → ℕ → List ℕ → Result Unit Ending → TraceState → Type 0
RunsTraceLine terms s Refused n line (Ok done) new = (behind : TraceState → Compared) → after_line terms n s (Ok line) behind ≡ behind new
RunsTraceLine terms s Refused n line (Err (Faulty m (Bad fault))) new = (m ≡ n) × ((behind : TraceState → Compared) → after_line terms n s (Ok line) behind ≡ compared.BadLine n fault)
RunsTraceLine terms s Refused n line (Err (Faulty m Outside)) new = (m ≡ n) × ((behind : TraceState → Compared) → after_line terms n s (Ok line) behind ≡ compared.OutsideAt n)
RunsTraceLine terms s Refused n line (Err (Faulty m (NoSegment way))) new = (m ≡ n) × AsksIn terms s Refused n line way
RunsTraceLine terms s Refused n line (Err (Faulty m (TooMany way))) new = (m ≡ n) × ((behind : TraceState → Compared) → after_line terms n s (Ok line) behind ≡ compared.StoppedAt n way outcome.TooManySegments)
RunsTraceLine terms s Refused n line (Err Memory) new = Unit {0}
RunsTraceLine terms s Refused n line (Err other) new = ⊥

-- the first lines are run from a state to another, whatever is behind them
abbrev pub RanTo : WayTerms → TraceState → FoundLines → TraceState → Type 0
RanTo terms s front at = (behind : FoundLines) → compare_lines terms s (front ++ behind) ≡ compare_lines terms at behind

-- the lines before one are run, and it asks for a segment in a way
pub record AsksAt (terms : WayTerms) (s : TraceState) (Refused : Asking → Type 0) (lines : FoundLines) (n : ℕ) (way : Way) : Type 0 where
  pub front : FoundLines
  pub line : List ℕ
  pub behind : FoundLines
  pub split : lines ≡ front ++ (n, Ok line) ∷ behind
  pub at : TraceState
  pub ran : RanTo terms s front at
  pub asks : AsksIn terms at Refused n line way

-- how the run of lines from a state ends, and what the source has left then. With a refused segment, what is said of a refusal holds
abbrev pub EndsAs : WayTerms → TraceState → (Asking → Type 0) → FoundLines → Ending → Option (List ℕ) → Type 0
EndsAs terms s Refused lines (Finished tally) left = (compare_lines terms s lines ≡ compared.Finished tally) × (left ≡ Some [])
EndsAs terms s Refused lines (Faulty n (Bad fault)) left = compare_lines terms s lines ≡ compared.BadLine n fault
EndsAs terms s Refused lines (Faulty n Outside) left = compare_lines terms s lines ≡ compared.OutsideAt n
EndsAs terms s Refused lines (Faulty n (TooMany way)) left = compare_lines terms s lines ≡ compared.StoppedAt n way outcome.TooManySegments
EndsAs terms s Refused lines (Faulty n (NoSegment way)) left = AsksAt terms s Refused lines n way
EndsAs terms s Refused lines Read left = Unit {0}
EndsAs terms s Refused lines Memory left = Unit {0}
