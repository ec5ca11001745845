-- What running a line of a trace answers.
use Rattle.std.specs.Prelude.{◌≡◌, ◌⊎◌, ℕ, List, None, Option, Some, Result, Ok, Err, ◌==◌}
use Rattle.vc_script.specs.Answer.{answer}
use Rattle.vc_script.specs.declared.command.Command.{Command}
use Rattle.vc_script.specs.declared.line_answer.LineAnswer.TheVariants.{Is}
use Rattle.vc_script.specs.declared.tool.Tool.TheVariants.{Vmreplay}
use Rattle.vc_seg.specs.declared.fault.RegionFault.TheVariants as code
use Rattle.vc_ways.specs.Compare.{BadLine, Compared, OutsideAt, after_line}
use Rattle.vc_ways.specs.Regions.{WayTerms}
use Rattle.vc_ways.specs.RegionsParts.{IsStopped}
use Rattle.vc_ways.specs.Step.{Stops, TraceState, trace_step}
use Rattle.vc_ways.specs.declared.line.Wrong.{Wrong}
use Rattle.vc_ways.specs.declared.line.Wrong.TheVariants.{Bad, Outside}
use Rattle.vc_ways.specs.declared.regions.Stop.{Stop}

-- what is behind the line of that number is run from the state after it; or the trace ends there. A stop is want of memory, or that of the line's command
abbrev pub LineEnds : WayTerms → TraceState → ℕ → List ℕ → Result (Option Wrong) Stop → TraceState → Type 0
LineEnds terms s n line (Ok None) new = (behind : TraceState → Compared) → after_line terms n s (Ok line) behind ≡ behind new
LineEnds terms s n line (Ok (Some (Bad fault))) new = (behind : TraceState → Compared) → after_line terms n s (Ok line) behind ≡ BadLine n fault
LineEnds terms s n line (Ok (Some Outside)) new = (behind : TraceState → Compared) → after_line terms n s (Ok line) behind ≡ OutsideAt n
LineEnds terms s n line (Err stop) new =
    (stop.fault ≡ code.OutOfMemory) ⊎ ((command : Command) × (answer Vmreplay (n == 1) line ≡ Is command) × IsStopped (λ way why. Stops way why) (trace_step terms s command) stop.way stop.fault)
