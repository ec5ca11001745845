-- Worked traces, over disciplines that round to 4,096 bytes.
use Rattle.std.specs.Prelude.{ℕ, List, ◌++◌, Option, None, codes, decimal, fold, map, replicate, true, false}
use Rattle.vc_model.specs.Discipline.{Terms}
use Rattle.vc_model.specs.Layout.{place_of_block}
use Rattle.vc_script.specs.declared.command.Command.{Command}
use Rattle.vc_script.specs.declared.command.Command.TheVariants.{Alloc, Free, Resize}
use Rattle.vc_ways.specs.Regions.{WayTerms}
use Rattle.vc_ways.specs.Live.{LivePlaces}
use Rattle.vc_ways.specs.Table.{find_live}
use Rattle.vc_ways.specs.Tally.{report}
use Rattle.vc_ways.specs.Step.{End, Goes, Outside, Stops, TraceState, start, trace_step}
use Rattle.vc_ways.specs.Compare.{Compared, BadLine, Finished, OutsideAt, StoppedAt, compare_input}

abbrev pub terms : Terms
terms = record { round = 4096; grows = false }

abbrev pub same_terms : WayTerms
same_terms = record { best = terms; last = terms; pools = replicate 20 terms }

-- what is told of a trace: the report, or the line at which it ends
abbrev pub told_of_trace : Compared → List ℕ
told_of_trace (Finished tally) = report tally
told_of_trace (BadLine n fault) = codes "bad line " ++ decimal n
told_of_trace (OutsideAt n) = codes "outside at " ++ decimal n
told_of_trace (StoppedAt n way why) = codes "stopped at " ++ decimal n

abbrev pub told_of_input : List ℕ → List ℕ
told_of_input input = told_of_trace (compare_input same_terms input)

-- commands of a trace, on blocks in the region `t`
abbrev pub alloc : List ℕ → ℕ → Command
alloc x size = Alloc (codes "t") x size None

abbrev pub resize : List ℕ → ℕ → Command
resize x size = Resize (codes "t") x size true

abbrev pub free : List ℕ → Command
free x = Free (codes "t") x

-- the state behind commands; one that doesn't go is passed over
abbrev pub state_after : TraceState → End → TraceState
state_after before (Goes after) = after
state_after before Outside = before
state_after before (Stops way why) = before

abbrev pub after : List Command → TraceState
after commands = fold (λ s command. state_after s (trace_step same_terms s command None)) start commands

-- the live block of a name behind commands
abbrev pub live_after : List Command → List ℕ → Option LivePlaces
live_after commands x = find_live x (after commands).table

-- where the blocks of the last region are, dead ones too
abbrev pub last_places : TraceState → List (ℕ × ℕ)
last_places s = map place_of_block s.regions.last.region.blocks
