use Rattle.vc_base.proofs.Common.{◌-◌, ◌≤◌, IfSome, Discipline, false, true}
use Rattle.vc_compare.specs.Reading.{CanRead, lines_to_come}
use Rattle.vc_script.specs.Judged.{last_number}
use Rattle.vc_ways.specs.Answer.{KeepsWays}
use Rattle.vc_ways.specs.RegionsParts.{all_holdings, terms_of}
use Rattle.vc_ways.specs.TraceParts.{StandsSoFar, trace_state}
use Rattle.vc_compare.proofs.Running.{SoFar}
use Rattle.vc_compare.proofs.run.run_lines.Given as goal

abbrev pub meaning : (g : goal.Over) → (x : g.dyn-1.0.I) × (g.dyn-1.0.entry x).0.Denot → Discipline
meaning g p = (g.dyn-1.0.entry p.0).1.state p.1

-- the trace is run up to what the reader still has to come
abbrev pub invariant-loop-next : goal.invariant-loop-next
invariant-loop-next g l =
    record {
      stands : StandsSoFar (meaning g) l.trace;
      can : CanRead l.reader;
      keeps : KeepsWays true (all_holdings (meaning g) l.fn.trace.regions) (all_holdings (meaning g) l.trace.regions);
      keeps_any : KeepsWays false (all_holdings (meaning g) l.fn.trace.regions) (all_holdings (meaning g) l.trace.regions);
      so_far : IfSome (g.S.Source.left l.fn.source) (λ input. SoFar (terms_of (meaning g) l.fn.trace.regions) (trace_state l.fn.trace) (lines_to_come l.fn.reader input) l.reader (g.S.Source.left l.source) (trace_state l.trace));
      never_falls : g.S.Source.failures l.fn.source ≤ g.S.Source.failures l.source;
    }

abbrev pub decreases-loop-next : goal.decreases-loop-next
decreases-loop-next g l = last_number - l.reader.cutter.count
