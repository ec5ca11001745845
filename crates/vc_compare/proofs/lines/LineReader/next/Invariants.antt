use Rattle.vc_base.proofs.Common.{◌≡◌, ◌-◌, ◌≤◌, length, IfSome}
use Rattle.vc_compare.specs.Reading.{CanRead, LeavesLines, lines_to_come}
use Rattle.vc_compare.proofs.lines.LineReader.next.Given as goal

-- the lines to come are the same
abbrev pub invariant-loop-self : goal.invariant-loop-self
invariant-loop-self g l =
    record {
      can : CanRead l.self;
      count : l.self.cutter.count ≡ l.fn.self.cutter.count;
      leaves : IfSome (g.S.Source.left l.fn.source) (λ input. LeavesLines l.self (g.S.Source.left l.source) (lines_to_come l.fn.self input));
      never_falls : g.S.Source.failures l.fn.source ≤ g.S.Source.failures l.source;
    }

abbrev pub decreases-loop-self : goal.decreases-loop-self
decreases-loop-self g l = 4096 - length l.self.cutter.kept
