use Rattle.vc_base.proofs.Common.{◌≡◌, ◌-◌, ◌≤◌, ◌++◌, length, take, IfSome, Some}
use Rattle.vc_base.proofs.writing.write_all.Given as goal

-- a front of the piece is written
abbrev pub invariant-loop-done : goal.invariant-loop-done
invariant-loop-done g l =
    record {
      fits : l.done ≤ length l.piece;
      written : IfSome (g.O.Sink.written l.fn.out) (λ w. g.O.Sink.written l.out ≡ Some (w ++ take l.done l.piece));
      never_falls : g.O.Sink.failures l.fn.out ≤ g.O.Sink.failures l.out;
    }

abbrev pub decreases-loop-done : goal.decreases-loop-done
decreases-loop-done g l = length l.piece - l.done
