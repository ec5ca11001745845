use Rattle.vc_base.proofs.Common.{◌≡◌, ◌+◌, ◌-◌, map, length, lowest_unused, numbers, unused_from}
use Rattle.vc_seg.proofs.number.lowest_unused.Given as goal

-- the numbers so far are used
abbrev pub invariant-loop-segment : goal.invariant-loop-segment
invariant-loop-segment g l =
    record {
      number : l.number ≡ l._segment-index + 1;
      unused : unused_from l.number (length l.segs - l._segment-index) (numbers (map g.T.Numbered.pair l.segs)) ≡ lowest_unused (numbers (map g.T.Numbered.pair l.segs));
    }
