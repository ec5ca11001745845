use Rattle.vc_base.proofs.Common.{◌≡◌, map, drop}
use Rattle.vc_seg.specs.Tally.{HasRoom, tallied_all, tally_of}
use Rattle.vc_seg.proofs.tally.tally_segments.Given as goal

-- the tally so far, taken on over the segments that are left, is the result
abbrev pub invariant-loop-segment : goal.invariant-loop-segment
invariant-loop-segment g l =
    record {
      room : HasRoom l.tally (map (λ s. s.1) (map g.T.Numbered.pair (drop l.segment-index l.segs)));
      rest : tallied_all l.tally (map (λ s. s.1) (map g.T.Numbered.pair (drop l.segment-index l.segs))) ≡ tally_of (map (λ s. s.1) (map g.T.Numbered.pair l.segs));
    }
