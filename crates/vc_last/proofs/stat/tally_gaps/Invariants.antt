use Rattle.vc_base.proofs.Common.{◌≡◌, drop, footprints}
use Rattle.vc_seg.specs.Tally.{HasRoom, tallied_all, tally_of}
use Rattle.vc_last.specs.Chain.{blocks_from}
use Rattle.vc_last.proofs.Tallies.{sizes_in}
use Rattle.vc_last.proofs.stat.tally_gaps.Given as goal

-- the tally so far, taken on over the gaps of the segments that are left, is the result
abbrev pub invariant-loop-segment : goal.invariant-loop-segment
invariant-loop-segment l =
    record {
      room : HasRoom l.tally (sizes_in (footprints (blocks_from l.segs l.latest.0)) (drop l.segment-index l.segs));
      rest : tallied_all l.tally (sizes_in (footprints (blocks_from l.segs l.latest.0)) (drop l.segment-index l.segs)) ≡ tally_of (sizes_in (footprints (blocks_from l.segs l.latest.0)) l.segs);
    }
