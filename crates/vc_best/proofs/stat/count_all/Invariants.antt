use Rattle.vc_base.proofs.Common.{◌≡◌, drop}
use Rattle.vc_best.proofs.Common.{HaveRoom, all_extents, counts_of_none, counts_with, tiling}
use Rattle.vc_best.proofs.stat.count_all.Given as goal

-- the counts so far, taken on over the segments that are left, are the result
abbrev pub invariant-loop-segment : goal.invariant-loop-segment
invariant-loop-segment g l =
    record {
      room : HaveRoom l.counts (all_extents (tiling (drop l.segment-index l.extents.segs.items)));
      rest : counts_with l.counts (all_extents (tiling (drop l.segment-index l.extents.segs.items))) ≡ counts_with counts_of_none (all_extents (tiling l.extents.segs.items));
    }
