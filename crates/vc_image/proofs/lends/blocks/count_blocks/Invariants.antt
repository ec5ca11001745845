use Rattle.vc_base.proofs.Common.{◌≡◌, ◌+◌, ◌*◌, ◌≤◌, drop}
use Rattle.vc_extent.specs.Tiling.{tiling}
use Rattle.vc_best.specs.Counts.{all_extents}
use Rattle.vc_image.specs.Lends.Regions.{busy_count}
use Rattle.vc_image.proofs.lends.blocks.count_blocks.Given as goal

-- those of the segments so far are counted
abbrev pub invariant-loop-segment : goal.invariant-loop-segment
invariant-loop-segment l =
    record {
      few : l.count ≤ 1048576 * l.segment-index;
      rest : l.count + busy_count (all_extents (tiling (drop l.segment-index l.segs))) ≡ busy_count (all_extents (tiling l.segs));
    }
