use Rattle.vc_base.proofs.Common.{◌≡◌, drop}
use Rattle.vc_seg.specs.Tally.{HasRoom, tallied_all, tally_of}
use Rattle.vc_pool.specs.Cells.Place.{cells_in}
use Rattle.vc_pool.proofs.BlockSizes.{sizes_of}
use Rattle.vc_pool.proofs.walks.tally.tally_blocks.Given as goal

-- the tally so far, taken on over the segments that are left, is the result
abbrev pub invariant-loop-segment : goal.invariant-loop-segment
invariant-loop-segment l =
    record {
      room : HasRoom l.tally (sizes_of (cells_in (drop l.segment-index l.segs)));
      rest : tallied_all l.tally (sizes_of (cells_in (drop l.segment-index l.segs))) ≡ tally_of (sizes_of (cells_in l.segs));
    }
