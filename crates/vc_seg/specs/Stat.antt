-- The numbers of a region.
use Rattle.vc_model.specs.Layout.{Layout}
use Rattle.vc_model.specs.Numbers.{block_bytes, block_count, gap_bytes, gap_count, greatest_block, greatest_gap, segment_bytes, segment_count}
use Rattle.vc_seg.specs.declared.stat.Stat.{Stat}

-- of blocks with heads, and the gaps between them
abbrev pub layout_stat : {L : Type 0} → Layout L → Stat
layout_stat r =
    record {
      busy = block_count r;
      free = gap_count r;
      sbusy = block_bytes r;
      sfree = gap_bytes r;
      mbusy = greatest_block r;
      mfree = greatest_gap r;
      segs = segment_count r;
      extent = segment_bytes r;
    }
