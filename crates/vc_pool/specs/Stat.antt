-- The numbers of a pool.
use Rattle.vc_model.specs.Numbers.{block_bytes, block_count, greatest_block, segment_bytes, segment_count}
use Rattle.vc_model.specs.Pool.{Pool, free_cell_bytes, free_cells, greatest_free_cell}
use Rattle.vc_seg.specs.declared.stat.Stat.{Stat}

-- of blocks in cells, and of the cells that no block is in
abbrev pub pool_stat : {L : Type 0} → Pool L → Stat
pool_stat p =
    record {
      busy = block_count p.layout;
      free = free_cells p;
      sbusy = block_bytes p.layout;
      sfree = free_cell_bytes p;
      mbusy = greatest_block p.layout;
      mfree = greatest_free_cell p;
      segs = segment_count p.layout;
      extent = segment_bytes p.layout;
    }
