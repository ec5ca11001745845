-- The numbers of a pool say nothing of the labels of its blocks.
use Rattle.vc_base.proofs.Common.{◌≡◌, ℕ, ◌-◌, ◌*◌, cond, eqb, List, length, sum, ap, ◌∙◌, length-map, relabel_block, block_sizes, greatest, segment_bytes, segment_count, Pool, cell_count, cell_of}
use Rattle.vc_model.specs.Pool.{relabel_pool}
use Rattle.vc_model.proofs.Relabel.{block_sizes-relabel}
use Rattle.vc_pool.specs.Stat.{pool_stat}
use Rattle.vc_seg.specs.declared.stat.Stat.{Stat}

-- the numbers by those of the segments and the cells, the number of blocks and their sizes
unfoldable numbers : ℕ → ℕ → ℕ → ℕ → ℕ → List ℕ → Stat
numbers segs extent cells cell busy sizes =
    record {
      busy = busy;
      free = cells - busy;
      sbusy = sum sizes;
      sfree = (cells - busy) * cell;
      mbusy = greatest sizes;
      mfree = cond (eqb (cells - busy) 0) 0 cell;
      segs = segs;
      extent = extent;
    }

pub pool_stat-relabel : {L M : Type 0} (f : L → M) (p : Pool L) → pool_stat (relabel_pool f p) ≡ pool_stat p
unfolding numbers
pool_stat-relabel f p =
    let with = numbers (segment_count p.layout) (segment_bytes p.layout) (cell_count p.element p.layout.segments) (cell_of p) in
    ap (λ n. with n (block_sizes (relabel_pool f p).layout)) (length-map p.layout.blocks (relabel_block f))
    ∙ ap (λ sizes. with (length p.layout.blocks) sizes) (block_sizes-relabel f p.layout)
