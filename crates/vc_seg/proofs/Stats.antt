-- The numbers of a region say nothing of the labels of its blocks.
use Rattle.vc_base.proofs.Common.{◌≡◌, ℕ, List, map, length, sum, ap, ◌∙◌, length-map, Run, bytes_of, Layout, relabel_block, relabel_layout, block_sizes, gaps_of, greatest, segment_bytes, segment_count}
use Rattle.vc_model.proofs.Relabel.{block_sizes-relabel, gaps_of-relabel}
use Rattle.vc_seg.specs.Stat.{layout_stat}
use Rattle.vc_seg.specs.declared.stat.Stat.{Stat}

-- the numbers by those of the segments, the number of blocks, their sizes and the gaps
unfoldable numbers : ℕ → ℕ → ℕ → List ℕ → List Run → Stat
numbers segs extent busy sizes gaps =
    record {
      busy = busy;
      free = length gaps;
      sbusy = sum sizes;
      sfree = sum (map bytes_of gaps);
      mbusy = greatest sizes;
      mfree = greatest (map bytes_of gaps);
      segs = segs;
      extent = extent;
    }

pub layout_stat-relabel : {L M : Type 0} (f : L → M) (r : Layout L) → layout_stat (relabel_layout f r) ≡ layout_stat r
unfolding numbers
layout_stat-relabel f r =
    let with = numbers (segment_count r) (segment_bytes r) in
    ap (λ n. with n (block_sizes (relabel_layout f r)) (gaps_of (relabel_layout f r))) (length-map r.blocks (relabel_block f))
    ∙ (ap (λ sizes. with (length r.blocks) sizes (gaps_of (relabel_layout f r))) (block_sizes-relabel f r)
    ∙ ap (λ gaps. with (length r.blocks) (block_sizes r) gaps) (gaps_of-relabel f r))
