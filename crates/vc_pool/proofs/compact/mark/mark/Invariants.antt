use Rattle.vc_base.proofs.Common.{◌≡◌, ℕ, false, ◌||◌, length, get_or, drop}
use Rattle.vc_pool.specs.Cells.Place.{cells_in}
use Rattle.vc_pool.specs.Marks.{has_block_at}
use Rattle.vc_pool.proofs.compact.mark.mark.Given as goal

-- a number is marked, or a block is in one of the segments that are left, where one is in a segment
abbrev pub invariant-loop-segment : goal.invariant-loop-segment
invariant-loop-segment l =
    record {
      len : length l.marks ≡ 1024;
      marked : (n : ℕ) → (get_or l.marks n false || has_block_at (cells_in (drop l.segment-index l.segs)) n) ≡ has_block_at (cells_in l.segs) n;
    }
