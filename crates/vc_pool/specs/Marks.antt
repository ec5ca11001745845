-- Which segments of a pool have a block.
use Rattle.std.specs.Prelude.{ℕ, List, Bool, nat_lt, ◌==◌, ◌&&◌}
use Rattle.std.specs.List.{list_any}
use Rattle.vc_pool.specs.Cells.Cells.{Cells}

-- whether a block is in a cell of a segment
abbrev pub has_block : Cells → Bool
has_block s = list_any (λ (c : ℕ × ℕ). nat_lt 0 c.0) s.pairs

-- whether one is in the segment of a number
abbrev pub has_block_at : List Cells → ℕ → Bool
has_block_at segs n = list_any (λ (s : Cells). (s.number == n) && has_block s) segs
