-- The blocks in the cells of a pool's segments.
use Rattle.std.specs.Prelude.{ℕ, ◌+◌, List, [], ◌∷◌, ◌++◌, filter, length, map, nat_lt, take, drop, ◌==◌, if◌then◌else◌}
use Rattle.std.specs.List.{flat_map}
use Rattle.vc_model.specs.Layout.{Block, Layout}
use Rattle.vc_seg.specs.InOrder.{in_order}
use Rattle.vc_pool.specs.Cells.Cells.{Cells}

-- a segment as number and size
abbrev pub pair_of : Cells → ℕ × ℕ
pair_of s = (s.number, length s.bytes)

-- the block in the cell at an offset, where its pair has a size
abbrev pub block_of_cell : ℕ → List ℕ → ℕ → ℕ × ℕ → List (Block ℕ)
block_of_cell number bytes off c =
    if c.0 == 0 then []
    else record { label = c.1; seg = number; off = off; size = c.0; bytes = take c.0 (drop off bytes) } ∷ []

-- the blocks in cells that stand one behind another from an offset on
abbrev pub cell_blocks : ℕ → List ℕ → ℕ → ℕ → List (ℕ × ℕ) → List (Block ℕ)
cell_blocks number bytes cell off [] = []
cell_blocks number bytes cell off (c ∷ cs) =
    block_of_cell number bytes off c ++ cell_blocks number bytes cell (off + cell) cs

-- the blocks of one segment: its first cell begins at offset 32
abbrev pub segment_blocks : ℕ → Cells → List (Block ℕ)
segment_blocks cell s = cell_blocks s.number s.bytes cell 32 s.pairs

-- segments as number and size in order of lending, and the blocks in their cells by address
unfoldable pub layout_by : ℕ → List Cells → Layout ℕ
layout_by cell segs =
    record { segments = map pair_of segs; blocks = in_order (flat_map (segment_blocks cell) segs) }

-- how many cells of each segment were carved, where any were, in order of lending
abbrev pub carved_by : List Cells → List (ℕ × ℕ)
carved_by segs = filter (λ (c : ℕ × ℕ). nat_lt 0 c.1) (map (λ s. (s.number, s.carved)) segs)
