-- Where a pool's segments and its blocks are.
use Rattle.std.specs.Prelude.{◌≡◌, ◌≢◌, ℕ, ◌+◌, ◌<◌, ◌≤◌, List, All, get_or, length, map, take, drop}
use Rattle.vc_model.specs.Pool.{cell_offset}
use Rattle.vc_pool.specs.Cells.Blocks.{pair_of}
use Rattle.vc_pool.specs.Cells.Cells.{Cells, cells_of, pair_at}
use Rattle.vc_pool.specs.Cells.Freed.{cells_at}
use Rattle.vc_pool.specs.declared.cells.segment.PoolSegment.{PoolSegment}

-- the segments of a pool with their cells, in order of lending
abbrev pub cells_in : List PoolSegment → List Cells
cells_in segs = map cells_of segs

-- the number of one and its size in bytes
abbrev pub pair_in : PoolSegment → ℕ × ℕ
pair_in s = pair_of (cells_of s)

-- a segment has another number
abbrev pub IsOther : ℕ → Cells → Type 0
IsOther n s = s.number ≢ n

-- the one segment of a number stands at a place
pub record IsAlone (n : ℕ) (segs : List Cells) (i : ℕ) : Type 0 where
  pub within : i < length segs
  pub number : (d : Cells) → (get_or segs i d).number ≡ n
  pub before : All (IsOther n) (take i segs)
  pub behind : All (IsOther n) (drop (i + 1) segs)

-- a block is in the cell at a place
pub record IsBlockCell (cell : ℕ) (segs : List Cells) (at : ℕ × ℕ) : Type 0 where
  pub index : ℕ
  pub offset : at.1 ≡ cell_offset cell index
  pub listed : index < length (cells_at at.0 segs).pairs
  pub size : 1 ≤ (pair_at index (cells_at at.0 segs)).0

-- a segment has a cell at a place
pub record IsListed (cell : ℕ) (segs : List Cells) (at : ℕ × ℕ) : Type 0 where
  pub index : ℕ
  pub offset : at.1 ≡ cell_offset cell index
  pub listed : index < length (cells_at at.0 segs).pairs

-- the cell at a place is the one of that index in the segment that stands at `i`
pub record IsCellAt (cell : ℕ) (segs : List Cells) (at : ℕ × ℕ) (i index : ℕ) : Type 0 where
  pub alone : IsAlone at.0 segs i
  pub offset : at.1 ≡ cell_offset cell index
