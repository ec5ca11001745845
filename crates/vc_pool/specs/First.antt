-- The first cells that have a block, in a segment and in those of greater numbers.
use Rattle.std.specs.Prelude.{◌≡◌, ℕ, ◌<◌, ◌≤◌, List, length}
use Rattle.vc_model.specs.Addr.{address}
use Rattle.vc_model.specs.Pool.{cell_offset}
use Rattle.vc_pool.specs.Cells.Cells.{Cells, pair_at}
use Rattle.vc_pool.specs.Cells.Freed.{cells_at}

-- no block is in the cells from one index up to another
abbrev pub AreEmpty : ℕ → ℕ → Cells → Type 0
AreEmpty from to s = (k : ℕ) → from ≤ k → k < to → (pair_at k s).0 ≡ 0

-- the first cell with a block, of those from an index on
pub record IsFirstBlock (from index : ℕ) (s : Cells) : Type 0 where
  pub behind : from ≤ index
  pub listed : index < length s.pairs
  pub size : 1 ≤ (pair_at index s).0
  pub before : AreEmpty from index s

-- no segment of that number has a block
abbrev pub IsBare : ℕ → List Cells → Type 0
IsBare number segs = AreEmpty 0 (length (cells_at number segs).pairs) (cells_at number segs)

-- the first block of the segment of a number, of those in the cells from an index on, is at an address
pub record IsFirstIn (cell : ℕ) (segs : List Cells) (number from a : ℕ) : Type 0 where
  pub index : ℕ
  pub place : a ≡ address (number, cell_offset cell index)
  pub first : IsFirstBlock from index (cells_at number segs)

-- the first block of the segments with a number above one is at an address
pub record IsFirstAbove (cell : ℕ) (segs : List Cells) (after a : ℕ) : Type 0 where
  pub number : ℕ
  pub above : after < number
  pub between : (m : ℕ) → after < m → m < number → IsBare m segs
  pub first : IsFirstIn cell segs number 0 a
