-- The first segment that isn't full, where the segments with a carved cell stand first.
use Rattle.std.specs.Prelude.{ℕ, ◌<◌, ◌≤◌, List, All, length, take}
use Rattle.std.specs.List.{HoldsAt}
use Rattle.vc_pool.specs.Cells.Cells.{Cells}
use Rattle.vc_pool.specs.Cells.Kept.{IsFull}

-- a segment has a cell, and no more of them are carved than it has
pub record HasCells (s : Cells) : Type 0 where
  pub some : 1 ≤ length s.pairs
  pub few : s.carved ≤ length s.pairs

-- an uncarved cell is in it
abbrev pub IsOpen : Cells → Type 0
IsOpen s = s.carved < length s.pairs

-- the first segments are full, up to a place
pub record IsOpenFrom (segs : List Cells) (i : ℕ) : Type 0 where
  pub full : All IsFull (take i segs)
  pub room : i < length segs → HoldsAt IsOpen segs i

-- the segment at a place is the first that isn't full
pub record IsFirstOpen (segs : List Cells) (i : ℕ) : Type 0 where
  pub within : i < length segs
  pub first : IsOpenFrom segs i
