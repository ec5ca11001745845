-- What is always true of a pool's segments and of its freed cells.
use Rattle.std.specs.Prelude.{◌≡◌, ℕ, ◌-◌, ◌/◌, ◌≤◌, List, [], ◌∷◌, All, length, map, drop}
use Rattle.vc_model.specs.Pool.{cell_for}
use Rattle.vc_seg.specs.Segment.{AreSegments, Bytes}
use Rattle.vc_pool.specs.Cells.Cells.{Cells}
use Rattle.vc_pool.specs.Cells.Freed.{IsFreedChain, IsFreeCell, freed_cells, times}

-- a segment without its cells
abbrev pub segment_of : Cells → Bytes
segment_of s = record { number = s.number; bytes = s.bytes }

-- a segment has a pair for each cell, one at least; no block is in a cell that wasn't carved, none is larger than the element size, and a pair without a block is (0, 0)
pub record IsCellular (cell element : ℕ) (s : Cells) : Type 0 where
  pub count : length s.pairs ≡ (length s.bytes - 32) / cell
  pub some : 1 ≤ length s.pairs
  pub few : s.carved ≤ length s.pairs
  pub fresh : All (λ c. c.0 ≡ 0) (drop s.carved s.pairs)
  pub fits : All (λ c. c.0 ≤ element) s.pairs
  pub blank : All (λ c. c.0 ≡ 0 → c.1 ≡ 0) s.pairs

-- every cell of a segment is carved
abbrev pub IsFull : Cells → Type 0
IsFull s = s.carved ≡ length s.pairs

-- a segment has no uncarved cell where one of these behind it has a carved one
abbrev pub IsFullBefore : List Cells → Cells → Type 0
IsFullBefore behind s = All (λ t. 1 ≤ t.carved → IsFull s) behind

-- the segments with a carved cell stand first, each of them full but the last
abbrev pub IsFront : List Cells → Type 0
IsFront [] = Unit {0}
IsFront (s ∷ ss) = IsFullBefore ss s × IsFront ss

-- a block of that size fits a cell for that element size
pub record FitsElement (size element : ℕ) : Type 0 where
  pub some : 1 ≤ size
  pub fits : size ≤ element

-- segments with numbers of their own and with cells for an element size, 0 where there is none, and no segment then
pub record AreCellular (element : ℕ) (segs : List Cells) : Type 0 where
  pub most : element ≤ 16777216
  pub unset : element ≡ 0 → length segs ≡ 0
  pub segments : AreSegments (map segment_of segs)
  pub cellular : All (IsCellular (cell_for element) element) segs

-- what is true of segments and of the address of the cell freed last, 0 for none, with these freed cells
pub record IsPoolOf (element : ℕ) (segs : List Cells) (freed : ℕ) (places : List (ℕ × ℕ)) : Type 0 where
  pub cells : AreCellular element segs
  pub front : IsFront segs
  pub chain : IsFreedChain segs freed places
  pub free : All (IsFreeCell (cell_for element) segs) places
  pub once : (at : ℕ × ℕ) → times at places ≤ 1

abbrev pub IsPool : ℕ → List Cells → ℕ → Type 0
IsPool element segs freed = IsPoolOf element segs freed (freed_cells segs freed)
