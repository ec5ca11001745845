-- The freed cells of a pool: each names the one that was freed before it, by the address in its first 8 bytes, 0 for none.
use Rattle.std.specs.Prelude.{◌≡◌, ℕ, ◌+◌, ◌-◌, ◌/◌, zero, suc, ◌<◌, ◌≤◌, List, [], ◌∷◌, length, take, drop, ◌==◌, if◌then◌else◌}
use Rattle.std.specs.Int.{from_le_bytes, w64}
use Rattle.vc_model.specs.Addr.{place_of}
use Rattle.vc_model.specs.Discipline.{same_pair}
use Rattle.vc_model.specs.Pool.{cell_offset}
use Rattle.vc_pool.specs.Cells.Cells.{Cells, pair_at}

-- of no cell
abbrev pub no_segment : Cells
no_segment = record { number = 0; bytes = []; carved = 0; pairs = [] }

-- the segment of that number
abbrev pub cells_at : ℕ → List Cells → Cells
cells_at number [] = no_segment
cells_at number (s ∷ ss) = if s.number == number then s else cells_at number ss

-- the number in the first 8 bytes at a place of a segment, the lowest first
abbrev pub link_word : ℕ → List ℕ → ℕ
link_word off bytes = from_le_bytes w64 (take 8 (drop off bytes))

-- that in the cell at an address
abbrev pub freed_link : List Cells → ℕ → ℕ
freed_link segs a = link_word (place_of a).1 (cells_at (place_of a).0 segs).bytes

-- the places of the freed cells from an address on, the one freed last first; as many at most as the first number
unfoldable pub freed_from : ℕ → List Cells → ℕ → List (ℕ × ℕ)
freed_from zero segs a = []
freed_from (suc more) segs a =
    if a == 0 then [] else place_of a ∷ freed_from more segs (freed_link segs a)

-- how many cells these segments have
abbrev pub cell_total : List Cells → ℕ
cell_total [] = 0
cell_total (s ∷ ss) = length s.pairs + cell_total ss

-- the freed cells of which the last stands at an address, 0 for none
unfoldable pub freed_cells : List Cells → ℕ → List (ℕ × ℕ)
freed_cells segs a = freed_from (cell_total segs) segs a

-- the cells at these places are linked, from an address on to 0
abbrev pub IsFreedChain : List Cells → ℕ → List (ℕ × ℕ) → Type 0
IsFreedChain segs a [] = a ≡ 0
IsFreedChain segs a (p ∷ ps) = (1 ≤ a) × (place_of a ≡ p) × IsFreedChain segs (freed_link segs a) ps

-- the index of the cell that begins at an offset
abbrev pub index_at : ℕ → ℕ → ℕ
index_at cell off = (off - 32) / cell

-- the cell at a place was carved, and no block is in it
pub record IsFreeCell (cell : ℕ) (segs : List Cells) (at : ℕ × ℕ) : Type 0 where
  pub offset : at.1 ≡ cell_offset cell (index_at cell at.1)
  pub below : index_at cell at.1 < (cells_at at.0 segs).carved
  pub empty : (pair_at (index_at cell at.1) (cells_at at.0 segs)).0 ≡ 0

-- how often a place is among these
abbrev pub times : ℕ × ℕ → List (ℕ × ℕ) → ℕ
times at [] = 0
times at (p ∷ ps) = (if same_pair at p then 1 else 0) + times at ps
