-- The sizes of the blocks in cells, and the element size of a pool.
use Rattle.std.specs.Prelude.{ℕ, List, [], ◌∷◌, Option, Some, None, ◌==◌, if◌then◌else◌}
use Rattle.vc_pool.specs.Cells.Cells.{Cells}
use Rattle.vc_pool.specs.Cells.Kept.{AreCellular}

-- the sizes of the blocks in these cells
abbrev pub sizes_in : List (ℕ × ℕ) → List ℕ
sizes_in [] = []
sizes_in (c ∷ cs) = if c.0 == 0 then sizes_in cs else c.0 ∷ sizes_in cs

-- the element size, where one is set; 0 is none
abbrev pub element_of : ℕ → Option ℕ
element_of element = if element == 0 then None else Some element

-- segments that have cells for an element size
pub record HaveCells (segs : List Cells) : Type 0 where
  pub element : ℕ
  pub cells : AreCellular element segs
