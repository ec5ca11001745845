-- The unlabelled blocks of a best region as cells. A region of another method has none.
use Rattle.std.specs.Prelude.{◌≡◌, ℕ, List, None, filter, nat_lt}
use Rattle.vc_base.specs.Cells.{Blocks}
use Rattle.vc_model.specs.Layout.{Block}
use Rattle.vc_best.specs.Cells.{cells_of, zeroed_layout}
use Rattle.vc_region.specs.Parts.{disc_of, region_of}
use Rattle.vc_region.specs.Region as model
use Rattle.vc_region.specs.declared.region.Region.{Region}

-- no cell
abbrev pub no_cells_at_all : Blocks
no_cells_at_all = λ a. None

-- the cells of a region, by its method
abbrev pub region_cells : model.Region ℕ → Blocks
region_cells (model.OfBest layout) = cells_of layout.blocks
region_cells (model.OfPool pool) = no_cells_at_all
region_cells (model.OfLast layout) = no_cells_at_all
region_cells (model.OfDebug debug) = no_cells_at_all
region_cells (model.OfProfile profile) = no_cells_at_all

-- a region but for the bytes in its cells
abbrev pub rest_of : model.Region ℕ → model.Region ℕ
rest_of (model.OfBest layout) = model.OfBest (zeroed_layout layout)
rest_of (model.OfPool pool) = model.OfPool pool
rest_of (model.OfLast layout) = model.OfLast layout
rest_of (model.OfDebug debug) = model.OfDebug debug
rest_of (model.OfProfile profile) = model.OfProfile profile

-- its labelled blocks, those of a tag from 1 on
abbrev pub tagged_blocks : model.Region ℕ → List (Block ℕ)
tagged_blocks r = filter (λ b. nat_lt 0 b.label) (model.blocks_of r)

-- its cells
abbrev pub cells_in : {I : Type 0} {V : I → Type 0} → Region I V → Blocks
cells_in r = region_cells (region_of r)

-- what it is but for the bytes in its cells
abbrev pub rest_in : {I : Type 0} {V : I → Type 0} → Region I V → model.Region ℕ
rest_in r = rest_of (region_of r)

-- its method, its segments, its labelled blocks, the places and sizes of the unlabelled ones, and its discipline stayed
pub record StaysButCells {I : Type 0} {V : I → Type 0} (old new : Region I V) : Type 0 where
  pub region : rest_in new ≡ rest_in old
  pub disc : disc_of new ≡ disc_of old
