-- What the calls on a pool's cells leave, by its segments before and after and by the addresses of the cell freed last.
use Rattle.std.specs.Prelude.{◌≡◌, ℕ, List, ◌∷◌}
use Rattle.vc_model.specs.Addr.{place_of}
use Rattle.vc_model.specs.Best.{without_block_at}
use Rattle.vc_model.specs.Layout.{Layout}
use Rattle.vc_model.specs.Pool.{cell_for}
use Rattle.vc_seg.specs.Put.{with_zeros}
use Rattle.vc_pool.specs.Cells.Blocks.{carved_by, layout_by}
use Rattle.vc_pool.specs.Cells.Cells.{Cells}
use Rattle.vc_pool.specs.Cells.Freed.{freed_cells}
use Rattle.vc_pool.specs.Cells.Kept.{IsPool}

-- a block of zeros is in the cell that was freed last, and the one freed before it is the last
pub record IsReused (element tag size : ℕ) (old new : List Cells) (a b : ℕ) : Type 0 where
  pub kept : IsPool element new b
  pub layout : layout_by (cell_for element) new ≡ with_zeros (layout_by (cell_for element) old) tag size (place_of a)
  pub freed : freed_cells old a ≡ place_of a ∷ freed_cells new b
  pub carved : carved_by new ≡ carved_by old

-- the block at an address is gone, and its cell is the one freed last
pub record IsPutBack (element a : ℕ) (old new : List Cells) (last : ℕ) : Type 0 where
  pub kept : IsPool element new a
  pub layout : layout_by (cell_for element) new ≡ without_block_at (layout_by (cell_for element) old) (place_of a)
  pub freed : freed_cells new a ≡ place_of a ∷ freed_cells old last
  pub carved : carved_by new ≡ carved_by old

-- the segments stand for this layout, and as many cells are carved and the same ones freed as before
pub record Becomes (element : ℕ) (old new : List Cells) (last : ℕ) (after : Layout ℕ) : Type 0 where
  pub kept : IsPool element new last
  pub layout : layout_by (cell_for element) new ≡ after
  pub freed : freed_cells new last ≡ freed_cells old last
  pub carved : carved_by new ≡ carved_by old
