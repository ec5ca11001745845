-- What giving back the segments without a block leaves of a pool's segments and of its freed cells.
use Rattle.std.specs.Prelude.{◌≡◌, ℕ, List, filter}
use Rattle.vc_model.specs.Compact.{compacted_layout, is_occupied}
use Rattle.vc_model.specs.Pool.{cell_for}
use Rattle.vc_pool.specs.Cells.Blocks.{carved_by, layout_by}
use Rattle.vc_pool.specs.Cells.Cells.{Cells}
use Rattle.vc_pool.specs.Cells.Freed.{freed_cells}
use Rattle.vc_pool.specs.Cells.Kept.{IsPool}

-- the segments without a block are gone, and their cells with them; the order of the others stays. The cell freed last stood at one address, and stands at another
pub record IsCompacted (element : ℕ) (old new : List Cells) (before after : ℕ) : Type 0 where
  pub kept : IsPool element new after
  pub layout : layout_by (cell_for element) new ≡ compacted_layout (layout_by (cell_for element) old)
  pub freed : freed_cells new after ≡ filter (λ p. is_occupied (layout_by (cell_for element) old).blocks p.0) (freed_cells old before)
  pub carved : carved_by new ≡ filter (λ c. is_occupied (layout_by (cell_for element) old).blocks c.0) (carved_by old)
