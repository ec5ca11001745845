-- What the calls that carve a cell, or uncarve all, leave of a pool's segments, by those before and after and by the address of the cell freed last, 0 for none.
use Rattle.std.specs.Prelude.{◌≡◌, ℕ, ◌≤◌, List, [], None, map}
use Rattle.vc_model.specs.Addr.{place_of}
use Rattle.vc_model.specs.Compact.{cleared_layout}
use Rattle.vc_model.specs.Layout.{with_grant}
use Rattle.vc_model.specs.Segments.{Grant}
use Rattle.vc_model.specs.Pool.{carve, cell_for, uncarved}
use Rattle.vc_seg.specs.Put.{with_zeros}
use Rattle.vc_pool.specs.Cells.Blocks.{carved_by, layout_by, pair_of}
use Rattle.vc_pool.specs.Cells.Cells.{Cells}
use Rattle.vc_pool.specs.Cells.Freed.{freed_cells}
use Rattle.vc_pool.specs.Cells.Kept.{IsPool}

-- a block of zeros is in the lowest uncarved cell of a segment, which stands at an address
pub record IsCarvedAt (element tag size : ℕ) (old new : List Cells) (last a : ℕ) : Type 0 where
  pub kept : IsPool element new last
  pub layout : layout_by (cell_for element) new ≡ with_zeros (layout_by (cell_for element) old) tag size (place_of a)
  pub freed : freed_cells new last ≡ freed_cells old last
  pub carved : carved_by new ≡ carve (place_of a).0 (carved_by old)

-- the element size of a pool stays, or is set where none was, which is 0
abbrev pub IsSetFrom : ℕ → ℕ → Type 0
IsSetFrom element before = 1 ≤ before → before ≡ element

-- every cell of these segments, which are for an element size, is carved
abbrev pub AreCarved : ℕ → List Cells → Type 0
AreCarved element segs = uncarved (cell_for element) (carved_by segs) (map pair_of segs) ≡ None

-- what was granted is there, a segment behind the others or bytes more of the last one, and a block of zeros is in an uncarved cell of it, which stands at an address
pub record IsCarvedIn (element tag size : ℕ) (old new : List Cells) (grant : Grant) (last a : ℕ) : Type 0 where
  pub kept : IsPool element new last
  pub layout : layout_by (cell_for element) new ≡ with_zeros (with_grant (layout_by (cell_for element) old) grant) tag size (place_of a)
  pub freed : freed_cells new last ≡ freed_cells old last
  pub carved : carved_by new ≡ carve (place_of a).0 (carved_by old)

-- the same of each pool that has these segments, whatever cell was freed last, and whose element size that block may set
abbrev pub CarvesIn : ℕ → ℕ → ℕ → List Cells → List Cells → Grant → ℕ → Type 0
CarvesIn element tag size old new grant a = (before last : ℕ) → IsSetFrom element before → IsPool before old last → IsCarvedIn element tag size old new grant last a

-- no block is left, and no cell is carved
pub record IsUncarved (element : ℕ) (old new : List Cells) : Type 0 where
  pub kept : IsPool element new 0
  pub layout : layout_by (cell_for element) new ≡ cleared_layout (layout_by (cell_for element) old)
  pub freed : freed_cells new 0 ≡ []
  pub carved : carved_by new ≡ []
