-- What is always true of a pool, by its segments with their cells, its element size and the address of the cell freed last.
use Rattle.vc_base.proofs.Common.{◌≡◌, ℕ, ◌≤◌, List, Some, refl, arith, ne_eqb, IsPoolSound, Pool, cell_for, HasBlock}
use Rattle.vc_pool.specs.Cells.Blocks.{carved_by, layout_by}
use Rattle.vc_pool.specs.Cells.Freed.{freed_cells}
use Rattle.vc_pool.specs.Cells.Kept.{AreCellular, IsPool}
use Rattle.vc_pool.specs.Cells.Place.{cells_in}
use Rattle.vc_pool.specs.declared.cells.segment.PoolSegment.{PoolSegment}
use Rattle.vc_pool.specs.Sizes.{element_of}
use Rattle.vc_pool.specs.Read.{pool_by}
use Rattle.vc_pool.proofs.BlockPlaces.{block-some}
use Rattle.vc_pool.proofs.SoundBlocks.{sound-by}

-- the parts of a pool
module _ (segs : List PoolSegment) (element freed : ℕ) where
  pub layout-of : (pool_by segs element freed).layout ≡ layout_by (cell_for element) (cells_in segs)
  unfolding pool_by
  layout-of = refl

  pub freed-of : (pool_by segs element freed).freed ≡ freed_cells (cells_in segs) freed
  unfolding pool_by
  freed-of = refl

  pub carved-of : (pool_by segs element freed).carved ≡ carved_by (cells_in segs)
  unfolding pool_by
  carved-of = refl

  pub pool-is : (p : Pool ℕ) → layout_by (cell_for element) (cells_in segs) ≡ p.layout → element_of element ≡ p.element → freed_cells (cells_in segs) freed ≡ p.freed → carved_by (cells_in segs) ≡ p.carved → pool_by segs element freed ≡ p
  unfolding pool_by
  pool-is p layout set free carved = λ j. record { layout = layout j; element = set j; freed = free j; carved = carved j }

  pub sound-of : AreCellular element (cells_in segs) → IsPoolSound (pool_by segs element freed)
  unfolding pool_by
  sound-of h = sound-by element (cells_in segs) h (freed_cells (cells_in segs) freed) (carved_by (cells_in segs))

  pub sound-kept : IsPool element (cells_in segs) freed → ∥ IsPoolSound (pool_by segs element freed) ∥₁
  sound-kept h = ∣ sound-of h.cells ∣₁

-- a pool is told by the cells of its segments
pub pool-same : (element freed : ℕ) (segs' segs : List PoolSegment) → cells_in segs' ≡ cells_in segs → pool_by segs' element freed ≡ pool_by segs element freed
unfolding pool_by
pool-same element freed segs' segs same =
    λ j. record { layout = layout_by (cell_for element) (same j); element = element_of element; freed = freed_cells (same j) freed; carved = carved_by (same j) }

-- with a block an element size is set
pub with-block : (segs : List PoolSegment) (element freed a : ℕ) → AreCellular element (cells_in segs) → HasBlock (pool_by segs element freed).layout.blocks a → 1 ≤ element
unfolding pool_by
with-block segs element freed a k h = block-some element a (cells_in segs) k h

pub element_of-some : (element : ℕ) → 1 ≤ element → element_of element ≡ Some element
element_of-some element h = rw (ne_eqb element 0 (λ e. omega (arith, e, h))) refl
