-- The numbers of a pool by what it keeps.
use Rattle.vc_base.proofs.Common.{◌≡◌, ℕ, ◌-◌, true, false, eqb, ◌≢◌, List, map, sym, refl, ap, ◌∙◌, ⊎_elim, arith, eq-eqb, ne_eqb, eqb-true, cases_Bool, block_count, cell_count, cell_for, cell_of}
use Rattle.vc_model.specs.Pool.{free_cells, greatest_free_cell}
use Rattle.vc_pool.specs.Cells.Blocks.{layout_by, pair_of}
use Rattle.vc_pool.specs.Cells.Place.{cells_in}
use Rattle.vc_pool.specs.declared.cells.segment.PoolSegment.{PoolSegment}
use Rattle.vc_pool.specs.Sizes.{element_of}
use Rattle.vc_pool.specs.Read.{pool_by}

module _ (segs : List PoolSegment) (element freed : ℕ) where
  pub cell_of-is : cell_for element ≡ cell_of (pool_by segs element freed)
  unfolding pool_by
  cell_of-is =
      ⊎_elim
      (λ (t : eqb element 0 ≡ true). let zero = eqb-true element 0 t in rw t (omega (arith, zero)))
      (λ (t : eqb element 0 ≡ false). rw t refl)
      (cases_Bool (eqb element 0))

  pub free-is : (cells blocks : ℕ) → cells ≡ cell_count (element_of element) (map pair_of (cells_in segs)) → blocks ≡ block_count (layout_by (cell_for element) (cells_in segs)) → cells - blocks ≡ free_cells (pool_by segs element freed)
  unfolding pool_by layout_by
  free-is cells blocks c b = ap (λ n. n - blocks) c ∙ ap (λ n. cell_count (element_of element) (map pair_of (cells_in segs)) - n) b

  module _ (free n : ℕ) (is : free ≡ free_cells (pool_by segs element freed)) where
    pub greatest-none : free ≡ 0 → n ≡ 0 → n ≡ greatest_free_cell (pool_by segs element freed)
    greatest-none e none =
        let zero : eqb (free_cells (pool_by segs element freed)) 0 ≡ true = eq-eqb (free_cells (pool_by segs element freed)) 0 (sym is ∙ e) in
        rw zero none

    pub greatest-some : free ≢ 0 → n ≡ cell_for element → n ≡ greatest_free_cell (pool_by segs element freed)
    greatest-some other some =
        let more : eqb (free_cells (pool_by segs element freed)) 0 ≡ false = ne_eqb (free_cells (pool_by segs element freed)) 0 (λ e. other (is ∙ e)) in
        rw more (some ∙ cell_of-is)
