-- The element size of a pool is set where it has no segment yet, and a segment of zeros is one of a region's.
use Rattle.vc_base.proofs.Common.{◌≡◌, ℕ, ◌<◌, ◌≤◌, List, [], length, get_or, All, sym, refl, ap, ◌∙◌, subst, ⊎_elim, arith, cases_eq, All-nil, length-replicate, nil_from_length, cell_for}
use Rattle.vc_seg.specs.Segment.{Bytes, pair_of, zero_segment}
use Rattle.vc_pool.specs.Cells.Blocks.{layout_by}
use Rattle.vc_pool.specs.Cells.Cells.{Cells}
use Rattle.vc_pool.specs.Cells.Freed.{cells_at, freed_cells, index_at}
use Rattle.vc_pool.specs.Cells.Kept.{AreCellular, IsCellular, IsPool}
use Rattle.vc_pool.specs.Cells.Carve.{IsSetFrom}

-- without a segment the size doesn't matter
no-segment : (element before : ℕ) → layout_by (cell_for before) [] ≡ layout_by (cell_for element) []
unfolding layout_by
no-segment element before = refl

module _ (element before : ℕ) (segs : List Cells) (most : element ≤ 16777216) (set : IsSetFrom element before) where
  pub cellular-set_from : AreCellular before segs → AreCellular element segs
  cellular-set_from k =
      ⊎_elim
      (λ (z : before ≡ 0). let none : segs ≡ [] = nil_from_length segs (k.unset z) in
      record {
        most = most;
        unset = λ e. k.unset z;
        segments = k.segments;
        cellular = subst (λ (ss : List Cells). All (IsCellular (cell_for element) element) ss) (sym none) (All-nil (IsCellular (cell_for element) element));
      })
      (λ (z : before ≡ 0 → ⊥). subst (λ n. AreCellular n segs) (set (omega (arith, z))) k)
      (cases_eq before 0)

  pub pool-set_from : (last : ℕ) → IsPool before segs last → IsPool element segs last
  pool-set_from last h =
      ⊎_elim
      (λ (z : before ≡ 0). let none : segs ≡ [] = nil_from_length segs (h.cells.unset z) in
      record {
        cells = cellular-set_from h.cells;
        front = h.front;
        chain = h.chain;
        free = λ j d lt.
            let p : ℕ × ℕ = get_or (freed_cells segs last) j d in
            let below : index_at (cell_for before) p.1 < 0 = subst (λ (ss : List Cells). index_at (cell_for before) p.1 < (cells_at p.0 ss).carved) none ((h.free j d lt).below) in
            absurd (omega (arith, below));
        once = h.once;
      })
      (λ (z : before ≡ 0 → ⊥). subst (λ n. IsPool n segs last) (set (omega (arith, z))) h)
      (cases_eq before 0)

  -- no block changes by that
  pub layout-set_from : AreCellular before segs → layout_by (cell_for before) segs ≡ layout_by (cell_for element) segs
  layout-set_from k =
      ⊎_elim
      (λ (z : before ≡ 0). let none : segs ≡ [] = nil_from_length segs (k.unset z) in
      ap (layout_by (cell_for before)) none ∙ (no-segment element before ∙ ap (layout_by (cell_for element)) (sym none)))
      (λ (z : before ≡ 0 → ⊥). ap (λ n. layout_by (cell_for n) segs) (set (omega (arith, z))))
      (cases_eq before 0)

module _ (s : Bytes) (n bytes : ℕ) (is : s ≡ zero_segment n bytes) where
  pub zeroed-length : length s.bytes ≡ bytes
  zeroed-length = ap (λ (b : Bytes). length b.bytes) is ∙ length-replicate bytes 0

  pub zeroed-pair : (let pair : ℕ × ℕ = (n, bytes) in pair_of s ≡ pair)
  zeroed-pair = λ j. ((is j).number, zeroed-length j)
