-- What carving a cell of the last segment, which was made longer, leaves of the segments.
use Rattle.vc_base.proofs.Common.{◌≡◌, ℕ, suc, ◌+◌, ◌<◌, ◌≤◌, List, map, length, get_or, set, None, HoldsAt, false, sym, ap, ◌∙◌, subst, arith, get_or-set_same, length-map, place_of, IsSegmentSize, Layout, with_grant, carve, carved_in, cell_for, cell_offset, uncarved}
use Rattle.vc_seg.specs.Put.{with_zeros}
use Rattle.vc_pool.specs.Cells.Blocks.{carved_by, layout_by, pair_of}
use Rattle.vc_pool.specs.Cells.Cells.{Cells, cells_of, with_more_bytes}
use Rattle.vc_pool.specs.Cells.Freed.{freed_cells}
use Rattle.vc_pool.specs.Cells.Kept.{AreCellular, IsFull, IsPool}
use Rattle.vc_pool.specs.Cells.Place.{cells_in}
use Rattle.vc_pool.specs.declared.cells.segment.PoolSegment.{PoolSegment}
use Rattle.vc_pool.specs.Cells.Carve.{IsCarvedAt, IsCarvedIn, IsSetFrom}
use Rattle.vc_pool.specs.Cells.Open.{IsFirstOpen}
use Rattle.vc_pool.proofs.CarvedCounts.{carved-there}
use Rattle.vc_pool.proofs.ElementSize.{pool-set_from}
use Rattle.vc_pool.proofs.LongerSegment.{carved-stays, cellular-more, freed-more, layout-more, open-more, pool-more}
use Rattle.vc_pool.proofs.LowestUncarved.{all-full}
use Rattle.vc_pool.proofs.OneSegment.{numbers-apart}
use Rattle.vc_pool.proofs.SegmentList.{cells-get, cells-put}

module _ (element more i : ℕ) (olds : List PoolSegment) (x : PoolSegment) (k : AreCellular element (cells_in olds)) (some : 1 ≤ element) (last : suc i ≡ length olds)
    (none : uncarved (cell_for element) (carved_by (cells_in olds)) (map pair_of (cells_in olds)) ≡ None)
    (is : cells_of x ≡ with_more_bytes (cell_for element) more (cells_of (get_or olds i x))) (size : IsSegmentSize (length (get_or olds i x).seg.bytes + more)) (fits : cell_for element ≤ more) where
  abbrev own : PoolSegment
  own = get_or olds i x

  abbrev longer : List Cells
  longer = set (cells_in olds) i (cells_of x)

  row : get_or (cells_in olds) i (cells_of x) ≡ cells_of own
  row = cells-get olds i x (cells_of x) (omega (arith, last))

  last-row : suc i ≡ length (cells_in olds)
  last-row = last ∙ sym (length-map olds cells_of)

  full : (j : ℕ) (d : Cells) → j < length (cells_in olds) → IsFull (get_or (cells_in olds) j d)
  full = all-full element (cells_in olds) k some none

  is-row : cells_of x ≡ with_more_bytes (cell_for element) more (get_or (cells_in olds) i (cells_of x))
  is-row = is ∙ ap (with_more_bytes (cell_for element) more) (sym row)

  size-row : IsSegmentSize (length (get_or (cells_in olds) i (cells_of x)).bytes + more)
  size-row = subst (λ (s : Cells). IsSegmentSize (length s.bytes + more)) (sym row) size

  pub kept-longer : AreCellular element (cells_in (set olds i x))
  kept-longer = subst (AreCellular element) (sym (cells-put olds i x)) (cellular-more element more i (cells_in olds) (cells_of x) k some last-row full is-row size-row fits)

  pub first-longer : IsFirstOpen (cells_in (set olds i x)) i
  first-longer = subst (λ (ss : List Cells). IsFirstOpen ss i) (sym (cells-put olds i x)) (open-more element more i (cells_in olds) (cells_of x) k some last-row full is-row size-row fits)

  -- as many cells are carved as before
  counted : carved_in own.seg.number (carved_by (cells_in olds)) ≡ own.carved
  counted =
      let there = carved-there (cells_in olds) (numbers-apart (cells_in olds) k.segments) i (cells_of x) (omega (arith, last-row)) in
      subst (λ (s : Cells). carved_in s.number (carved_by (cells_in olds)) ≡ s.carved) row there

  pub place-longer : (a : ℕ) → HoldsAt (λ (s : PoolSegment). (let at : ℕ × ℕ = (s.seg.number, cell_offset (cell_for element) s.carved) in place_of a ≡ at)) (set olds i x) i →
      (let at : ℕ × ℕ = (own.seg.number, cell_offset (cell_for element) (carved_in own.seg.number (carved_by (cells_in olds)))) in place_of a ≡ at)
  place-longer a place =
      let at : Cells → ℕ × ℕ = λ s. (s.number, cell_offset (cell_for element) s.carved) in
      let pair : ℕ → ℕ × ℕ = λ n. (own.seg.number, cell_offset (cell_for element) n) in
      place x ∙ (ap (λ (s : PoolSegment). at (cells_of s)) (get_or-set_same olds i x x (omega (arith, last))) ∙ (ap at is ∙ ap pair (sym counted)))

  pub carved-longer : (tag bytes before freed a : ℕ) (after : List Cells) → IsSetFrom element before → IsPool before (cells_in olds) freed → (IsPool element (cells_in (set olds i x)) freed → IsCarvedAt element tag bytes (cells_in (set olds i x)) after freed a) →
      IsCarvedIn element tag bytes (cells_in olds) after (record { number = own.seg.number; bytes = more; fresh = false }) freed a
  carved-longer tag bytes before freed a after first h carved =
      let cell : ℕ = cell_for element in
      let all = cells-put olds i x in
      let same : IsPool element (cells_in olds) freed = pool-set_from element before (cells_in olds) k.most first freed h in
      let r = carved (subst (λ (ss : List Cells). IsPool element ss freed) (sym all) (pool-more element more i (cells_in olds) (cells_of x) k some last-row full is-row size-row fits freed same)) in
      record {
        kept = r.kept;
        layout = r.layout
            ∙ ap (λ (l : Layout ℕ). with_zeros l tag bytes (place_of a))
            (ap (layout_by cell) all ∙ (layout-more element more i (cells_in olds) (cells_of x) k some last-row full is-row size-row fits
            ∙ ap (λ (s : Cells). with_grant (layout_by cell (cells_in olds)) (record { number = s.number; bytes = more; fresh = false })) row));
        freed = r.freed ∙ (ap (λ (ss : List Cells). freed_cells ss freed) all ∙ freed-more element more i (cells_in olds) (cells_of x) k some last-row full is-row size-row fits freed same);
        carved = r.carved
            ∙ ap (carve (place_of a).0) (ap carved_by all ∙ carved-stays element more i (cells_in olds) (cells_of x) k some last-row full is-row size-row fits);
      }
