-- Each cell with a size has a block.
use Rattle.vc_base.proofs.Common.{◌≡◌, ℕ, ◌%◌, ◌<◌, ◌≤◌, List, length, get_or, take, drop, Some, HoldsAt, sym, ap, ◌∙◌, subst, arith, length-map, address, Block, is_at, cell_for, cell_offset, HasBlock, find_block}
use Rattle.vc_seg.specs.Segment.{IsRegionSegment}
use Rattle.vc_seg.proofs.InOrder.{own-place}
use Rattle.vc_pool.specs.Cells.Blocks.{block_of_cell, layout_by}
use Rattle.vc_pool.specs.Cells.Cells.{Cells, cells_of, pair_at}
use Rattle.vc_pool.specs.Cells.Freed.{cells_at}
use Rattle.vc_pool.specs.Cells.Kept.{AreCellular, IsCellular, segment_of}
use Rattle.vc_pool.specs.Cells.Place.{cells_in}
use Rattle.vc_pool.specs.declared.cells.segment.PoolSegment.{PoolSegment}
use Rattle.vc_pool.proofs.SegmentList.{alone-in, cells-get}
use Rattle.vc_pool.proofs.OneSegment.{cells-first, layout-found}
use Rattle.vc_pool.proofs.BlockPlaces.{IsCell-for, all-legal, cell-there, element-some, offset-multiple}
use Rattle.vc_pool.proofs.CellBytes.{one-block}
use Rattle.vc_pool.proofs.FoundBlock.{find-has}

-- the block in a cell
abbrev pub block_of : ℕ → ℕ → ℕ → Cells → Block ℕ
block_of n cell index o =
    record { label = (pair_at index o).1; seg = n; off = cell_offset cell index; size = (pair_at index o).0; bytes = take (pair_at index o).0 (drop (cell_offset cell index) o.bytes) }

-- the cells of the segment at a place
pub cellular-at : (element i : ℕ) (segs : List PoolSegment) (d : PoolSegment) → AreCellular element (cells_in segs) → i < length segs → d ≡ get_or segs i d → IsCellular (cell_for element) element (cells_of d)
cellular-at element i segs d k within is =
    subst (IsCellular (cell_for element) element) (cells-get segs i d (cells_of d) within ∙ ap cells_of (sym is))
    (k.cellular i (cells_of d) (omega (arith, within, length-map segs cells_of)))

-- where a cell begins
module _ (element : ℕ) (segs : List Cells) (h : AreCellular element segs) (some : 1 ≤ element) where
  pub cell-small : (n index : ℕ) → index < length (cells_at n segs).pairs → cell_offset (cell_for element) index < 33554432
  cell-small n index listed =
      let there = cell-there element segs h some n index listed in
      omega (arith, (IsCell-for element some h.most).least)

  pub cell-multiple : (index : ℕ) → cell_offset (cell_for element) index % 32 ≡ 0
  cell-multiple index = offset-multiple (cell_for element) index ((IsCell-for element some h.most).multiple)

module _ (element i n : ℕ) (segs : List PoolSegment) (d : PoolSegment) (k : AreCellular element (cells_in segs)) (within : i < length segs) (number : HoldsAt (λ (s : PoolSegment). s.seg.number ≡ n) segs i) (is : d ≡ get_or segs i d) where
  -- the segment that was found is the one of its number
  pub found-is : cells_at n (cells_in segs) ≡ cells_of d
  found-is =
      let al = alone-in element i n segs k within number in
      cells-first n (cells_in segs) i (cells_of d) al.within al.before (al.number (cells_of d))
      ∙ (cells-get segs i d (cells_of d) within ∙ ap cells_of (sym is))

  abbrev there : get_or (cells_in segs) i (cells_of d) ≡ cells_of d
  there = cells-get segs i d (cells_of d) within ∙ ap cells_of (sym is)

  pub found-element : 1 ≤ element
  found-element = element-some element (cells_in segs) k (omega (arith, within, length-map segs cells_of))

  -- it has such a number
  found-legal : IsRegionSegment (segment_of (cells_of d))
  found-legal = subst (λ (s : Cells). IsRegionSegment (segment_of s)) there (all-legal (cells_in segs) k.segments i (cells_of d) (omega (arith, within, length-map segs cells_of)))

  found-number : d.seg.number ≡ n
  found-number = ap (λ (s : PoolSegment). s.seg.number) is ∙ number d

  pub found-first : 1 ≤ n
  found-first = subst (λ m. 1 ≤ m) found-number found-legal.first

  pub found-last : n ≤ 1023
  found-last = subst (λ m. m ≤ 1023) found-number found-legal.last

  pub found-small : (index : ℕ) → index < length (cells_of d).pairs → cell_offset (cell_for element) index < 33554432
  found-small index listed = cell-small element (cells_in segs) k found-element n index (subst (λ (s : Cells). index < length s.pairs) (sym found-is) listed)

  pub found-multiple : (index : ℕ) → cell_offset (cell_for element) index % 32 ≡ 0
  found-multiple index = cell-multiple element (cells_in segs) k found-element index

  pub found-block : (index : ℕ) → index < length (cells_of d).pairs → 1 ≤ (pair_at index (cells_of d)).0 →
      find_block (n, cell_offset (cell_for element) index) (layout_by (cell_for element) (cells_in segs)).blocks ≡ Some (block_of n (cell_for element) index (cells_of d))
  found-block index listed size =
      let cell : ℕ = cell_for element in
      let row : get_or (cells_in segs) i (cells_of d) ≡ cells_of d = there in
      let b : Block ℕ = block_of n cell index (cells_of d) in
      layout-found cell index i n (cells_in segs) (cells_of d) (alone-in element i n segs k within number) (omega (arith, found-element))
      (subst (λ (x : Cells). index < length x.pairs) (sym row) listed) b
      (ap (λ (x : Cells). block_of_cell n x.bytes (cell_offset cell index) (pair_at index x)) row ∙ one-block n (cell_offset cell index) (cells_of d).bytes (pair_at index (cells_of d)) size)
      (own-place b)

  pub found-live : (index a : ℕ) → index < length (cells_of d).pairs → 1 ≤ (pair_at index (cells_of d)).0 → a ≡ address (n, cell_offset (cell_for element) index) → HasBlock (layout_by (cell_for element) (cells_in segs)).blocks a
  found-live index a listed size e =
      subst (HasBlock (layout_by (cell_for element) (cells_in segs)).blocks) (sym e)
      (find-has (is_at (n, cell_offset (cell_for element) index)) (layout_by (cell_for element) (cells_in segs)).blocks (block_of n (cell_for element) index (cells_of d)) (found-block index listed size))
