-- What a look-up of a byte's block answers, by the segment that was found.
use Rattle.vc_base.proofs.Common.{◌≡◌, ℕ, ◌-◌, ◌/◌, ◌%◌, ◌<◌, ◌≤◌, List, length, get_or, Some, None, Option, option_map, HoldsAt, sym, ap, ◌∙◌, subst, div-add-mod', arith, address, Block, address_of, cell_for, cell_offset, block_at}
use Rattle.vc_pool.specs.Cells.Blocks.{layout_by}
use Rattle.vc_pool.specs.Cells.Cells.{Cells, cells_of, pair_at}
use Rattle.vc_pool.specs.Cells.Freed.{cells_at}
use Rattle.vc_pool.specs.Cells.Kept.{AreCellular}
use Rattle.vc_pool.specs.Cells.Place.{cells_in}
use Rattle.vc_pool.specs.declared.cells.segment.PoolSegment.{PoolSegment}
use Rattle.vc_pool.proofs.BlockOfByte.{HasByte, byte-none, byte-some, byte-there, never-listed, never-within}
use Rattle.vc_pool.proofs.CellsWithBlocks.{block_of, found-block, found-element, found-is}

module _ (element i n off : ℕ) (segs : List PoolSegment) (d : PoolSegment) (k : AreCellular element (cells_in segs)) (within : i < length segs) (number : HoldsAt (λ (s : PoolSegment). s.seg.number ≡ n) segs i) (is : d ≡ get_or segs i d)
    (r : ℕ) (same : r ≡ cell_for element) where
  abbrev cell : ℕ
  cell = cell_for element

  was : cells_at n (cells_in segs) ≡ cells_of d
  was = found-is element i n segs d k within number is

  some : 1 ≤ element
  some = found-element element i n segs d k within number is

  -- no cell is listed there, or the byte is behind the cell's block
  pub none-listed : length d.cells.items ≤ (off - 32) / r → block_at (n, off) (layout_by (cell_for element) (cells_in segs)).blocks ≡ None
  none-listed few =
      byte-none element n off (cells_in segs) k
      (never-listed element n off (cells_in segs) k some
      (subst (λ x. length (cells_at n (cells_in segs)).pairs ≤ (off - 32) / x) same (subst (λ (s : Cells). length s.pairs ≤ (off - 32) / r) (sym was) few)))

  pub none-within : (pair_at ((off - 32) / r) (cells_of d)).0 ≤ (off - 32) % r → block_at (n, off) (layout_by (cell_for element) (cells_in segs)).blocks ≡ None
  none-within small =
      byte-none element n off (cells_in segs) k
      (never-within element n off (cells_in segs) k some
      (subst (λ x. (pair_at ((off - 32) / x) (cells_at n (cells_in segs))).0 ≤ (off - 32) % x) same
      (subst (λ (s : Cells). (pair_at ((off - 32) / r) s).0 ≤ (off - 32) % r) (sym was) small)))

  -- the byte is in the cell's block
  pub some-within : 32 ≤ off → (off - 32) / r < length d.cells.items → (off - 32) % r < (pair_at ((off - 32) / r) (cells_of d)).0 → (a : ℕ) → a ≡ address (n, cell_offset r ((off - 32) / r)) →
      option_map {U = ℕ × ℕ} (λ (f : Block ℕ × ℕ). (address_of f.0, f.1)) (block_at (n, off) (layout_by (cell_for element) (cells_in segs)).blocks) ≡ Some (a, (off - 32) % r)
  some-within first listed inner a e =
      let index : ℕ = (off - 32) / cell in
      let listed' : index < length (cells_of d).pairs = subst (λ x. (off - 32) / x < length d.cells.items) same listed in
      let inner' : (off - 32) % cell < (pair_at index (cells_of d)).0 = subst (λ x. (off - 32) % x < (pair_at ((off - 32) / x) (cells_of d)).0) same inner in
      let at : a ≡ address (n, cell_offset cell index) = subst (λ x. a ≡ address (n, cell_offset x ((off - 32) / x))) same e in
      let has : HasByte cell n off (cells_in segs) index =
      byte-there element n off (cells_in segs) k some first
      (subst (λ (s : Cells). index < length s.pairs) (sym was) listed')
      (subst (λ (s : Cells). (off - 32) % cell < (pair_at index s).0) (sym was) inner') in
      let size : 1 ≤ (pair_at index (cells_of d)).0 = omega (arith, inner') in
      let b : Block ℕ = block_of n cell index (cells_of d) in
      let rest : off - cell_offset cell index ≡ (off - 32) % cell = omega (arith, first, div-add-mod' (off - 32) cell) in
      let pair : ℕ → ℕ → Option (ℕ × ℕ) = λ x y. Some (x, y) in
      ap (option_map {U = ℕ × ℕ} (λ (f : Block ℕ × ℕ). (address_of f.0, f.1)))
      (byte-some element n off (cells_in segs) k some index has b (found-block element i n segs d k within number is index listed' size))
      ∙ (ap (λ x. pair x (off - cell_offset cell index)) (sym at) ∙ (ap (pair a) rest ∙ ap (λ x. pair a ((off - 32) % x)) (sym same)))
