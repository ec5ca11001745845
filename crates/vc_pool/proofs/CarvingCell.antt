-- What carving a cell leaves of a pool's segments.
use Rattle.vc_base.proofs.Common.{◌≡◌, ℕ, ◌+◌, ◌<◌, ◌≤◌, ◌≢◌, List, length, get_or, drop, set, All, sym, refl, ap, ◌∙◌, subst, arith, All-head, All-weaker, drop_more, get_or_default, length-map, place_of, zeros, carve, cell_for, cell_offset}
use Rattle.vc_seg.specs.Segment.{IsRegionSegment}
use Rattle.vc_seg.specs.Put.{with_zeros}
use Rattle.vc_pool.specs.Cells.Blocks.{block_of_cell, carved_by, layout_by}
use Rattle.vc_pool.specs.Cells.Cells.{Cells, HasCell, carved_with, cells_of, pair_at}
use Rattle.vc_pool.specs.Cells.Freed.{IsFreeCell, cells_at, freed_cells, index_at}
use Rattle.vc_pool.specs.Cells.Kept.{AreCellular, IsPool, IsPoolOf, segment_of}
use Rattle.vc_pool.specs.Cells.Place.{IsAlone, cells_in}
use Rattle.vc_pool.specs.declared.cells.segment.PoolSegment.{PoolSegment}
use Rattle.vc_pool.proofs.OneCell.{ChangesCell}
use Rattle.vc_pool.proofs.CellularSegments.{cellular-carve, front-carve}
use Rattle.vc_pool.proofs.SegmentList.{cells-get, cells-put}
use Rattle.vc_pool.proofs.PoolChange.{pool-freed, pool-of, pool-set}
use Rattle.vc_pool.proofs.OneSegment.{alone, cells-first, layout-put}
use Rattle.vc_pool.proofs.BlockPlaces.{all-legal, fits-cell, has-cell, index-is}
use Rattle.vc_pool.proofs.CellBytes.{block-laid, laid-changes, no-block}
use Rattle.vc_pool.specs.Cells.Carve.{IsCarvedAt}
use Rattle.vc_pool.specs.Cells.Open.{IsFirstOpen}
use Rattle.vc_pool.proofs.CarvedCounts.{carved-more}

-- the segment that a cell is carved of
module _ (element i : ℕ) (segs : List Cells) (d : Cells) (k : AreCellular element segs) (f : IsFirstOpen segs i) where
  abbrev cell : ℕ
  cell = cell_for element

  abbrev o : Cells
  o = get_or segs i d

  own-room : o.carved < length o.pairs
  own-room = f.first.room f.within d

  own-alone : IsAlone o.number segs i
  own-alone = alone o.number i segs k.segments f.within (λ e. ap (λ (s : Cells). s.number) (get_or_default segs i e d f.within))

  own-cell : HasCell cell o.carved o
  own-cell = has-cell cell element o.carved o (k.cellular i d f.within) ((all-legal segs k.segments i d f.within).size) own-room

  own-wide : All (λ p. p.0 ≤ cell) o.pairs
  own-wide =
      All-weaker (λ (p : ℕ × ℕ). p.0 ≤ element) (λ (p : ℕ × ℕ). p.0 ≤ cell) (λ p le. omega (arith, le, fits-cell element)) o.pairs ((k.cellular i d f.within).fits)

  -- no block was in the cell
  own-empty : (pair_at o.carved o).0 ≡ 0
  own-empty =
      let P : ℕ × ℕ → Type 0 = λ p. p.0 ≡ 0 in
      All-head P (pair_at o.carved o) (drop (o.carved + 1) o.pairs)
      (subst (λ (xs : List (ℕ × ℕ)). All P xs) (drop_more o.pairs o.carved (0, 0) own-room) ((k.cellular i d f.within).fresh))

  -- and none is freed there
  none-freed : (last : ℕ) (ps : List (ℕ × ℕ)) → 1 ≤ element → IsPoolOf element segs last ps → All (λ (p : ℕ × ℕ). (let at : ℕ × ℕ = (o.number, cell_offset cell o.carved) in at ≢ p)) ps
  none-freed last ps some h j e lt q =
      let at : ℕ × ℕ = (o.number, cell_offset cell o.carved) in
      let free : IsFreeCell cell segs at = subst (IsFreeCell cell segs) (sym q) (h.free j e lt) in
      let al = own-alone in
      let was : cells_at o.number segs ≡ o = cells-first o.number segs i d al.within al.before refl in
      let index : index_at cell (cell_offset cell o.carved) ≡ o.carved = index-is cell o.carved (cell_offset cell o.carved) (omega (arith, some)) refl in
      let below : index_at cell (cell_offset cell o.carved) < o.carved = subst (λ (s : Cells). index_at cell (cell_offset cell o.carved) < s.carved) was free.below in
      omega (arith, index, below)

module _ (element tag size i : ℕ) (segs : List Cells) (s : Cells) (k : AreCellular element segs) (f : IsFirstOpen segs i) (some : 1 ≤ size) (fits : size ≤ element)
    (e : s ≡ carved_with (cell_for element) size tag (get_or segs i s)) where
  changed : ChangesCell (cell_for element) (get_or segs i s).carved (size, tag) (get_or segs i s) s
  changed =
      let l = laid-changes (cell_for element) (get_or segs i s).carved (get_or segs i s) (own-cell element i segs s k f) size tag in
      subst (ChangesCell (cell_for element) (get_or segs i s).carved (size, tag) (get_or segs i s)) (sym e)
      (record { number = l.number; len = l.len; below = l.below; above = l.above; pairs = l.pairs })

  pub carve-of : (last a : ℕ) → (let at : ℕ × ℕ = ((get_or segs i s).number, cell_offset (cell_for element) (get_or segs i s).carved) in place_of a ≡ at) → IsPool element segs last → IsCarvedAt element tag size segs (set segs i s) last a
  carve-of last a place h =
      let cell : ℕ = cell_for element in
      let o : Cells = get_or segs i s in
      let at : ℕ × ℕ = (o.number, cell_offset cell o.carved) in
      let ps : List (ℕ × ℕ) = freed_cells segs last in
      let nonzero : 1 ≤ element = omega (arith, some, fits) in
      let room = own-room element i segs s k f in
      let al = own-alone element i segs s k f in
      let more : s.carved ≡ o.carved + 1 = ap (λ (x : Cells). x.carved) e in
      let kept : IsPoolOf element (set segs i s) last ps =
      pool-set element last i o.number o.carved (size, tag) segs s ps h al changed nonzero last ps
      (cellular-carve cell element o.carved o s (size, tag) (k.cellular i s f.within) changed fits (λ z. absurd (omega (arith, z, some))) refl room more)
      (front-carve i segs s f.within room f.first.full h.front) (omega (arith, more)) h.chain h.free h.once
      (none-freed element i segs s k f last ps nonzero h) in
      record {
        kept = pool-of element (set segs i s) last ps kept;
        layout = layout-put cell o.carved i o.number segs s al (omega (arith, nonzero)) room (size, tag) s changed (own-wide element i segs s k f) (zeros tag size at)
            (no-block o.number (cell_offset cell o.carved) o.bytes (pair_at o.carved o) (own-empty element i segs s k f))
            (ap (λ (x : Cells). block_of_cell o.number x.bytes (cell_offset cell o.carved) (size, tag)) e
            ∙ block-laid o.number cell o.carved o (own-cell element i segs s k f) size tag some (omega (arith, fits, fits-cell element)))
            ∙ ap (with_zeros (layout_by cell segs) tag size) (sym place);
        freed = pool-freed element (set segs i s) last ps kept;
        carved = carved-more o.number i segs s f.within al.before refl room (changed.number) more h.front
            ∙ ap (λ (p : ℕ × ℕ). carve p.0 (carved_by segs)) (sym place);
      }

-- of a list of segments in which one was changed
module _ (element i : ℕ) (segs : List PoolSegment) (d : PoolSegment) (k : AreCellular element (cells_in segs)) (f : IsFirstOpen (cells_in segs) i) where
  row : (e : Cells) → get_or (cells_in segs) i e ≡ cells_of (get_or segs i d)
  row e = let lt = f.within in cells-get segs i d e (omega (arith, lt, length-map segs cells_of))

  pub cell-there : HasCell (cell_for element) (get_or segs i d).carved (cells_of (get_or segs i d))
  cell-there = subst (λ (s : Cells). HasCell (cell_for element) s.carved s) (row (cells_of d)) (own-cell element i (cells_in segs) (cells_of d) k f)

  pub legal-there : IsRegionSegment (segment_of (cells_of (get_or segs i d)))
  legal-there = subst (λ (s : Cells). IsRegionSegment (segment_of s)) (row (cells_of d)) (all-legal (cells_in segs) k.segments i (cells_of d) f.within)

  pub carved-at : (x : PoolSegment) (tag size last a : ℕ) → 1 ≤ size → size ≤ element → cells_of x ≡ carved_with (cell_for element) size tag (cells_of (get_or segs i d)) → (let at : ℕ × ℕ = ((get_or segs i d).seg.number, cell_offset (cell_for element) (get_or segs i d).carved) in place_of a ≡ at) → IsPool element (cells_in segs) last →
      IsCarvedAt element tag size (cells_in segs) (cells_in (set segs i x)) last a
  carved-at x tag size last a some fits e place h =
      let same = row (cells_of x) in
      let at : Cells → ℕ × ℕ = λ s. (s.number, cell_offset (cell_for element) s.carved) in
      subst (λ (ss : List Cells). IsCarvedAt element tag size (cells_in segs) ss last a) (sym (cells-put segs i x))
      (carve-of element tag size i (cells_in segs) (cells_of x) k f some fits (e ∙ ap (carved_with (cell_for element) size tag) (sym same)) last a (place ∙ ap at (sym same)) h)
