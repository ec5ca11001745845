-- What a pool's segments are where a freed cell names another.
use Rattle.vc_base.proofs.Common.{◌≡◌, ℕ, ◌^◌, ◌<◌, ◌≤◌, true, false, ◌≢◌, List, map, length, get_or, set, All, flat_map, sym, refl, ap, ◌∙◌, subst, ⊎_elim, arith, length-set, get_or-set_same, cases_Bool, false≢true, All-set, All-weaker, get_or_default, place_of, same_pair, cell_for, cell_offset}
use Rattle.vc_seg.specs.InOrder.{in_order}
use Rattle.vc_pool.specs.Cells.Blocks.{segment_blocks, layout_by, pair_of}
use Rattle.vc_pool.specs.Cells.Cells.{Cells, HasCell, pair_at, with_free_cell}
use Rattle.vc_pool.specs.Cells.Freed.{IsFreeCell, cells_at, index_at, freed_link, link_word}
use Rattle.vc_pool.specs.Cells.Kept.{AreCellular, IsCellular, IsFront}
use Rattle.vc_pool.specs.Cells.Place.{IsCellAt, IsListed}
use Rattle.vc_pool.proofs.OneCell.{ChangesCell}
use Rattle.vc_pool.proofs.Chains.{KeepsWord, keeps-free, keeps-word}
use Rattle.vc_pool.proofs.CellCalls.{carved-stays}
use Rattle.vc_pool.proofs.CellularSegments.{cellular-set, front-set, segments-set}
use Rattle.vc_pool.proofs.OneSegment.{all-new, all-old, cells-first, cells-set, map-stays, others, with_cell}
use Rattle.vc_pool.proofs.BlockPlaces.{all-few, cell-there, fits-cell, index-same}
use Rattle.vc_pool.proofs.PlaceCounts.{same_pair-is, same_pair-self}
use Rattle.vc_pool.proofs.CellBytes.{no-block, released-changes, word-released}
use Rattle.vc_pool.specs.Relink.{KeepsAll}

-- a freed cell is one of its segment's
pub free-listed : (element : ℕ) (segs : List Cells) (p : ℕ × ℕ) → AreCellular element segs → IsFreeCell (cell_for element) segs p → IsListed (cell_for element) segs p
free-listed element segs p k f =
    record { index = index_at (cell_for element) p.1; offset = f.offset; listed = omega (arith, all-few (cell_for element) element p.0 segs k.cellular) }

module _ (element a i index next : ℕ) (segs : List Cells) (s : Cells) (k : AreCellular element segs) (nonzero : 1 ≤ element) (f : IsFreeCell (cell_for element) segs (place_of a)) (there : IsCellAt (cell_for element) segs (place_of a) i index)
    (e : s ≡ with_free_cell (cell_for element) index next (get_or segs i s)) where
  abbrev cell : ℕ
  cell = cell_for element

  abbrev n : ℕ
  n = (place_of a).0

  abbrev o : Cells
  o = get_or segs i s

  same : index_at cell (place_of a).1 ≡ index
  same = index-same cell (index_at cell (place_of a).1) index (omega (arith, nonzero)) (sym f.offset ∙ there.offset)

  was : cells_at n segs ≡ o
  was = let al = there.alone in cells-first n segs i s al.within al.before (al.number s)

  low : index < o.carved
  low = subst (λ (x : Cells). index < x.carved) was (subst (λ j. j < (cells_at n segs).carved) same f.below)

  cellular : IsCellular cell element o
  cellular = k.cellular i s there.alone.within

  listed : index < length o.pairs
  listed = let few = cellular.few in omega (arith, few, low)

  has : HasCell cell index o
  has = subst (HasCell cell index) was (cell-there element segs k nonzero n index (subst (λ (x : Cells). index < length x.pairs) (sym was) listed))

  fits : All (λ p. p.0 ≤ cell) o.pairs
  fits = All-weaker (λ (p : ℕ × ℕ). p.0 ≤ element) (λ (p : ℕ × ℕ). p.0 ≤ cell) (λ p le. omega (arith, le, fits-cell element)) o.pairs cellular.fits

  ch : ChangesCell cell index (0, 0) o s
  ch = subst (ChangesCell cell index (0, 0) o) (sym e) (released-changes cell index o has next (omega (arith, nonzero)))

  count : s.carved ≡ o.carved
  count = ap (λ (x : Cells). x.carved) e

  empty : (pair_at index o).0 ≡ 0
  empty = subst (λ (x : Cells). (pair_at index x).0 ≡ 0) was (subst (λ j. (pair_at j (cells_at n segs)).0 ≡ 0) same f.empty)

  pub linked-cells : AreCellular element (set segs i s)
  linked-cells =
      record {
        most = k.most;
        unset = λ z. absurd (omega (arith, z, nonzero));
        segments = segments-set i segs s there.alone.within ch.number ch.len k.segments;
        cellular = All-set (IsCellular cell element) segs i s (cellular-set cell element index o s (0, 0) cellular ch (omega arith) (λ z. refl) low count) k.cellular;
      }

  pub linked-front : IsFront segs → IsFront (set segs i s)
  linked-front h = front-set i segs s there.alone.within count (ap length ch.pairs ∙ length-set o.pairs index (0, 0)) h

  blocks : in_order (flat_map (segment_blocks cell) (set segs i s)) ≡ in_order (flat_map (segment_blocks cell) segs)
  blocks =
      let rest = others cell index i n segs s there.alone (omega (arith, nonzero)) listed in
      all-new cell index i n segs s there.alone (omega (arith, nonzero)) listed (0, 0) s ch fits
      ∙ (ap (λ x. with_cell x rest) (no-block n (cell_offset cell index) s.bytes (0, 0) refl)
      ∙ sym (all-old cell index i n segs s there.alone (omega (arith, nonzero)) listed ∙ ap (λ x. with_cell x rest) (no-block n (cell_offset cell index) o.bytes (pair_at index o) empty)))

  pairs : map pair_of (set segs i s) ≡ map pair_of segs
  pairs =
      map-stays pair_of i segs s there.alone.within
      (λ d. let own : o ≡ get_or segs i d = get_or_default segs i s d there.alone.within in (λ j. (ch.number j, ch.len j)) ∙ ap pair_of own)

  whole : layout_by cell (set segs i s) ≡ layout_by cell segs
  unfolding layout_by
  whole = λ j. record { segments = pairs j; blocks = blocks j }

  pub linked-keeps : KeepsAll cell segs (set segs i s)
  linked-keeps = record { layout = whole; carved = carved-stays i segs s there.alone.within ch.number count }

  here : (let at : ℕ × ℕ = (n, cell_offset cell index) in at ≡ place_of a)
  here = let pair : ℕ → ℕ → ℕ × ℕ = λ x y. (x, y) in ap (pair n) (sym there.offset)

  apart : (p : ℕ × ℕ) → place_of a ≢ p → (let at : ℕ × ℕ = (n, cell_offset cell index) in at ≢ p)
  apart p other q = other (sym here ∙ q)

  is : cells_at n (set segs i s) ≡ s
  is = let al = there.alone in cells-set n i segs s al.within al.before (ch.number ∙ al.number s)

  -- the words of the other cells stay
  pub linked-word : (p : ℕ × ℕ) → IsFreeCell cell segs p → place_of a ≢ p → KeepsWord segs (set segs i s) p
  linked-word p free other = keeps-word cell index i n segs s (0, 0) there.alone ch (omega (arith, nonzero)) p free (apart p other)

  own-free : IsFreeCell cell (set segs i s) (place_of a)
  own-free =
      let j : ℕ = index_at cell (place_of a).1 in
      record {
        offset = f.offset;
        below = subst (λ (x : Cells). j < x.carved) (sym is) (omega (arith, same, low, count));
        empty = ap (λ (x : Cells). (pair_at j x).0) is ∙ (ap (λ m. (pair_at m s).0) same ∙ (ap (λ (xs : List (ℕ × ℕ)). (get_or xs index (0, 0)).0) ch.pairs ∙ ap (λ (p : ℕ × ℕ). p.0) (get_or-set_same o.pairs index (0, 0) (0, 0) listed)));
      }

  -- each freed cell is as free
  pub linked-free : (p : ℕ × ℕ) → IsFreeCell cell segs p → IsFreeCell cell (set segs i s) p
  linked-free p free =
      ⊎_elim
      (λ (t : same_pair (place_of a) p ≡ true). subst (IsFreeCell cell (set segs i s)) (same_pair-is (place_of a) p t) own-free)
      (λ (t : same_pair (place_of a) p ≡ false).
      keeps-free cell index i n segs s (0, 0) there.alone ch (omega (arith, nonzero)) (omega (arith, count)) p free
      (apart p (λ q. false≢true (sym t ∙ subst (λ (x : ℕ × ℕ). same_pair (place_of a) x ≡ true) q (same_pair-self (place_of a))))))
      (cases_Bool (same_pair (place_of a) p))

  -- the cell names the other
  pub linked-link : next < 2 ^ 64 → freed_link (set segs i s) a ≡ next
  linked-link small =
      ap (λ (x : Cells). link_word (place_of a).1 x.bytes) is
      ∙ (ap (λ m. link_word m s.bytes) there.offset ∙ (ap (λ (x : Cells). link_word (cell_offset cell index) x.bytes) e ∙ word-released n cell index o has next small (omega (arith, nonzero))))
