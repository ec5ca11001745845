-- The blocks in the cells of segments don't overlap, lie in their segments and have places of their own.
use Rattle.vc_base.proofs.Common.{◌≡◌, ℕ, suc, ◌+◌, ◌<◌, ◌≤◌, List, [], ◌∷◌, map, length, get_or, Some, All, Option, Any, AllPairs, flat_map, sym, refl, ap, ◌∙◌, subst, ⊎_elim, arith, eq-eqb, ne_eqb, cases_eq, get_or-map, length-map, address, place_of, Block, address_of, IsPoolSound, cell_for, cell_offset, HaveOwnNumbers, HaveOwnPlaces}
use Rattle.vc_model.specs.Pool.{IsInside, cell_run}
use Rattle.vc_seg.specs.InOrder.{in_order}
use Rattle.vc_seg.proofs.InOrder.{All-in_order}
use Rattle.vc_pool.specs.Cells.Blocks.{segment_blocks, layout_by, pair_of}
use Rattle.vc_pool.specs.Cells.Cells.{Cells}
use Rattle.vc_pool.specs.Cells.Freed.{cells_at}
use Rattle.vc_pool.specs.Cells.Kept.{AreCellular}
use Rattle.vc_pool.specs.Cells.Place.{IsBlockCell}
use Rattle.vc_pool.proofs.OneSegment.{numbers-apart}
use Rattle.vc_pool.proofs.BlockPlaces.{all-legal, all-live, cell-some, cell-there, fits-cell, number-legal, place-there}
use Rattle.vc_pool.specs.Sizes.{element_of}
use Rattle.vc_pool.proofs.BlockPairs.{Beside, beside-turn, pairs-all, pairs-order, sizes-all}

-- the segment of a number is among them, with its size
any-number : (P : ℕ × ℕ → Type 0) (n : ℕ) (segs : List Cells) → 1 ≤ length (cells_at n segs).pairs → P (n, length (cells_at n segs).bytes) → Any P (map pair_of segs)
any-number P n [] some p = absurd (omega (arith, some))
any-number P n (s ∷ ss) some p =
    ⊎_elim
    (λ (e : s.number ≡ n).
    let here : P (n, length s.bytes) = rw (eq-eqb s.number n e) at p in
    let own : P (s.number, length s.bytes) = subst (λ m. P (m, length s.bytes)) (sym e) here in
    (0, pair_of s, omega arith, refl, own))
    (λ (e : s.number ≡ n → ⊥).
    let more : 1 ≤ length (cells_at n ss).pairs = rw (ne_eqb s.number n e) at some in
    let rest : P (n, length (cells_at n ss).bytes) = rw (ne_eqb s.number n e) at p in
    let u = any-number P n ss more rest in
    let within = u.2 in (suc u.0, u.1, omega (arith, within), u.3, u.4))
    (cases_eq s.number n)

-- the numbers are their own
pub own-numbers : (element : ℕ) (segs : List Cells) → AreCellular element segs → HaveOwnNumbers (map pair_of segs)
own-numbers element segs h =
    let d : Cells = record { number = 0; bytes = []; carved = 0; pairs = [] } in
    let long = length-map segs pair_of in
    let at : (k : ℕ) (e : ℕ × ℕ) → k < length segs → get_or (map pair_of segs) k e ≡ pair_of (get_or segs k d) = λ k e lt. get_or-map pair_of segs k d e lt in
    record {
      first = λ k e lt.
          let low : k < length segs = omega (arith, lt, long) in
          subst (λ (p : ℕ × ℕ). 1 ≤ p.0) (sym (at k e low)) ((all-legal segs h.segments k d low).first);
      distinct = λ i j e lt within q.
          let high : j < length segs = omega (arith, within, long) in
          numbers-apart segs h.segments i j d lt high
          (ap (λ (p : ℕ × ℕ). p.0) (sym (at i e (omega (arith, lt, high)))) ∙ (q ∙ ap (λ (p : ℕ × ℕ). p.0) (at j e high)));
    }

module _ (element : ℕ) (segs : List Cells) (h : AreCellular element segs) where
  abbrev cell : ℕ
  cell = cell_for element

  abbrev blocks : List (Block ℕ)
  blocks = in_order (flat_map (segment_blocks cell) segs)

  live : All (λ b. IsBlockCell cell segs (b.seg, b.off)) blocks
  live = All-in_order (λ b. IsBlockCell cell segs (b.seg, b.off)) (flat_map (segment_blocks cell) segs) (all-live cell segs (numbers-apart segs h.segments))

  set-by : (b : Block ℕ) → IsBlockCell cell segs (b.seg, b.off) → 1 ≤ element
  set-by b l = cell-some element b.seg segs h (omega (arith, l.listed))

  exact-by : (b : Block ℕ) → IsBlockCell cell segs (b.seg, b.off) → place_of (address_of b) ≡ (b.seg, b.off)
  exact-by b l =
      let pair : ℕ → ℕ → ℕ × ℕ = λ x y. (x, y) in
      let off : pair b.seg b.off ≡ pair b.seg (cell_offset cell l.index) = ap (pair b.seg) l.offset in
      ap place_of (ap address off) ∙ (place-there element segs h (set-by b l) b.seg l.index l.listed ∙ sym off)

  inside-by : (b : Block ℕ) → IsBlockCell cell segs (b.seg, b.off) → IsInside (map pair_of segs) (cell_run cell b)
  inside-by b l =
      let c = cell-there element segs h (set-by b l) b.seg l.index l.listed in
      any-number (λ s. (b.seg ≡ s.0) × (32 ≤ b.off) × (b.off + cell ≤ s.1)) b.seg segs (omega arith) (refl, omega arith, omega arith)

  beside : AllPairs (Beside cell) blocks
  beside = pairs-order (Beside cell) (beside-turn cell) (flat_map (segment_blocks cell) segs) (pairs-all cell segs (numbers-apart segs h.segments))

  -- two blocks whose cells don't overlap are at two places
  apart-places : (a b : Block ℕ) → 1 ≤ cell → Beside cell a b → a.seg ≡ b.seg → a.off ≡ b.off → ⊥
  apart-places a b some r seg off =
      ⊎_elim
      (λ x. ⊎_elim (λ y. omega (arith, y, seg)) (λ y. omega (arith, y.1, off, some)) x)
      (λ x. ⊎_elim (λ y. omega (arith, y, seg)) (λ y. omega (arith, y.1, off, some)) x)
      r

  pub own-places : HaveOwnPlaces blocks
  own-places =
      record {
        distinct = λ i j d lt within e.
            let a : Block ℕ = get_or blocks i d in
            let b : Block ℕ = get_or blocks j d in
            let low : i < length blocks = omega (arith, lt, within) in
            let same = sym (exact-by a (live i d low)) ∙ (ap place_of e ∙ exact-by b (live j d within)) in
            apart-places a b (omega (arith, set-by b (live j d within))) (beside i j d lt within) (ap (λ (p : ℕ × ℕ). p.0) same) (ap (λ (p : ℕ × ℕ). p.1) same);
        first = λ k d lt.
            let l = live k d lt in
            (number-legal (get_or blocks k d).seg segs h.segments (omega arith)).0;
        exact = λ k d lt. exact-by (get_or blocks k d) (live k d lt);
      }

  fits : All (λ b. b.size ≤ cell) blocks
  fits =
      λ k d lt.
      let size : (get_or blocks k d).size ≤ element = All-in_order (λ b. b.size ≤ element) (flat_map (segment_blocks cell) segs) (sizes-all cell element segs h.cellular) k d lt in
      omega (arith, size, fits-cell element)

  -- with an element size
  sound-set : (freed carved : List (ℕ × ℕ)) → IsPoolSound (record { layout = record { segments = map pair_of segs; blocks = blocks }; element = Some element; freed = freed; carved = carved })
  sound-set freed carved =
      record {
        apart = beside;
        inside = λ k d lt. inside-by (get_or blocks k d) (live k d lt);
        fits = fits;
        places = own-places;
        numbered = own-numbers element segs h;
      }

  none-of : (k : ℕ) → k < length blocks → element ≡ 0 → ⊥
  none-of k lt e = let b : Block ℕ = record { label = 0; seg = 0; off = 0; size = 0; bytes = [] } in let some = set-by (get_or blocks k b) (live k b lt) in omega (arith, some, e)

  sound-unset : (element' : Option ℕ) (freed carved : List (ℕ × ℕ)) → element ≡ 0 → IsPoolSound (record { layout = record { segments = map pair_of segs; blocks = blocks }; element = element'; freed = freed; carved = carved })
  sound-unset element' freed carved e =
      record {
        apart = λ i j d lt within. absurd (none-of j within e);
        inside = λ k d lt. absurd (none-of k lt e);
        fits = λ k d lt. absurd (none-of k lt e);
        places = own-places;
        numbered = own-numbers element segs h;
      }

  pub sound-by : (freed carved : List (ℕ × ℕ)) → IsPoolSound (record { layout = layout_by cell segs; element = element_of element; freed = freed; carved = carved })
  unfolding layout_by
  sound-by freed carved =
      ⊎_elim
      (λ (e : element ≡ 0). sound-unset (element_of element) freed carved e)
      (λ (e : element ≡ 0 → ⊥).
      let set : element_of element ≡ Some element = rw (ne_eqb element 0 e) refl in
      subst (λ (o : Option ℕ). IsPoolSound (record { layout = record { segments = map pair_of segs; blocks = blocks }; element = o; freed = freed; carved = carved })) (sym set) (sound-set freed carved))
      (cases_eq element 0)
