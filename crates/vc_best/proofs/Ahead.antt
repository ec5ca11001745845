-- The first block from an address on, of a segment and of all.
use Rattle.vc_base.proofs.Common.{◌≡◌, ℕ, ◌+◌, ◌-◌, ◌*◌, ◌<◌, ◌≤◌, Bool, true, false, eqb, leb, ◌⊎◌, List, [], ◌∷◌, get_or, is_some, Some, None, All, Option, option_map, sym, refl, ◌∙◌, subst, inl, inr, ⊎_elim, arith, eqb-true, leb-false, leb-true, le_prop, ∥∥₁_elim, ℕ_set, cases_Bool, eqb-false, All-cons, All-map, All-nil, All-weaker, address, place_of, Block, address_of}
use Rattle.vc_best.proofs.Common.{Addr, AreExtents, Bytes, Extent, IsFirst, IsThere, all_busy, busy_in, extents, extents_of, first_of, tiling}
use Rattle.vc_best.proofs.AtBytes.{own-address}
use Rattle.vc_best.proofs.Known.{segment-of}
use Rattle.vc_best.proofs.Lies.{Lies}
use Rattle.vc_best.proofs.Walks.{start}
use Rattle.vc_best.proofs.Along.{own-at}
use Rattle.vc_best.proofs.Layouts.{busy-seg}
use Rattle.vc_best.proofs.Tilings.{All-all_busy, All-busy_in, all-lodged}

le-or : (m n : ℕ) → (m ≤ n) ⊎ (m ≤ n → ⊥)
le-or m n =
    ⊎_elim
    (λ (t : leb m n ≡ true). inl (leb-true m n t))
    (λ (t : leb m n ≡ false). let lt = leb-false m n t in inr (λ le. omega arith))
    (cases_Bool (leb m n))

-- from a lower address on, where no block stands in between
pub first-lower : (bs : List (Block ℕ)) (low high : ℕ) (r : Option ℕ) → low ≤ high → All (λ b. low ≤ address_of b → high ≤ address_of b) bs → IsFirst bs high r → IsFirst bs low r
first-lower bs low high None le between first = λ k d lt. let b : Block ℕ = get_or bs k d in let up = between k d lt in let end = first k d lt in
    ⊎_elim (λ (h : low ≤ address_of b). absurd (let q = up h in omega arith)) (λ (h : low ≤ address_of b → ⊥). omega arith) (le-or (low) (address_of b))
first-lower bs low high (Some a) le between first = (let q = first.0 in omega arith, λ k d lt up. first.1 k d lt (between k d lt up))

module _ (segs : List Bytes) (index : List ℕ) (k : ∥ AreExtents segs index ∥₁) where
  -- what is true of the blocks of each segment is true of all
  pub all-segments : (Q : Block ℕ → Type 0) → ((n : ℕ) → All Q (busy_in (n, extents_of n (tiling segs)))) → All Q (all_busy (tiling segs))
  all-segments Q each =
      All-all_busy Q (tiling segs)
      (All-map (λ (s : ℕ × List Extent). All Q (busy_in s)) (λ (s : Bytes). (s.number, extents s.bytes)) segs
      (λ i d lt.
      let s : Bytes = get_or segs i d in
      subst (λ (es : List Extent). All Q (busy_in (s.number, es))) (own-at segs index i d k lt) (each s.number)))

  -- the numbers of a block's place
  pub below-next : All (λ b. address_of b < (b.seg + 1) * 1048576) (all_busy (tiling segs))
  below-next = ∥∥₁_elim k (hlevel (le_prop)) (λ h. λ i d lt. let o = (all-lodged segs h.segments.legal h.tiled i d lt).below in omega arith)

  pub first-seg : All (λ b. 1 ≤ b.seg) (all_busy (tiling segs))
  first-seg = ∥∥₁_elim k (hlevel (le_prop)) (λ h. λ i d lt. (all-lodged segs h.segments.legal h.tiled i d lt).first)

  pub last-seg : All (λ b. b.seg ≤ 1023) (all_busy (tiling segs))
  last-seg = ∥∥₁_elim k (hlevel (le_prop)) (λ h. λ i d lt. (all-lodged segs h.segments.legal h.tiled i d lt).last)

  -- what is true of one segment's blocks is true of those that have its number
  pub of-number : (Q : Block ℕ → Type 0) (n : ℕ) → All Q (busy_in (n, extents_of n (tiling segs))) → All (λ b. b.seg ≡ n → Q b) (all_busy (tiling segs))
  of-number Q n h =
      all-segments (λ b. b.seg ≡ n → Q b)
      (λ m.
      ⊎_elim
      (λ (t : eqb m n ≡ true). subst (λ (i : ℕ). All (λ b. b.seg ≡ n → Q b) (busy_in (i, extents_of i (tiling segs)))) (sym (eqb-true m n t)) (λ i d lt own. h i d lt))
      (λ (t : eqb m n ≡ false). λ i d lt own. absurd (eqb-false m n t (sym (busy-seg m (extents_of m (tiling segs)) i d lt) ∙ own)))
      (cases_Bool (eqb m n)))

  -- the first of a segment is the first of all from an address in it on
  pub widen : (n low a : ℕ) → n * 1048576 ≤ low → (place_of a).0 ≡ n → IsFirst (busy_in (n, extents_of n (tiling segs))) low (Some a) → IsFirst (all_busy (tiling segs)) low (Some a)
  widen n low a from seg first =
      let own = of-number (λ b. low ≤ address_of b → a ≤ address_of b) n first.1 in (
        first.0,
        λ i d lt up.
            let b : Block ℕ = get_or (all_busy (tiling segs)) i d in
            ⊎_elim
            (λ (t : eqb b.seg n ≡ true). own i d lt (eqb-true b.seg n t) up)
            (λ (t : eqb b.seg n ≡ false). let other = eqb-false b.seg n t in omega (arith, other, below-next i d lt))
            (cases_Bool (eqb b.seg n)),
      )

  -- where none of a segment is left, the next segment's come
  pub skip : (n low : ℕ) → n * 1048576 ≤ low → IsFirst (busy_in (n, extents_of n (tiling segs))) low None → All (λ b. low ≤ address_of b → address (n + 1, 0) ≤ address_of b) (all_busy (tiling segs))
  skip n low from first =
      let own = of-number (λ b. address_of b < low) n first in
      λ i d lt up.
      let b : Block ℕ = get_or (all_busy (tiling segs)) i d in
      ⊎_elim
      (λ (t : eqb b.seg n ≡ true). absurd (let o = own i d lt (eqb-true b.seg n t) in omega arith))
      (λ (t : eqb b.seg n ≡ false). let other = eqb-false b.seg n t in omega (arith, other, below-next i d lt))
      (cases_Bool (eqb b.seg n))

  -- behind the last number no block stands
  pub end-all : (low : ℕ) → All (λ b. low ≤ address_of b → address (1024, 0) ≤ address_of b) (all_busy (tiling segs)) → IsFirst (all_busy (tiling segs)) low None
  end-all low h =
      λ i d lt.
      let b : Block ℕ = get_or (all_busy (tiling segs)) i d in
      ⊎_elim (λ (u : low ≤ address_of b). absurd (omega (arith, h i d lt u, below-next i d lt, last-seg i d lt))) (λ (u : low ≤ address_of b → ⊥). omega arith) (le-or low (address_of b))

-- what an optional address shows
pub first-some : (bs : List (Block ℕ)) (low : ℕ) (o : Option Addr) (r : Bool) → is_some o ≡ r → r ≡ true → IsFirst bs low (option_map (λ a. a.0) o) → (a : Addr) × (o ≡ Some a) × IsFirst bs low (Some a.0)
first-some bs low None r e t h = absurd (let no : false ≡ true = e ∙ t in cc)
first-some bs low (Some a) r e t h = (a, refl, h)

pub first-none : (bs : List (Block ℕ)) (low : ℕ) (o : Option Addr) (r : Bool) → is_some o ≡ r → r ≡ false → IsFirst bs low (option_map (λ a. a.0) o) → IsFirst bs low None
first-none bs low None r e t h = h
first-none bs low (Some a) r e t h = absurd (let no : true ≡ false = e ∙ t in cc)

-- the first offset of a segment
lies-low : (stop at : ℕ) (es : List Extent) → Lies stop at es → All (λ e. at + 16 ≤ e.off) es
lies-low stop at [] h = All-nil (λ (e : Extent). at + 16 ≤ e.off)
lies-low stop at (e ∷ es) h =
    All-cons (λ (x : Extent). at + 16 ≤ x.off) e es (let o = h.0.off in omega arith)
    (All-weaker (λ (x : Extent). at + e.span + 16 ≤ x.off) (λ (x : Extent). at + 16 ≤ x.off) (λ x le. omega arith) es (lies-low stop (at + e.span) es h.1))

pub blocks-low : (segs : List Bytes) (index : List ℕ) (n : ℕ) → ∥ AreExtents segs index ∥₁ → IsThere n segs → All (λ b. address (n, 32) ≤ address_of b) (busy_in (n, extents_of n (tiling segs)))
blocks-low segs index n k there =
    ∥∥₁_elim k (hlevel (le_prop))
    (λ h.
    let s = segment-of n segs index h there in
    let es = extents_of n (tiling segs) in
    let low = lies-low (s.size - 16) 16 es s.lies in
    All-busy_in (λ b. address (n, 32) ≤ address_of b) n es (λ i d lt some. let o = low i d lt in omega arith))

pub start-address : (segs : List Bytes) (index : List ℕ) (n a : ℕ) → ∥ AreExtents segs index ∥₁ → IsThere n segs → Some a ≡ option_map (λ e. address (n, e.off)) (first_of (extents_of n (tiling segs))) → a ≡ address (n, 32)
start-address segs index n a k there value =
    ∥∥₁_elim k (hlevel (ℕ_set)) (λ h. let s = start segs index n a h there value in own-address a n 32 s.seg s.off)
