-- Segments by their numbers.
use Rattle.vc_base.proofs.Common.{◌≡◌, ℕ, zero, suc, ◌+◌, ◌-◌, ◌<◌, ◌≤◌, true, false, eqb, ◌≢◌, List, [], ◌∷◌, map, length, get_or, take, IsSome, Some, None, All, Option, option_map, HoldsAt, sym, refl, ap, ◌∙◌, subst, ⊎_elim, arith, eq-eqb, ne_eqb, eqb-true, cases_Bool, eqb-false, All-cons, All-head, All-nil, All-tail, address, place_of}
use Rattle.vc_seg.specs.Segment.{Bytes, IsRegionSegment, pair_of}
use Rattle.vc_extent.specs.Extent.{Extent, extents}
use Rattle.vc_extent.specs.Tiles.{IsTiled}
use Rattle.vc_extent.specs.Change.{IsExtentAt, extent_in, first_of}
use Rattle.vc_extent.proofs.Neighbours.{next-off}
use Rattle.vc_extent.proofs.Tiled.{named-above}
use Rattle.vc_extent.specs.Tiling.{IsFound, IsPlace, IsThere, extent_of, extents_of, index_from, size_of, tiling}

-- the place of a segment by the index of its number
pub record Found (k n : ℕ) (segs : List Bytes) : Type 0 where
  pub i : ℕ
  pub index : index_from k n segs ≡ k + i + 1
  pub place : IsPlace n segs i

pub found : (k n : ℕ) (segs : List Bytes) → IsThere n segs → Found k n segs
found k n [] there = absurd (cc)
found k n (s ∷ ss) there =
    ⊎_elim
    (λ (t : eqb s.number n ≡ true).
    record {
      i = 0;
      index = rw t (omega arith);
      place = record {
        within = omega arith;
        numbered = λ d. eqb-true s.number n t;
        first = All-nil (λ (b : Bytes). b.number ≢ n);
        extents = λ d. rw t refl;
      };
    })
    (λ (t : eqb s.number n ≡ false).
    let r : Found (k + 1) n ss = found (k + 1) n ss (rw t at there) in
    let p = r.place in
    let in' = p.within in
    record {
      i = suc r.i;
      index = rw t (r.index ∙ omega arith);
      place = record {
        within = omega arith;
        numbered = λ d. p.numbered d;
        first = All-cons (λ (b : Bytes). b.number ≢ n) s (take r.i ss) (eqb-false s.number n t) p.first;
        extents = λ d. rw t (p.extents d);
      };
    })
    (cases_Bool (eqb s.number n))

-- an address that names an extent has a segment
pub named-there : (n off : ℕ) (segs : List Bytes) → 0 < (extent_in off (extents_of n (tiling segs))).span → IsThere n segs
named-there n off [] named = absurd (omega arith)
named-there n off (s ∷ ss) named =
    ⊎_elim
    (λ (t : eqb s.number n ≡ true). rw t refl)
    (λ (t : eqb s.number n ≡ false). rw t (named-there n off ss (rw t at named)))
    (cases_Bool (eqb s.number n))

-- the number of a segment that is there
pub there-first : (n : ℕ) (segs : List Bytes) → All IsRegionSegment segs → IsThere n segs → 1 ≤ n
there-first n segs legal there =
    let f = found 0 n segs there in
    let none : Bytes = record { number = 0; bytes = [] } in
    let first = (legal f.i none f.place.within).first in
    omega (arith, f.place.numbered none)

pub there-last : (n : ℕ) (segs : List Bytes) → All IsRegionSegment segs → IsThere n segs → n ≤ 1023
there-last n segs legal there =
    let f = found 0 n segs there in
    let none : Bytes = record { number = 0; bytes = [] } in
    let last = (legal f.i none f.place.within).last in
    omega (arith, f.place.numbered none)

-- the place that an index tells
pub place-from : (n i : ℕ) (segs : List Bytes) → IsThere n segs → i ≡ index_from 0 n segs → IsPlace n segs (i - 1)
place-from n i segs there e =
    let f = found 0 n segs there in
    let index = f.index in
    subst (λ (k : ℕ). IsPlace n segs k) (omega (arith, e)) f.place

pub some-from : (n i : ℕ) (segs : List Bytes) → IsThere n segs → i ≡ index_from 0 n segs → 1 ≤ i
some-from n i segs there e = let index = (found 0 n segs there).index in omega (arith, e)

-- an address by an offset
pub by-off : (n : ℕ) (o : Option Extent) (off : ℕ) → option_map (λ (e : Extent). e.off) o ≡ Some off → Some (address (n, off)) ≡ option_map (λ (e : Extent). address (n, e.off)) o
by-off n None off e = absurd (cc)
by-off n (Some x) off e = let same : x.off ≡ off = cc in ap (λ k. Some (address (n, k))) (sym same)

-- the first extent of a segment stands behind its first 16 bytes
pub first-off : (n : ℕ) (segs : List Bytes) (i : ℕ) (d : Bytes) → IsPlace n segs i → IsTiled (get_or segs i d).bytes → Some (address (n, 32)) ≡ option_map (λ (e : Extent). address (n, e.off)) (first_of (extents_of n (tiling segs)))
first-off n segs i d p t =
    let b : List ℕ = (get_or segs i d).bytes in
    let least = t.size.least in
    let off : option_map (λ (e : Extent). e.off) (first_of (extents b)) ≡ Some 32 = next-off b (length b - 16) 0 16 (extents b) t.tiles (omega arith) in
    let same : first_of (extents b) ≡ first_of (extents_of n (tiling segs)) = ap first_of (p.extents d) in
    by-off n (first_of (extents_of n (tiling segs))) 32 (ap (λ o. option_map (λ (e : Extent). e.off) o) (sym same) ∙ off)

-- the segment and the place of a named extent
pub found-from : (a n i at : ℕ) (segs : List Bytes) → n ≡ (place_of a).0 → IsPlace n segs i → HoldsAt (λ s. IsTiled s.bytes) segs i → at + 16 ≡ (place_of a).1 → 0 < (extent_of (tiling segs) a).span → IsFound a segs i at
found-from a n i at segs number place tiled off named =
    let p : IsPlace (place_of a).0 segs i = subst (λ (k : ℕ). IsPlace k segs i) number place in
    let e : (d : Bytes) → extent_in (at + 16) (extents (get_or segs i d).bytes) ≡ extent_of (tiling segs) a =
    λ d. ap (λ (k : ℕ). extent_in k (extents (get_or segs i d).bytes)) off ∙ ap (extent_in (place_of a).1) (p.extents d) in
    record {
      place = p;
      off = off;
      multiple = omega arith;
      tiled = tiled;
      named = λ d. subst (λ (x : Extent). 0 < x.span) (sym (e d)) named;
      extent = e;
    }

pub named-off : (a i : ℕ) (segs : List Bytes) (d : Bytes) → IsPlace (place_of a).0 segs i → IsTiled (get_or segs i d).bytes → 0 < (extent_of (tiling segs) a).span → 32 ≤ (place_of a).1
named-off a i segs d p t named =
    let b : List ℕ = (get_or segs i d).bytes in
    let named' : 0 < (extent_in (place_of a).1 (extents b)).span = subst (λ (es : List Extent). 0 < (extent_in (place_of a).1 es).span) (sym (p.extents d)) named in
    named-above b (length b - 16) 0 16 (place_of a).1 (extents b) t.tiles named'

none-from : (o : Option ℕ) → (IsSome o → ⊥) → None ≡ o
none-from None h = refl
none-from (Some x) h = absurd (h refl)

-- the size by a number
pub size-none : (n : ℕ) (segs : List Bytes) → (IsThere n segs → ⊥) → None ≡ size_of n (map pair_of segs)
size-none n segs h = none-from (size_of n (map pair_of segs)) h

pub there-from : (k n : ℕ) (segs : List Bytes) → (index_from k n segs ≡ 0 → ⊥) → IsThere n segs
there-from k n [] h = absurd (h refl)
there-from k n (s ∷ ss) h =
    ⊎_elim
    (λ (t : eqb s.number n ≡ true). rw t refl)
    (λ (t : eqb s.number n ≡ false). rw t (there-from (k + 1) n ss (λ q. h (rw t q))))
    (cases_Bool (eqb s.number n))

pub size-place : (n i : ℕ) (segs : List Bytes) (d : Bytes) → i < length segs → HoldsAt (λ (b : Bytes). b.number ≡ n) segs i → All (λ (b : Bytes). b.number ≢ n) (take i segs) → Some (length (get_or segs i d).bytes) ≡ size_of n (map pair_of segs)
size-place n i [] d within at first = absurd (omega arith)
size-place n zero (s ∷ ss) d within at first = rw (eq-eqb s.number n (at s)) refl
size-place n (suc i) (s ∷ ss) d within at first =
    rw (ne_eqb s.number n (All-head (λ (b : Bytes). b.number ≢ n) s (take i ss) first)) (size-place n i ss d (omega arith) (λ e. at e) (All-tail (λ (b : Bytes). b.number ≢ n) s (take i ss) first))

-- an address that is found names an extent of its segment
pub there-found : {a i at : ℕ} {segs : List Bytes} → IsFound a segs i at → (d : Bytes) → IsExtentAt (get_or segs i d).bytes at
there-found f d = record { tiled = f.tiled d; named = f.named d }
