-- Segment after segment.
use Rattle.vc_base.proofs.Common.{◌≡◌, ℕ, zero, suc, ◌<◌, true, false, eqb, List, [], ◌∷◌, length, get_or, drop, AllPairs, refl, ap, ◌∙◌, ⊎_elim, arith, eq-eqb, eqb-true, ∥∥₁_elim, cases_Bool}
use Rattle.vc_best.proofs.Common.{AreExtents, Bytes, Extent, IsThere, extents, extents_of, tiling}
use Rattle.vc_model.proofs.Pairs.{AllPairs-head, AllPairs-tail}
use Rattle.vc_best.proofs.Lies.{Differ}
use Rattle.vc_best.proofs.Sets.{extents-set}

pub there-at : (segs : List Bytes) (i : ℕ) (d : Bytes) → i < length segs → IsThere (get_or segs i d).number segs
there-at [] i d lt = absurd (omega arith)
there-at (s ∷ ss) zero d lt = rw (eq-eqb s.number s.number refl) refl
there-at (s ∷ ss) (suc i) d lt =
    let n = (get_or ss i d).number in
    ⊎_elim
    (λ (t : eqb s.number n ≡ true). rw t refl)
    (λ (t : eqb s.number n ≡ false). rw t (there-at ss i d (omega arith)))
    (cases_Bool (eqb s.number n))

pub own-from : (segs : List Bytes) (i : ℕ) (d : Bytes) → AllPairs Differ segs → i < length segs → extents_of (get_or segs i d).number (tiling segs) ≡ extents (get_or segs i d).bytes
own-from [] i d h lt = absurd (omega arith)
own-from (s ∷ ss) zero d h lt = rw (eq-eqb s.number s.number refl) refl
own-from (s ∷ ss) (suc i) d h lt =
    let n = (get_or ss i d).number in
    ⊎_elim
    (λ (t : eqb s.number n ≡ true). absurd (AllPairs-head Differ s ss h i d (omega arith) (eqb-true s.number n t)))
    (λ (t : eqb s.number n ≡ false). rw t (own-from ss i d (AllPairs-tail Differ s ss h) (omega arith)))
    (cases_Bool (eqb s.number n))

-- the extents of a segment, by its number
pub own-at : (segs : List Bytes) (index : List ℕ) (i : ℕ) (d : Bytes) → ∥ AreExtents segs index ∥₁ → i < length segs → extents_of (get_or segs i d).number (tiling segs) ≡ extents (get_or segs i d).bytes
own-at segs index i d k lt = ∥∥₁_elim k (hlevel (extents-set)) (λ h. own-from segs i d h.segments.distinct lt)

-- those that are left, one by one
pub tiling-next : (segs : List Bytes) (i : ℕ) (d : Bytes) → i < length segs → tiling (drop i segs) ≡ ((get_or segs i d).number, extents (get_or segs i d).bytes) ∷ tiling (drop (suc i) segs)
tiling-next [] i d lt = absurd (omega arith)
tiling-next (s ∷ ss) zero d lt = refl
tiling-next (s ∷ ss) (suc i) d lt = tiling-next ss i d (omega arith)

pub pair-at : (segs : List Bytes) (index : List ℕ) (i : ℕ) (d : Bytes) (n : ℕ) → ∥ AreExtents segs index ∥₁ → i < length segs → n ≡ (get_or segs i d).number →
    ◌≡◌ {A = ℕ × List Extent} (n, extents_of n (tiling segs)) ((get_or segs i d).number, extents (get_or segs i d).bytes)
pair-at segs index i d n k lt e =
    let whole = own-at segs index i d k lt in
    let es : extents_of n (tiling segs) ≡ extents (get_or segs i d).bytes = ap (λ (m : ℕ). extents_of m (tiling segs)) e ∙ whole in
    λ j. (e j, es j)
