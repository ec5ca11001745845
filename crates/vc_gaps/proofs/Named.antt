-- What addresses name in a tiling after a change of one extent.
use Rattle.vc_base.proofs.Common.{◌≡◌, ℕ, ◌/◌, ◌<◌, true, false, cond, eqb, ◌≢◌, List, [], ◌∷◌, sym, refl, ap, ◌∙◌, ⊎_elim, arith, ne_eqb, eqb-true, cases_Bool, cases_eq, place_of}
use Rattle.vc_gaps.proofs.Common.{Bytes, Extent, IsThere, Tiling, behind, change_at, change_extent, change_in, extent_in, extent_of, extents_of, tiling}
use Rattle.vc_extent.proofs.Changed.{named-changed}

-- an offset names an extent with that offset
pub extent_in-off : (off : ℕ) (es : List Extent) → (extent_in off es).off ≡ off
extent_in-off off [] = refl
extent_in-off off (e ∷ es) =
    ⊎_elim
    (λ (t : eqb e.off off ≡ true). rw t (eqb-true e.off off t))
    (λ (t : eqb e.off off ≡ false). rw t (extent_in-off off es))
    (cases_Bool (eqb e.off off))

-- the extents of a segment after a change in it, and in another one
pub extents_of-here : (n : ℕ) (change : List Extent → List Extent) (t : Tiling) → change [] ≡ [] → extents_of n (change_in n change t) ≡ change (extents_of n t)
extents_of-here n change [] none = sym none
extents_of-here n change (s ∷ ss) none =
    ⊎_elim
    (λ (t : eqb s.0 n ≡ true). rw (t, t) refl)
    (λ (t : eqb s.0 n ≡ false). rw (t, t) (extents_of-here n change ss none))
    (cases_Bool (eqb s.0 n))

pub extents_of-there : (n : ℕ) (change : List Extent → List Extent) (segs : List Bytes) → IsThere n segs → extents_of n (change_in n change (tiling segs)) ≡ change (extents_of n (tiling segs))
extents_of-there n change [] there = absurd (cc)
extents_of-there n change (s ∷ ss) there =
    ⊎_elim
    (λ (t : eqb s.number n ≡ true). rw (t, t) refl)
    (λ (t : eqb s.number n ≡ false). rw (t, t) (extents_of-there n change ss (rw t at there)))
    (cases_Bool (eqb s.number n))

pub extents_of-other : (n m : ℕ) (change : List Extent → List Extent) (t : Tiling) → m ≢ n → extents_of m (change_in n change t) ≡ extents_of m t
extents_of-other n m change [] ne = refl
extents_of-other n m change (s ∷ ss) ne =
    ⊎_elim
    (λ (t : eqb s.0 n ≡ true). let z = eqb-true s.0 n t in rw (t, ne_eqb s.0 m (λ q. ne (sym q ∙ z))) refl)
    (λ (t : eqb s.0 n ≡ false). rw t (ap (cond (eqb s.0 m) s.1) (extents_of-other n m change ss ne)))
    (cases_Bool (eqb s.0 n))

-- what another offset names after a change that keeps what it names
pub extent_in-other : (off to : ℕ) (change : Extent → List Extent → List Extent) (es : List Extent)
    → extent_in to (change (extent_in off es) (behind off es)) ≡ extent_in to (extent_in off es ∷ behind off es) → extent_in to (change_at off change es) ≡ extent_in to es
extent_in-other off to change [] same = refl
extent_in-other off to change (e ∷ es) same =
    ⊎_elim
    (λ (t : eqb e.off off ≡ true). rw t (rw t at same))
    (λ (t : eqb e.off off ≡ false). rw t (ap (cond (eqb e.off to) e) (extent_in-other off to change es (rw t at same))))
    (cases_Bool (eqb e.off off))

-- two addresses of one segment differ by their offsets
pub off-differs : (a b : ℕ) → b ≢ a → b / 1048576 ≡ a / 1048576 → (place_of b).1 ≢ (place_of a).1
off-differs a b ne same z = ne (omega arith)

-- those behind the one that an address names
abbrev pub behind_of : Tiling → ℕ → List Extent
behind_of t a = behind (place_of a).1 (extents_of (place_of a).0 t)

module _ (old new : Tiling) (a : ℕ) (change : Extent → List Extent → List Extent) (e : new ≡ change_extent a change old) where
  -- what another address names after a change, and what its own does
  pub extent_of-other : (b : ℕ) → b ≢ a
      → (b / 1048576 ≡ a / 1048576 → extent_in (place_of b).1 (change (extent_of old a) (behind_of old a)) ≡ extent_in (place_of b).1 (extent_of old a ∷ behind_of old a)) → extent_of new b ≡ extent_of old b
  extent_of-other b ne same =
      ap (λ (t : Tiling). extent_of t b) e
      ∙ ⊎_elim
      (λ (q : b / 1048576 ≡ a / 1048576).
      ap (λ n. extent_in (place_of b).1 (extents_of n (change_extent a change old))) q
      ∙ ap (extent_in (place_of b).1) (extents_of-here (place_of a).0 (change_at (place_of a).1 change) old refl)
      ∙ extent_in-other (place_of a).1 (place_of b).1 change (extents_of (place_of a).0 old) (same q)
      ∙ ap (λ n. extent_in (place_of b).1 (extents_of n old)) (sym q))
      (λ (q : b / 1048576 ≡ a / 1048576 → ⊥).
      ap (extent_in (place_of b).1) (extents_of-other (place_of a).0 (place_of b).0 (change_at (place_of a).1 change) old q))
      (cases_eq (b / 1048576) (a / 1048576))

  pub extent_of-here : (x : Extent) (ys : List Extent) → 0 < (extent_of old a).span → x.off ≡ (place_of a).1 → change (extent_of old a) (behind_of old a) ≡ x ∷ ys → extent_of new a ≡ x
  extent_of-here x ys named off made =
      ap (λ (t : Tiling). extent_of t a) e
      ∙ ap (extent_in (place_of a).1) (extents_of-here (place_of a).0 (change_at (place_of a).1 change) old refl)
      ∙ named-changed (place_of a).1 change (extents_of (place_of a).0 old) ys x named off made

  pub own-off : (extent_of old a).off ≡ (place_of a).1
  own-off = extent_in-off (place_of a).1 (extents_of (place_of a).0 old)

  -- it becomes another one of the same offset
  module _ (x : Extent) (off : x.off ≡ (place_of a).1) (made : change (extent_of old a) (behind_of old a) ≡ x ∷ behind_of old a) where
    pub extent_of-single : (b : ℕ) → b ≢ a → extent_of new b ≡ extent_of old b
    extent_of-single b ne =
        extent_of-other b ne
        (λ q.
        let differs : (place_of b).1 ≢ (place_of a).1 = off-differs a b ne q in
        ap (extent_in (place_of b).1) made
        ∙ ap (λ z. cond z x (extent_in (place_of b).1 (behind_of old a))) (ne_eqb x.off (place_of b).1 (λ z. differs (sym z ∙ off)))
        ∙ sym (ap (λ z. cond z (extent_of old a) (extent_in (place_of b).1 (behind_of old a))) (ne_eqb (extent_of old a).off (place_of b).1 (λ z. differs (sym z ∙ own-off)))))
