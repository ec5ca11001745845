-- Which segments stay, as number and size, and what is back where one goes.
use Rattle.vc_base.proofs.Common.{◌≡◌, ℕ, ◌+◌, ◌≤◌, Bool, true, false, not, eqb, List, [], ◌∷◌, ◌++◌, map, length, get_or, is_some, IsSome, ◌==◌, Some, None, All, Contains, filter, Option, remove, sym, refl, ap, ◌∙◌, ⊎_elim, arith, eq-eqb, cases_Bool, or_right, All-cons, All-map, All-nil, All-weaker, length-map, without_last}
use Rattle.vc_best.proofs.Common.{AreSegments, Bytes, pair_of, size_of}
use Rattle.std.proofs.lemmas.List.Edits.{length-remove}
use Rattle.vc_seg.specs.Back.{has_other_number, is_kept}
use Rattle.vc_seg.proofs.Backs.{remove-own, without_last-own}

-- where there is none of a number
pub kept-none : (keeps : ℕ → Bool) (n : ℕ) (ss : List (ℕ × ℕ)) → size_of n ss ≡ None → filter (λ s. is_kept keeps n s.0) ss ≡ ss
kept-none keeps n [] e = refl
kept-none keeps n (s ∷ ss) e =
    ⊎_elim
    (λ (t : eqb s.0 n ≡ true). absurd (let q : Some s.1 ≡ None = rw t at e in cc))
    (λ (t : eqb s.0 n ≡ false).
    let yes : is_kept keeps n s.0 ≡ true = or_right (keeps s.0) (not (s.0 == n)) (ap not t) in
    rw yes (ap (λ (xs : List (ℕ × ℕ)). s ∷ xs) (kept-none keeps n ss (rw t at e))))
    (cases_Bool (eqb s.0 n))

-- a segment of a number that is left was there before
pub left-there : (p : ℕ × ℕ → Bool) (n : ℕ) (ss : List (ℕ × ℕ)) → IsSome (size_of n (filter p ss)) → IsSome (size_of n ss)
left-there p n [] h = h
left-there p n (s ∷ ss) h =
    ⊎_elim
    (λ (t : eqb s.0 n ≡ true). rw t refl)
    (λ (t : eqb s.0 n ≡ false).
    rw t (left-there p n ss
    (⊎_elim
    (λ (u : p s ≡ true). rw t at (rw u at h))
    (λ (u : p s ≡ false). rw u at h)
    (cases_Bool (p s)))))
    (cases_Bool (eqb s.0 n))

-- each segment has its number
pub all-there : (ss : List (ℕ × ℕ)) → All (λ s. IsSome (size_of s.0 ss)) ss
all-there [] = All-nil (λ (s : ℕ × ℕ). IsSome (size_of s.0 []))
all-there (s ∷ ss) =
    All-cons (λ (q : ℕ × ℕ). IsSome (size_of q.0 (s ∷ ss))) s ss (rw (eq-eqb s.0 s.0 refl) refl)
    (All-weaker (λ (q : ℕ × ℕ). IsSome (size_of q.0 ss)) (λ (q : ℕ × ℕ). IsSome (size_of q.0 (s ∷ ss)))
    (λ q h. ⊎_elim (λ (t : eqb s.0 q.0 ≡ true). rw t refl) (λ (t : eqb s.0 q.0 ≡ false). rw t h) (cases_Bool (eqb s.0 q.0))) ss (all-there ss))

pub pairs-first : (segs : List Bytes) → AreSegments segs → All (λ s. 1 ≤ s.0) (map pair_of segs)
pairs-first segs h = All-map (λ (s : ℕ × ℕ). 1 ≤ s.0) pair_of segs (λ k d lt. (h.legal k d lt).first)

pub pairs-last : (segs : List Bytes) → AreSegments segs → All (λ s. s.0 ≤ 1023) (map pair_of segs)
pairs-last segs h = All-map (λ (s : ℕ × ℕ). s.0 ≤ 1023) pair_of segs (λ k d lt. (h.legal k d lt).last)

-- one segment goes
module _ (segs new : List Bytes) (n : ℕ) (s : Bytes) (h : AreSegments segs) (among : Contains segs s) (number : s.number ≡ n) (is : new ≡ filter (has_other_number n) segs) where
  at : s ≡ get_or segs among.0 s
  at = sym among.2

  gone : remove segs among.0 ≡ new
  gone = remove-own pair_of n segs among.0 s h.distinct among.1 (ap (λ (b : Bytes). b.number) among.2 ∙ number) ∙ sym is

  pub one-gone : 1 + length (map pair_of new) ≡ length (map pair_of segs)
  one-gone =
      let long = length-remove segs among.0 among.1 in
      let same = ap length gone in
      let old = length-map segs pair_of in
      let now = length-map new pair_of in
      omega arith

  pub out-gone : (rest : List (ℕ × ℕ)) → without_last (pair_of s) (rest ++ map pair_of segs) ≡ rest ++ map pair_of new
  out-gone rest = without_last-own pair_of segs among.0 s among.1 at h.distinct rest ∙ ap (λ (ss : List Bytes). rest ++ map pair_of ss) gone

pub some-of : {A : Type 0} (o : Option A) (r : Bool) → is_some o ≡ not r → r ≡ false → IsSome o
some-of None true e t = absurd (cc)
some-of None false e t = absurd (cc)
some-of (Some x) r e t = refl
