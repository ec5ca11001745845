-- Which addresses a list has, and at which place one stands in it.
use Rattle.vc_base.proofs.Common.{◌≡◌, ℕ, Bool, true, false, ◌≢◌, ◌⊎◌, List, [], ◌∷◌, ◌++◌, if◌then◌else◌, Some, None, sym, refl, ap, ◌∙◌, inl, inr, ⊎_elim, true≢false, eq-eqb, ne_eqb, eqb_tells, AreDistinct, contains, first_in, last_in, next_in, previous_in, without}
use Rattle.vc_base.specs.Holders.{last_of}

-- the first of a list is in it, so is one of the rest, and so is the last
pub within-head : (x : ℕ) (xs : List ℕ) → contains (x ∷ xs) x ≡ true
within-head x xs = rw (eq-eqb x x refl) refl

pub within-tail : (x : ℕ) (xs : List ℕ) (a : ℕ) → contains xs a ≡ true → contains (x ∷ xs) a ≡ true
within-tail x xs a h = elim (eqb_tells x a) as (λ _. contains (x ∷ xs) a ≡ true) [
  | inl same ↦ rw same.0 refl
  | inr apart ↦ rw apart.0 h
]

pub within-last : (x : ℕ) (xs : List ℕ) → contains (x ∷ xs) (last_of x xs) ≡ true
within-last x [] = within-head x []
within-last x (y ∷ ys) = within-tail x (y ∷ ys) (last_of y ys) (within-last y ys)

-- one of two lists one after another
pub within-front : (xs ys : List ℕ) (a : ℕ) → contains xs a ≡ true → contains (xs ++ ys) a ≡ true
within-front [] ys a h = absurd (true≢false (sym h))
within-front (x ∷ xs) ys a h = elim (eqb_tells x a) as (λ _. contains (x ∷ xs ++ ys) a ≡ true) [
  | inl same ↦ rw same.0 refl
  | inr apart ↦ rw apart.0 (within-front xs ys a (rw apart.0 at h))
]

pub within-rest : (xs ys : List ℕ) (a : ℕ) → contains ys a ≡ true → contains (xs ++ ys) a ≡ true
within-rest [] ys a h = h
within-rest (x ∷ xs) ys a h = within-tail x (xs ++ ys) a (within-rest xs ys a h)

-- what is in a list is its first or in the rest, and what is in two lists in one of them
pub within-cases : (x : ℕ) (xs : List ℕ) (a : ℕ) → contains (x ∷ xs) a ≡ true → (x ≡ a) ⊎ (contains xs a ≡ true)
within-cases x xs a h = elim (eqb_tells x a) as (λ _. (x ≡ a) ⊎ (contains xs a ≡ true)) [
  | inl same ↦ inl same.1
  | inr apart ↦ inr (rw apart.0 at h)
]

pub within-either : (xs ys : List ℕ) (a : ℕ) → contains (xs ++ ys) a ≡ true → (contains xs a ≡ true) ⊎ (contains ys a ≡ true)
within-either [] ys a h = inr h
within-either (x ∷ xs) ys a h = elim (eqb_tells x a) as (λ _. (contains (x ∷ xs) a ≡ true) ⊎ (contains ys a ≡ true)) [
  | inl same ↦ inl (rw same.0 refl)
  | inr apart ↦ ⊎_elim (λ (k : contains xs a ≡ true). inl (rw apart.0 k)) (λ (k : contains ys a ≡ true). inr k) (within-either xs ys a (rw apart.0 at h))
]

-- an address that isn't in a list is neither its first nor in the rest
pub apart-head : (x : ℕ) (xs : List ℕ) (a : ℕ) → contains (x ∷ xs) a ≡ false → x ≢ a
apart-head x xs a h e = true≢false (rw (eq-eqb x a e) at h)

pub apart-tail : (x : ℕ) (xs : List ℕ) (a : ℕ) → contains (x ∷ xs) a ≡ false → contains xs a ≡ false
apart-tail x xs a h = elim (eqb_tells x a) as (λ _. contains xs a ≡ false) [
  | inl same ↦ absurd (true≢false (rw same.0 at h))
  | inr apart ↦ rw apart.0 at h
]

pub apart-cons : (x : ℕ) (xs : List ℕ) (a : ℕ) → x ≢ a → contains xs a ≡ false → contains (x ∷ xs) a ≡ false
apart-cons x xs a ne h = rw (ne_eqb x a ne) h

-- nor in one of two lists one after another, nor in either of two
pub apart-front : (xs ys : List ℕ) (a : ℕ) → contains (xs ++ ys) a ≡ false → contains xs a ≡ false
apart-front [] ys a h = refl
apart-front (x ∷ xs) ys a h = apart-cons x xs a (apart-head x (xs ++ ys) a h) (apart-front xs ys a (apart-tail x (xs ++ ys) a h))

pub apart-rest : (xs ys : List ℕ) (a : ℕ) → contains (xs ++ ys) a ≡ false → contains ys a ≡ false
apart-rest [] ys a h = h
apart-rest (x ∷ xs) ys a h = apart-rest xs ys a (apart-tail x (xs ++ ys) a h)

pub apart-either : (t : Bool) (xs ys : List ℕ) (a : ℕ) → contains xs a ≡ false → contains ys a ≡ false → contains (if t then xs else ys) a ≡ false
apart-either true xs ys a h k = h
apart-either false xs ys a h k = k

-- it is none of those that are
pub differs : (xs : List ℕ) (a x : ℕ) → contains xs a ≡ true → contains xs x ≡ false → a ≢ x
differs xs a x h k e = true≢false (sym h ∙ ap (contains xs) e ∙ k)

-- one that stands once is in no list before it or behind it
pub apart-removed : (xs ys : List ℕ) (a : ℕ) → AreDistinct (xs ++ a ∷ ys) → contains (xs ++ ys) a ≡ false
apart-removed [] ys a d = d.0
apart-removed (x ∷ xs) ys a d =
    let back : a ≢ x = apart-head a ys x (apart-rest xs (a ∷ ys) x d.0) in
    apart-cons x (xs ++ ys) a (λ e. back (sym e)) (apart-removed xs ys a d.1)

pub first-apart : (xs : List ℕ) (y : ℕ) (ys : List ℕ) → AreDistinct (xs ++ y ∷ ys) → contains xs y ≡ false
first-apart xs y ys d = apart-front xs ys y (apart-removed xs ys y d)

-- what the list is without it, and its neighbours there
pub without-split : (front : List ℕ) (at : ℕ) (rest : List ℕ) → contains front at ≡ false → without at (front ++ at ∷ rest) ≡ front ++ rest
without-split [] at rest h = rw (eq-eqb at at refl) refl
without-split (x ∷ xs) at rest h =
    rw (ne_eqb x at (apart-head x xs at h)) (ap (λ z. x ∷ z) (without-split xs at rest (apart-tail x xs at h)))

pub next_in-split : (front : List ℕ) (at : ℕ) (rest : List ℕ) → contains front at ≡ false → next_in at (front ++ at ∷ rest) ≡ first_in rest
next_in-split [] at rest h = rw (eq-eqb at at refl) refl
next_in-split (x ∷ xs) at rest h = rw (ne_eqb x at (apart-head x xs at h)) (next_in-split xs at rest (apart-tail x xs at h))

pub previous_in-behind : (x : ℕ) (front : List ℕ) (at : ℕ) (rest : List ℕ) → contains front at ≡ false → previous_in (Some x) at (front ++ at ∷ rest) ≡ Some (last_of x front)
previous_in-behind x [] at rest h = rw (eq-eqb at at refl) refl
previous_in-behind x (y ∷ ys) at rest h = rw (ne_eqb y at (apart-head y ys at h)) (previous_in-behind y ys at rest (apart-tail y ys at h))

pub previous_in-split : (front : List ℕ) (at : ℕ) (rest : List ℕ) → contains front at ≡ false → previous_in None at (front ++ at ∷ rest) ≡ last_in front
previous_in-split [] at rest h = rw (eq-eqb at at refl) refl
previous_in-split (x ∷ xs) at rest h = rw (ne_eqb x at (apart-head x xs at h)) (previous_in-behind x xs at rest (apart-tail x xs at h))
