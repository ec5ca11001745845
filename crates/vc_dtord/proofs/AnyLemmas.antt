-- Lists of which no element passes a test.
use Rattle.vc_base.proofs.Common.{◌≡◌, ℕ, Bool, true, false, List, [], ◌∷◌, sym, refl, subst, inl, inr, true≢false, eqb_tells, list_any, contains, without}
use Rattle.vc_base.proofs.Members.{within-head, within-tail}

head_by : (p : ℕ → Bool) (x : ℕ) (xs : List ℕ) (t : Bool) → p x ≡ t → list_any p (x ∷ xs) ≡ false → p x ≡ false
head_by p x xs true e h = absurd (true≢false (rw e at h))
head_by p x xs false e h = e

pub any-head : (p : ℕ → Bool) (x : ℕ) (xs : List ℕ) → list_any p (x ∷ xs) ≡ false → p x ≡ false
any-head p x xs h = head_by p x xs (p x) refl h

pub any-tail : (p : ℕ → Bool) (x : ℕ) (xs : List ℕ) → list_any p (x ∷ xs) ≡ false → list_any p xs ≡ false
any-tail p x xs h = rw (any-head p x xs h) at h

pub any-cons : (p : ℕ → Bool) (x : ℕ) (xs : List ℕ) → p x ≡ false → list_any p xs ≡ false → list_any p (x ∷ xs) ≡ false
any-cons p x xs e h = rw e h

-- nor does one of the list without another
pub any-without : (p : ℕ → Bool) (xs : List ℕ) (at : ℕ) → list_any p xs ≡ false → list_any p (without at xs) ≡ false
any-without p [] at h = refl
any-without p (x ∷ xs) at h = elim (eqb_tells x at) as (λ _. list_any p (without at (x ∷ xs)) ≡ false) [
  | inl same ↦ rw same.0 (any-tail p x xs h)
  | inr apart ↦ rw apart.0 (any-cons p x (without at xs) (any-head p x xs h) (any-without p xs at (any-tail p x xs h)))
]

-- and where another test fails wherever the one does
pub any-less : (p q : ℕ → Bool) (xs : List ℕ) → ((a : ℕ) → contains xs a ≡ true → p a ≡ false → q a ≡ false) → list_any p xs ≡ false → list_any q xs ≡ false
any-less p q [] f h = refl
any-less p q (x ∷ xs) f h =
    any-cons q x xs (f x (within-head x xs) (any-head p x xs h)) (any-less p q xs (λ a w. f a (within-tail x xs a w)) (any-tail p x xs h))

-- nor does one that is in the list
pub any-at : (p : ℕ → Bool) (xs : List ℕ) (a : ℕ) → list_any p xs ≡ false → contains xs a ≡ true → p a ≡ false
any-at p [] a h w = absurd (true≢false (sym w))
any-at p (x ∷ xs) a h w = elim (eqb_tells x a) as (λ _. p a ≡ false) [
  | inl same ↦ subst (λ z. p z ≡ false) same.1 (any-head p x xs h)
  | inr apart ↦ any-at p xs a (any-tail p x xs h) (rw apart.0 at w)
]
