-- One place of a list that is written.
use Rattle.vc_base.proofs.Common.{◌≡◌, ℕ, zero, suc, ◌-◌, ◌≤◌, ◌≢◌, List, [], ◌∷◌, map, set, slice_get, Some, None, option_map, remove, sym, refl, ap, ◌∙◌, arith, nat_tests, none-some, same_Some, slice_get-map, at_number}

pub slice_get-set_other : {A : Type 0} (xs : List A) (k j : ℕ) (y : A) → j ≢ k → slice_get (set xs k y) j ≡ slice_get xs j
slice_get-set_other [] k j y other = refl
slice_get-set_other (z ∷ zs) zero zero y other = absurd (other refl)
slice_get-set_other (z ∷ zs) zero (suc j) y other = refl
slice_get-set_other (z ∷ zs) (suc k) zero y other = refl
slice_get-set_other (z ∷ zs) (suc k) (suc j) y other = slice_get-set_other zs k j y (λ e. other (ap suc e))

pub at_number-from_one : {A : Type 0} (xs : List A) (n : ℕ) → 1 ≤ n → at_number xs n ≡ slice_get xs (n - 1)
at_number-from_one xs n low = grind (arith, nat_tests)

pub at_number-zero : {A : Type 0} (xs : List A) (n : ℕ) → n ≡ 0 → at_number xs n ≡ None
at_number-zero xs n zero_is = grind (arith, nat_tests)

-- what stands at a number stands at an index
pub at_number_some : {A : Type 0} (xs : List A) (n : ℕ) (x : A) → at_number xs n ≡ Some x → (1 ≤ n) × (slice_get xs (n - 1) ≡ Some x)
at_number_some xs zero x at = absurd (none-some x (sym (at_number-zero xs 0 refl) ∙ at))
at_number_some xs (suc k) x at = let low : 1 ≤ suc k = omega arith in (low, sym (at_number-from_one xs (suc k) low) ∙ at)

pub at_number-map : {A B : Type 0} (f : A → B) (xs : List A) (n : ℕ) → at_number (map f xs) n ≡ option_map f (at_number xs n)
at_number-map f xs zero = at_number-zero (map f xs) 0 refl ∙ ap (option_map f) (sym (at_number-zero xs 0 refl))
at_number-map f xs (suc k) =
    let low : 1 ≤ suc k = omega arith in
    at_number-from_one (map f xs) (suc k) low ∙ (slice_get-map f xs (suc k - 1) ∙ ap (option_map f) (sym (at_number-from_one xs (suc k) low)))

-- what is written is what stands there
pub set_same : {A : Type 0} (xs : List A) (k : ℕ) (x : A) → slice_get xs k ≡ Some x → set xs k x ≡ xs
set_same [] k x at = refl
set_same (y ∷ ys) zero x at = ap (λ z. z ∷ ys) (sym (same_Some y x at))
set_same (y ∷ ys) (suc k) x at = ap (λ zs. y ∷ zs) (set_same ys k x at)

pub map-remove : {A B : Type 0} (f : A → B) (xs : List A) (i : ℕ) → map f (remove xs i) ≡ remove (map f xs) i
map-remove f [] zero = refl
map-remove f [] (suc i) = refl
map-remove f (x ∷ xs) zero = refl
map-remove f (x ∷ xs) (suc i) = ap (λ ys. f x ∷ ys) (map-remove f xs i)
