-- What has a number in a list, when another one is put there, or one comes behind the others.
use Rattle.vc_base.proofs.Common.{◌≡◌, ◌≢◌, ◌<◌, ℕ, zero, suc, List, [], ◌∷◌, ◌++◌, length, set, slice_get, Option, Some, None, refl, sym, ap, arith, none-some, same_Some}
use Rattle.vc_store.specs.Stores.Stores.{joined}

pub set-other : {A : Type 0} (xs : List A) (n m : ℕ) (y : A) → m ≢ n → slice_get (set xs n y) m ≡ slice_get xs m
set-other [] n m y ne = refl
set-other (x ∷ xs) zero zero y ne = absurd (ne refl)
set-other (x ∷ xs) zero (suc m) y ne = refl
set-other (x ∷ xs) (suc n) zero y ne = refl
set-other (x ∷ xs) (suc n) (suc m) y ne = set-other xs n m y (λ e. ne (ap suc e))

pub length-put : {A : Type 0} (xs : List A) (n : ℕ) (y : A) → length (set xs n y) ≡ length xs
length-put [] n y = refl
length-put (x ∷ xs) zero y = refl
length-put (x ∷ xs) (suc n) y = ap suc (length-put xs n y)

pub last-here : {A : Type 0} (xs : List A) (x : A) → slice_get (xs ++ x ∷ []) (length xs) ≡ Some x
last-here [] x = refl
last-here (y ∷ ys) x = last-here ys x

pub last-other : {A : Type 0} (xs : List A) (x : A) (m : ℕ) → m ≢ length xs → slice_get (xs ++ x ∷ []) m ≡ slice_get xs m
last-other [] x zero ne = absurd (ne refl)
last-other [] x (suc m) ne = refl
last-other (y ∷ ys) x zero ne = refl
last-other (y ∷ ys) x (suc m) ne = last-other ys x m (λ e. ne (ap suc e))

-- what is there is there in the list
pub joined-there : {A : Type 0} (o : Option (Option A)) (x : A) → joined o ≡ Some x → o ≡ Some (Some x)
joined-there None x e = absurd (none-some x e)
joined-there (Some o) x e = ap Some e

-- what stands there already is put there
pub set-itself : {A : Type 0} (xs : List A) (n : ℕ) (x : A) → slice_get xs n ≡ Some x → set xs n x ≡ xs
set-itself [] n x at = absurd (none-some x at)
set-itself (y ∷ ys) zero x at = ap (λ z. z ∷ ys) (sym (same_Some y x at))
set-itself (y ∷ ys) (suc n) x at = ap (λ zs. y ∷ zs) (set-itself ys n x at)

-- something is there below the length
pub at-below : {A : Type 0} (xs : List A) (n : ℕ) → n < length xs → (x : A) × (slice_get xs n ≡ Some x)
at-below [] n below = absurd (omega (arith, below))
at-below (x ∷ xs) zero below = (x, refl)
at-below (x ∷ xs) (suc n) below = at-below xs n (omega (arith, below))
