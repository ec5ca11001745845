-- Items of lists: what is found, read, written and kept.
use Rattle.vc_base.proofs.Common.{◌≡◌, ℕ, zero, suc, ◌+◌, ◌≤◌, Bool, true, List, [], ◌∷◌, map, length, take, drop, set, slice_get, Some, filter, option_map, find, sym, refl, ap, ◌∙◌, ⊎_elim, arith, length-drop, length-take, cases_Bool, none-some}

-- lists that are one have one first item and one rest
pub head-same : {A : Type 0} (x y : A) (xs ys : List A) → x ∷ xs ≡ y ∷ ys → x ≡ y
head-same x y xs ys e = cc

pub tail-same : {A : Type 0} (x y : A) (xs ys : List A) → x ∷ xs ≡ y ∷ ys → xs ≡ ys
tail-same x y xs ys e = cc

-- a part of a list
pub length-part : {A : Type 0} (xs : List A) (from n : ℕ) → from + n ≤ length xs → length (take n (drop from xs)) ≡ n
length-part xs from n within = omega (arith, length-take n (drop from xs), length-drop from xs)

-- an item is what was written in its place
pub slice_get-set : {A : Type 0} (xs : List A) (i : ℕ) (x y : A) → slice_get xs i ≡ Some x → slice_get (set xs i y) i ≡ Some y
slice_get-set [] i x y at = absurd (none-some x at)
slice_get-set (z ∷ zs) zero x y at = refl
slice_get-set (z ∷ zs) (suc i) x y at = slice_get-set zs i x y at

-- what is found passes the test, and so it is in a mapped list
pub find-passes : {A : Type 0} (test : A → Bool) (xs : List A) (x : A) → find test xs ≡ Some x → test x ≡ true
find-passes test [] x e = absurd (cc)
find-passes test (y ∷ ys) x e =
    ⊎_elim
    (λ u. let found : Some y ≡ Some x = rw u at e in let it : y ≡ x = cc in ap test (sym it) ∙ u)
    (λ u. let rest : find test ys ≡ Some x = rw u at e in find-passes test ys x rest)
    (cases_Bool (test y))

pub find-map : {A B : Type 0} (f : A → B) (test : B → Bool) (xs : List A) → find test (map f xs) ≡ option_map f (find (λ x. test (f x)) xs)
find-map f test [] = refl
find-map f test (x ∷ xs) = ⊎_elim (λ e. rw e refl) (λ e. rw e (find-map f test xs)) (cases_Bool (test (f x)))

-- the items of a mapped list that pass a test
pub filter-map : {A B : Type 0} (f : A → B) (test : B → Bool) (xs : List A) → filter test (map f xs) ≡ map f (filter (λ x. test (f x)) xs)
filter-map f test [] = refl
filter-map f test (x ∷ xs) =
    ⊎_elim
    (λ e. rw e (ap (λ ys. f x ∷ ys) (filter-map f test xs)))
    (λ e. rw e (filter-map f test xs))
    (cases_Bool (test (f x)))
