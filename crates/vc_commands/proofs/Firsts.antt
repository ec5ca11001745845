-- The first item that passes a test.
use Rattle.vc_base.proofs.Common.{◌≡◌, ℕ, zero, suc, Bool, true, false, cond, List, [], ◌∷◌, map, take, set, slice_get, Some, None, find, sym, refl, ap, ◌∙◌, or_parts, none-some, same_Some, list_any}
use Rattle.std.proofs.lemmas.List.{take-map}
use Rattle.vc_base.proofs.Quantifiers.{any-map}
use Rattle.vc_base.proofs.Lists.{slice_get-set}

-- the first place of a list that passes a test
pub record IsFirst {A : Type 0} (test : A → Bool) (xs : List A) (i : ℕ) : Type 0 where
  pub item : A
  pub at : slice_get xs i ≡ Some item
  pub passes : test item ≡ true
  pub before : list_any test (take i xs) ≡ false

find-at : {A : Type 0} (test : A → Bool) (xs : List A) (i : ℕ) (x : A) → slice_get xs i ≡ Some x → test x ≡ true → list_any test (take i xs) ≡ false → find test xs ≡ Some x
find-at test [] i x at passes none = absurd (none-some x at)
find-at test (y ∷ ys) zero x at passes none =
    let same : y ≡ x = same_Some y x at in
    ap (λ b. cond b (Some y) (find test ys)) (ap test same ∙ passes) ∙ ap (λ (z : _). Some z) same
find-at test (y ∷ ys) (suc i) x at passes none =
    let parts = or_parts (test y) (list_any test (take i ys)) none in
    ap (λ b. cond b (Some y) (find test ys)) parts.0 ∙ find-at test ys i x at passes parts.1

-- the first item is the one that is found
pub find-first : {A : Type 0} (test : A → Bool) (xs : List A) (i : ℕ) (f : IsFirst test xs i) → find test xs ≡ Some f.item
find-first test xs i f = find-at test xs i f.item f.at f.passes f.before

-- none is found where none passes
pub find-none : {A : Type 0} (test : A → Bool) (xs : List A) → list_any test xs ≡ false → find test xs ≡ None
find-none test [] none = refl
find-none test (y ∷ ys) none =
    let parts = or_parts (test y) (list_any test ys) none in
    ap (λ b. cond b (Some y) (find test ys)) parts.0 ∙ find-none test ys parts.1

unmap-at : {A B : Type 0} (f : A → B) (xs : List A) (i : ℕ) (y : B) → slice_get (map f xs) i ≡ Some y → (x : A) × (slice_get xs i ≡ Some x) × (f x ≡ y)
unmap-at f [] i y at = absurd (none-some y at)
unmap-at f (x ∷ xs) zero y at = (x, refl, same_Some (f x) y at)
unmap-at f (x ∷ xs) (suc i) y at = unmap-at f xs i y at

-- a test of what items are mapped to
pub first-unmap : {A B : Type 0} (test : B → Bool) (f : A → B) (xs : List A) (i : ℕ) → IsFirst test (map f xs) i → IsFirst (λ x. test (f x)) xs i
first-unmap test f xs i first =
    let p = unmap-at f xs i first.item first.at in
    record {
      item = p.0;
      at = p.1;
      passes = ap test p.2 ∙ first.passes;
      before = sym (any-map f test (take i xs)) ∙ (ap (list_any test) (sym (take-map f i xs)) ∙ first.before);
    }

take-set : {A : Type 0} (xs : List A) (i : ℕ) (y : A) → take i (set xs i y) ≡ take i xs
take-set [] zero y = refl
take-set [] (suc i) y = refl
take-set (x ∷ xs) zero y = refl
take-set (x ∷ xs) (suc i) y = ap (λ ys. x ∷ ys) (take-set xs i y)

-- another item that passes in the first one's place
pub find-set : {A : Type 0} (test : A → Bool) (xs : List A) (i : ℕ) (x y : A) → slice_get xs i ≡ Some x → list_any test (take i xs) ≡ false → test y ≡ true → find test (set xs i y) ≡ Some y
find-set test xs i x y at none passes = find-at test (set xs i y) i y (slice_get-set xs i x y at) passes (ap (list_any test) (take-set xs i y) ∙ none)
