-- What is found in a list, put into it or taken out is so under a map, where the test looks at what is mapped.
use Rattle.vc_base.proofs.Common.{◌≡◌, Bool, true, false, not, ◌&&◌, ◌||◌, List, [], ◌∷◌, map, if◌then◌else◌, Some, None, Option, option_map, find, refl, ap, ◌∙◌, list_any}
use Rattle.vc_base.proofs.Quantifiers.{any-map}
use Rattle.vc_dtdisc.specs.Finding.{before_first, before_first_from, behind_first, behind_last, first_of, last_from, last_of, put_before, put_behind, without_first}

-- a choice between what two lists are mapped to, or two that there may be
pub list_by : {A B : Type 0} (h : A → B) (t : Bool) (xs ys : List A) (us vs : List B)
    → us ≡ map h xs → vs ≡ map h ys → (if t then us else vs) ≡ map h (if t then xs else ys)
list_by h true xs ys us vs e f = e
list_by h false xs ys us vs e f = f

pub option_by : {A B : Type 0} (h : A → B) (t : Bool) (o p : Option A) (u v : Option B)
    → u ≡ option_map h o → v ≡ option_map h p → (if t then u else v) ≡ option_map h (if t then o else p)
option_by h true o p u v e f = e
option_by h false o p u v e f = f

pub first_of-map : {A B : Type 0} (h : A → B) (xs : List A) → first_of (map h xs) ≡ option_map h (first_of xs)
first_of-map h [] = refl
first_of-map h (x ∷ xs) = refl

pub last_from-map : {A B : Type 0} (h : A → B) (other : Option A) (xs : List A) → last_from (option_map h other) (map h xs) ≡ option_map h (last_from other xs)
last_from-map h other [] = refl
last_from-map h other (x ∷ xs) = last_from-map h (Some x) xs

pub last_of-map : {A B : Type 0} (h : A → B) (xs : List A) → last_of (map h xs) ≡ option_map h (last_of xs)
last_of-map h xs = last_from-map h None xs

pub behind_first-map : {A B : Type 0} (h : A → B) (test : B → Bool) (xs : List A) → behind_first test (map h xs) ≡ option_map h (behind_first (λ x. test (h x)) xs)
behind_first-map h test [] = refl
behind_first-map h test (x ∷ xs) =
    option_by h (test (h x)) (first_of xs) (behind_first (λ y. test (h y)) xs) (first_of (map h xs)) (behind_first test (map h xs))
    (first_of-map h xs) (behind_first-map h test xs)

pub behind_last-map : {A B : Type 0} (h : A → B) (test : B → Bool) (xs : List A) → behind_last test (map h xs) ≡ option_map h (behind_last (λ x. test (h x)) xs)
behind_last-map h test [] = refl
behind_last-map h test (x ∷ xs) =
    ap (λ t. if test (h x) && not t then first_of (map h xs) else behind_last test (map h xs)) (any-map h test xs)
    ∙ option_by h (test (h x) && not (list_any (λ y. test (h y)) xs)) (first_of xs) (behind_last (λ y. test (h y)) xs) (first_of (map h xs)) (behind_last test (map h xs))
    (first_of-map h xs) (behind_last-map h test xs)

pub before_first_from-map : {A B : Type 0} (h : A → B) (before : Option A) (test : B → Bool) (xs : List A) → before_first_from (option_map h before) test (map h xs) ≡ option_map h (before_first_from before (λ x. test (h x)) xs)
before_first_from-map h before test [] = refl
before_first_from-map h before test (x ∷ xs) =
    option_by h (test (h x)) before (before_first_from (Some x) (λ y. test (h y)) xs) (option_map h before) (before_first_from (Some (h x)) test (map h xs))
    refl (before_first_from-map h (Some x) test xs)

pub before_first-map : {A B : Type 0} (h : A → B) (test : B → Bool) (xs : List A) → before_first test (map h xs) ≡ option_map h (before_first (λ x. test (h x)) xs)
before_first-map h test xs = before_first_from-map h None test xs

pub put_before-map : {A B : Type 0} (h : A → B) (test : B → Bool) (o : A) (xs : List A) → put_before test (h o) (map h xs) ≡ map h (put_before (λ x. test (h x)) o xs)
put_before-map h test o [] = refl
put_before-map h test o (x ∷ xs) =
    list_by h (test (h x)) (o ∷ x ∷ xs) (x ∷ put_before (λ y. test (h y)) o xs) (map h (o ∷ x ∷ xs)) (h x ∷ put_before test (h o) (map h xs))
    refl (ap (λ ys. h x ∷ ys) (put_before-map h test o xs))

pub put_behind-map : {A B : Type 0} (h : A → B) (test : B → Bool) (o : A) (xs : List A) → put_behind test (h o) (map h xs) ≡ map h (put_behind (λ x. test (h x)) o xs)
put_behind-map h test o [] = refl
put_behind-map h test o (x ∷ xs) =
    list_by h (test (h x)) (x ∷ o ∷ xs) (x ∷ put_behind (λ y. test (h y)) o xs) (map h (x ∷ o ∷ xs)) (h x ∷ put_behind test (h o) (map h xs))
    refl (ap (λ ys. h x ∷ ys) (put_behind-map h test o xs))

pub without_first-map : {A B : Type 0} (h : A → B) (test : B → Bool) (xs : List A) → without_first test (map h xs) ≡ map h (without_first (λ x. test (h x)) xs)
without_first-map h test [] = refl
without_first-map h test (x ∷ xs) =
    list_by h (test (h x)) xs (x ∷ without_first (λ y. test (h y)) xs) (map h xs) (h x ∷ without_first test (map h xs))
    refl (ap (λ ys. h x ∷ ys) (without_first-map h test xs))
