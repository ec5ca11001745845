-- The ends of lists, and the neighbours of what passes a test, where lists are joined or mapped.
use Rattle.vc_base.proofs.Common.{◌≡◌, Bool, true, false, ◌||◌, List, [], ◌∷◌, ◌++◌, map, Some, filter, Option, option_map, flat_map, sym, refl, ap, ◌∙◌, inl, inr, true≢false, cases_Bool, or_from, or_parts, list_any-append, list_any, option_or}
use Rattle.vc_base.proofs.Quantifiers.{any-middle}
use Rattle.vc_dtdisc.specs.Finding.{before_first_from, behind_last, first_of, last_from, last_of}
use Rattle.vc_dtdisc.proofs.FindingLemmas.{before_first-map, behind_last-map, first_of-map, last_of-map}
use Rattle.vc_paths.specs.Direction.{end_of, neighbour}

-- the ends of joined lists
pub first-append : {A : Type 0} (xs ys : List A) → first_of (xs ++ ys) ≡ option_or (first_of xs) (first_of ys)
first-append [] ys = refl
first-append (x ∷ xs) ys = refl

pub last-append : {A : Type 0} (o : Option A) (xs ys : List A) → last_from o (xs ++ ys) ≡ last_from (last_from o xs) ys
last-append o [] ys = refl
last-append o (x ∷ xs) ys = last-append (Some x) xs ys

pub last-some : {A : Type 0} (o : Option A) (x : A) (xs : List A) → last_from (Some x) xs ≡ option_or (last_from (Some x) xs) o
last-some o x [] = refl
last-some o x (y ∷ ys) = last-some o y ys

pub last-or : {A : Type 0} (o : Option A) (xs : List A) → last_from o xs ≡ option_or (last_of xs) o
last-or o [] = refl
last-or o (x ∷ xs) = last-some o x xs

pub filter-same : {A : Type 0} (t s : A → Bool) (xs : List A) → ((x : A) → t x ≡ s x) → filter t xs ≡ filter s xs
filter-same t s [] same = refl
filter-same t s (x ∷ xs) same = elim (cases_Bool (s x)) as (λ _. filter t (x ∷ xs) ≡ filter s (x ∷ xs)) [
  | inl k ↦ rw (same x, k) (ap (λ z. x ∷ z) (filter-same t s xs same))
  | inr k ↦ rw (same x, k) (filter-same t s xs same)
]

-- whether some passes where lists are joined by a map, and where a filter leaves some out
pub any-flat_map : {A B : Type 0} (t : B → Bool) (f : A → List B) (xs : List A) → list_any t (flat_map f xs) ≡ list_any (λ x. list_any t (f x)) xs
any-flat_map t f [] = refl
any-flat_map t f (x ∷ xs) = list_any-append t (f x) (flat_map f xs) ∙ ap (λ z. list_any t (f x) || z) (any-flat_map t f xs)

pub any-filter : {A : Type 0} (t p : A → Bool) (xs : List A) → list_any t xs ≡ false → list_any t (filter p xs) ≡ false
any-filter t p [] h = refl
any-filter t p (x ∷ xs) h =
    let w = or_parts (t x) (list_any t xs) h in
    elim (cases_Bool (p x)) as (λ _. list_any t (filter p (x ∷ xs)) ≡ false) [
      | inl k ↦ rw (k, w.0) (any-filter t p xs w.1)
      | inr k ↦ rw k (any-filter t p xs w.1)
    ]

-- the neighbours of the last that passes, and of the first
pub behind-at : {A : Type 0} (t : A → Bool) (front : List A) (x : A) (back : List A) → t x ≡ true → list_any t back ≡ false → behind_last t (front ++ x ∷ back) ≡ first_of back
behind-at t [] x back h none = rw (h, none) refl
behind-at t (y ∷ ys) x back h none = elim (cases_Bool (t y)) as (λ _. behind_last t (y ∷ ys ++ x ∷ back) ≡ first_of back) [
  | inl k ↦ rw (k, any-middle t ys x back h) (behind-at t ys x back h none)
  | inr k ↦ rw k (behind-at t ys x back h none)
]

pub before-at : {A : Type 0} (t : A → Bool) (o : Option A) (front : List A) (x : A) (back : List A) → t x ≡ true → list_any t front ≡ false → before_first_from o t (front ++ x ∷ back) ≡ last_from o front
before-at t o [] x back h none = rw h refl
before-at t o (y ∷ ys) x back h none =
    let w = or_parts (t y) (list_any t ys) none in
    rw w.0 (before-at t (Some y) ys x back h w.1)

-- a list at the first that passes a test
pub record Parts {A : Type 0} (t : A → Bool) (xs : List A) : Type 0 where
  pub front : List A
  pub one : A
  pub back : List A
  pub whole : xs ≡ front ++ one ∷ back
  pub passes : t one ≡ true
  pub none : list_any t front ≡ false

pub parted : {A : Type 0} (t : A → Bool) (xs : List A) → list_any t xs ≡ true → Parts t xs
parted t [] h = absurd (true≢false (sym h))
parted t (x ∷ xs) h = elim (cases_Bool (t x)) as (λ _. Parts t (x ∷ xs)) [
  | inl k ↦ record { front = []; one = x; back = xs; whole = refl; passes = k; none = refl }
  | inr k ↦
      let w = parted t xs (rw k at h) in
      record {
        front = x ∷ w.front;
        one = w.one;
        back = w.back;
        whole = ap (λ z. x ∷ z) w.whole;
        passes = w.passes;
        none = or_from (t x) (list_any t w.front) k w.none;
      }
]

-- the end and a neighbour among what a map makes of a list
pub end-map : {A B : Type 0} (back : Bool) (f : A → B) (xs : List A) → end_of back (map f xs) ≡ option_map f (end_of back xs)
end-map false f xs = first_of-map f xs
end-map true f xs = last_of-map f xs

pub neighbour-map : {A B : Type 0} (back : Bool) (f : A → B) (test : B → Bool) (xs : List A) → neighbour back test (map f xs) ≡ option_map f (neighbour back (λ x. test (f x)) xs)
neighbour-map false f test xs = behind_last-map f test xs
neighbour-map true f test xs = before_first-map f test xs
