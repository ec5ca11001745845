-- Those of a list that pass a test.
use Rattle.vc_base.proofs.Common.{◌≡◌, ℕ, ◌+◌, ◌≤◌, Bool, true, false, cond, ◌≢◌, List, [], ◌∷◌, ◌++◌, length, if◌then◌else◌, ◌==◌, Some, filter, find, sym, refl, ap, ◌∙◌, subst, inl, inr, true≢false, arith, eqb_tells, count_by-le-length, length-filter, AreDistinct, contains, without}
use Rattle.vc_base.specs.Holders.{last_of}
use Rattle.vc_base.proofs.Members.{apart-head, apart-tail, apart-cons, apart-rest, within-tail}

-- each of them is in the list, and passes
within_by : (t : Bool) (x : ℕ) (xs ys : List ℕ) (a : ℕ) → (contains ys a ≡ true → contains xs a ≡ true) → contains (cond t (x ∷ ys) ys) a ≡ true → contains (x ∷ xs) a ≡ true
within_by true x xs ys a f h = elim (eqb_tells x a) as (λ _. contains (x ∷ xs) a ≡ true) [
  | inl same ↦ rw same.0 refl
  | inr apart ↦ within-tail x xs a (f (rw apart.0 at h))
]
within_by false x xs ys a f h = within-tail x xs a (f h)

pub filter-within : (p : ℕ → Bool) (xs : List ℕ) (a : ℕ) → contains (filter p xs) a ≡ true → contains xs a ≡ true
filter-within p [] a h = h
filter-within p (x ∷ xs) a h = within_by (p x) x xs (filter p xs) a (filter-within p xs a) h

test_by : (p : ℕ → Bool) (t : Bool) (x : ℕ) (ys : List ℕ) (a : ℕ) → p x ≡ t → (contains ys a ≡ true → p a ≡ true) → contains (cond t (x ∷ ys) ys) a ≡ true → p a ≡ true
test_by p true x ys a e f h = elim (eqb_tells x a) as (λ _. p a ≡ true) [
  | inl same ↦ ap p (sym same.1) ∙ e
  | inr apart ↦ f (rw apart.0 at h)
]
test_by p false x ys a e f h = f h

pub filter-test : (p : ℕ → Bool) (xs : List ℕ) (a : ℕ) → contains (filter p xs) a ≡ true → p a ≡ true
filter-test p [] a h = absurd (true≢false (sym h))
filter-test p (x ∷ xs) a h = test_by p (p x) x (filter p xs) a refl (filter-test p xs a) h

-- no other is
less_by : (t : Bool) (x : ℕ) (ys : List ℕ) (a : ℕ) → x ≢ a → contains ys a ≡ false → contains (cond t (x ∷ ys) ys) a ≡ false
less_by true x ys a ne h = apart-cons x ys a ne h
less_by false x ys a ne h = h

pub filter-less : (p : ℕ → Bool) (xs : List ℕ) (a : ℕ) → contains xs a ≡ false → contains (filter p xs) a ≡ false
filter-less p [] a h = refl
filter-less p (x ∷ xs) a h = less_by (p x) x (filter p xs) a (apart-head x xs a h) (filter-less p xs a (apart-tail x xs a h))

refuses_by : (p : ℕ → Bool) (xs : List ℕ) (a : ℕ) (t : Bool) → contains (filter p xs) a ≡ t → p a ≡ false → contains (filter p xs) a ≡ false
refuses_by p xs a true e h = absurd (true≢false (sym (filter-test p xs a e) ∙ h))
refuses_by p xs a false e h = e

pub filter-refuses : (p : ℕ → Bool) (xs : List ℕ) (a : ℕ) → p a ≡ false → contains (filter p xs) a ≡ false
filter-refuses p xs a h = refuses_by p xs a (contains (filter p xs) a) refl h

-- each that passes is
passes_by : (p : ℕ → Bool) (t : Bool) (x : ℕ) (xs ys : List ℕ) (a : ℕ) → p x ≡ t → p a ≡ true → (contains xs a ≡ true → contains ys a ≡ true) → contains (x ∷ xs) a ≡ true → contains (cond t (x ∷ ys) ys) a ≡ true
passes_by p true x xs ys a e k f h = elim (eqb_tells x a) as (λ _. contains (x ∷ ys) a ≡ true) [
  | inl same ↦ rw same.0 refl
  | inr apart ↦ within-tail x ys a (f (rw apart.0 at h))
]
passes_by p false x xs ys a e k f h = elim (eqb_tells x a) as (λ _. contains ys a ≡ true) [
  | inl same ↦ absurd (true≢false (sym k ∙ (ap p (sym same.1) ∙ e)))
  | inr apart ↦ f (rw apart.0 at h)
]

pub filter-passes : (p : ℕ → Bool) (xs : List ℕ) (a : ℕ) → p a ≡ true → contains xs a ≡ true → contains (filter p xs) a ≡ true
filter-passes p [] a k h = h
filter-passes p (x ∷ xs) a k h = passes_by p (p x) x xs (filter p xs) a refl k (filter-passes p xs a k) h

-- none stands twice
distinct_by : (t : Bool) (x : ℕ) (ys : List ℕ) → contains ys x ≡ false → AreDistinct ys → AreDistinct (cond t (x ∷ ys) ys)
distinct_by true x ys h d = (h, d)
distinct_by false x ys h d = d

pub filter-distinct : (p : ℕ → Bool) (xs : List ℕ) → AreDistinct xs → AreDistinct (filter p xs)
filter-distinct p [] d = tt
filter-distinct p (x ∷ xs) d = distinct_by (p x) x (filter p xs) (filter-less p xs x d.0) (filter-distinct p xs d.1)

-- there are no more
pub filter-shorter : (p : ℕ → Bool) (xs : List ℕ) → length (filter p xs) ≤ length xs
filter-shorter p xs =
    let long = length-filter p xs in
    let few = count_by-le-length p xs in
    omega (arith, long, few)

-- without one that passes, and without one that doesn't
in_by : (p : ℕ → Bool) (t : Bool) (x : ℕ) (ys zs : List ℕ) (at : ℕ) → (x == at) ≡ false → ys ≡ without at zs → cond t (x ∷ ys) ys ≡ without at (cond t (x ∷ zs) zs)
in_by p true x ys zs at e h = rw e (ap (λ z. x ∷ z) h)
in_by p false x ys zs at e h = h

pub filter-without_in : (p : ℕ → Bool) (xs : List ℕ) (at : ℕ) → p at ≡ true → filter p (without at xs) ≡ without at (filter p xs)
filter-without_in p [] at h = refl
filter-without_in p (x ∷ xs) at h = elim (eqb_tells x at) as (λ _. filter p (without at (x ∷ xs)) ≡ without at (filter p (x ∷ xs))) [
  | inl same ↦
      let left : filter p (without at (x ∷ xs)) ≡ filter p xs = ap (λ t. filter p (if t then xs else x ∷ without at xs)) same.0 in
      let right : without at (filter p (x ∷ xs)) ≡ filter p xs =
      ap (λ t. without at (cond t (x ∷ filter p xs) (filter p xs))) (ap p same.1 ∙ h) ∙ ap (λ t. if t then filter p xs else x ∷ without at (filter p xs)) same.0 in
      left ∙ sym right
  | inr apart ↦
      ap (λ t. filter p (if t then xs else x ∷ without at xs)) apart.0
      ∙ in_by p (p x) x (filter p (without at xs)) (filter p xs) at apart.0 (filter-without_in p xs at h)
]

pub filter-without_out : (p : ℕ → Bool) (xs : List ℕ) (at : ℕ) → p at ≡ false → filter p (without at xs) ≡ filter p xs
filter-without_out p [] at h = refl
filter-without_out p (x ∷ xs) at h = elim (eqb_tells x at) as (λ _. filter p (without at (x ∷ xs)) ≡ filter p (x ∷ xs)) [
  | inl same ↦
      ap (λ t. filter p (if t then xs else x ∷ without at xs)) same.0
      ∙ sym (ap (λ t. cond t (x ∷ filter p xs) (filter p xs)) (ap p same.1 ∙ h))
  | inr apart ↦
      ap (λ t. filter p (if t then xs else x ∷ without at xs)) apart.0
      ∙ ap (λ z. cond (p x) (x ∷ z) z) (filter-without_out p xs at h)
]

-- the first that passes another test is the same, where whatever passes that one passes this
fails_by : (p test : ℕ → Bool) (x : ℕ) (t : Bool) → test x ≡ t → (test x ≡ true → p x ≡ true) → p x ≡ false → test x ≡ false
fails_by p test x true e f h = absurd (true≢false (sym (f e) ∙ h))
fails_by p test x false e f h = e

find_by : (p test : ℕ → Bool) (t : Bool) (x : ℕ) (xs ys : List ℕ) → p x ≡ t → (test x ≡ true → p x ≡ true) → find test ys ≡ find test xs → find test (cond t (x ∷ ys) ys) ≡ cond (test x) (Some x) (find test xs)
find_by p test true x xs ys e f h = ap (λ z. cond (test x) (Some x) z) h
find_by p test false x xs ys e f h = h ∙ sym (ap (λ t. cond t (Some x) (find test xs)) (fails_by p test x (test x) refl f e))

pub filter-find : (p test : ℕ → Bool) (xs : List ℕ) → ((a : ℕ) → test a ≡ true → p a ≡ true) → find test (filter p xs) ≡ find test xs
filter-find p test [] f = refl
filter-find p test (x ∷ xs) f = find_by p test (p x) x xs (filter p xs) refl (f x) (filter-find p test xs f)

-- what is in the rest of a list that holds none twice isn't in its front
pub front-apart : (xs ys : List ℕ) (a : ℕ) → AreDistinct (xs ++ ys) → contains ys a ≡ true → contains xs a ≡ false
front-apart [] ys a d h = refl
front-apart (x ∷ xs) ys a d h =
    let out : contains ys x ≡ false = apart-rest xs ys x d.0 in
    apart-cons x xs a (λ e. true≢false (sym h ∙ subst (λ z. contains ys z ≡ false) e out)) (front-apart xs ys a d.1 h)

-- fewer pass two tests than the one
both_by : (t s : Bool) (x : ℕ) (ps pqs : List ℕ) → length pqs ≤ length ps → length (cond t (cond s (x ∷ pqs) pqs) pqs) ≤ length (cond s (x ∷ ps) ps)
both_by true true x ps pqs h = omega (arith, h)
both_by true false x ps pqs h = h
both_by false true x ps pqs h = omega (arith, h)
both_by false false x ps pqs h = h

filter-cond : (p : ℕ → Bool) (t : Bool) (x : ℕ) (xs : List ℕ) → filter p (cond t (x ∷ xs) xs) ≡ cond t (cond (p x) (x ∷ filter p xs) (filter p xs)) (filter p xs)
filter-cond p true x xs = refl
filter-cond p false x xs = refl

pub filter-both : (p q : ℕ → Bool) (xs : List ℕ) → length (filter p (filter q xs)) ≤ length (filter p xs)
filter-both p q [] = omega arith
filter-both p q (x ∷ xs) =
    subst (λ z. length z ≤ length (filter p (x ∷ xs))) (sym (filter-cond p (q x) x (filter q xs)))
    (both_by (q x) (p x) x (filter p xs) (filter p (filter q xs)) (filter-both p q xs))

-- a step at the first of a list where it passes, and none else
more_by : (t : Bool) (y : ℕ) (ys : List ℕ) (now after most : ℕ) → after ≤ now + 1 → (t ≡ false → after ≡ now) → now + length (cond t (y ∷ ys) ys) ≤ most → after + length ys ≤ most
more_by true y ys now after most h e k = omega (arith, h, k)
more_by false y ys now after most h e k = let s = e refl in omega (arith, s, k)

pub filter-step : (p : ℕ → Bool) (y : ℕ) (ys : List ℕ) (now after most : ℕ) → after ≤ now + 1 → (p y ≡ false → after ≡ now) → now + length (filter p (y ∷ ys)) ≤ most → after + length (filter p ys) ≤ most
filter-step p y ys now after most h e k = more_by (p y) y (filter p ys) now after most h e k

-- the last of a list that passes is the last of those that do
last_by : (p : ℕ → Bool) (t : Bool) (x other : ℕ) (ys : List ℕ) (last : ℕ) → ((z : ℕ) → last_of z ys ≡ last) → last_of other (cond t (x ∷ ys) ys) ≡ last
last_by p true x other ys last f = f x
last_by p false x other ys last f = f other

pub filter-last : (p : ℕ → Bool) (x : ℕ) (xs : List ℕ) (other : ℕ) → p (last_of x xs) ≡ true → last_of other (filter p (x ∷ xs)) ≡ last_of x xs
filter-last p x [] other h = rw h refl
filter-last p x (y ∷ ys) other h = last_by p (p x) x other (filter p (y ∷ ys)) (last_of y ys) (λ z. filter-last p y ys z h)

-- those of a list that pass a test are those of the ones that pass another, where whatever passes that one passes this
twice_by : (p test : ℕ → Bool) (t : Bool) (x : ℕ) (xs ys : List ℕ) → p x ≡ t → (test x ≡ true → p x ≡ true) → filter test ys ≡ filter test xs → filter test (cond t (x ∷ ys) ys) ≡ cond (test x) (x ∷ filter test xs) (filter test xs)
twice_by p test true x xs ys e f h = ap (λ z. cond (test x) (x ∷ z) z) h
twice_by p test false x xs ys e f h = h ∙ sym (ap (λ t. cond t (x ∷ filter test xs) (filter test xs)) (fails_by p test x (test x) refl f e))

pub filter-twice : (p test : ℕ → Bool) (xs : List ℕ) → ((a : ℕ) → test a ≡ true → p a ≡ true) → filter test (filter p xs) ≡ filter test xs
filter-twice p test [] f = refl
filter-twice p test (x ∷ xs) f = twice_by p test (p x) x xs (filter p xs) refl (f x) (filter-twice p test xs f)
