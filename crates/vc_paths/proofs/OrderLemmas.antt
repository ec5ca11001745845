-- How objects stand to each other by their keys, and what holds of each of a list.
use Rattle.vc_base.proofs.Common.{◌≡◌, ℕ, Bool, true, false, List, [], ◌∷◌, filter, is_eq, is_gt, Ordering, Less, Equal, Greater, sym, refl, ap, ◌∙◌, inl, inr, true≢false, cases_Bool, IsTotalOrder, AllByRecursion, list_any, ordering_reverse}
use Rattle.std.proofs.lemmas.Cmp.{upto}
use Rattle.vc_base.proofs.Orders.{reversed}
use Rattle.vc_base.proofs.Quantifiers.{all-both}
use Rattle.vc_dtdisc.specs.Objects.{has_key, is_greater, is_match}
use Rattle.vc_dtdisc.specs.Rules.{Rules}

-- what the laws of an order say of the tests on objects
pub record AreOrdered (rules : Rules) : Type 0 where
  -- of two only one is greater
  pub one : (a b : List ℕ) → is_greater rules a b ≡ true → is_greater rules b a ≡ false
  pub upto : (a b c : List ℕ) → is_greater rules a b ≡ false → is_greater rules b c ≡ false → is_greater rules a c ≡ false
  -- none of two that match is greater, and two match if none is
  pub left : (a b : List ℕ) → is_match rules b a ≡ true → is_greater rules a b ≡ false
  pub right : (a b : List ℕ) → is_match rules b a ≡ true → is_greater rules b a ≡ false
  pub tied : (a b : List ℕ) → is_greater rules a b ≡ false → is_greater rules b a ≡ false → is_match rules b a ≡ true

eq_not_gt : (o : Ordering) → is_eq o ≡ true → is_gt o ≡ false
eq_not_gt Less e = refl
eq_not_gt Equal e = refl
eq_not_gt Greater e = absurd (true≢false (sym e))

eq_not_lt : (o : Ordering) → is_eq o ≡ true → is_gt (ordering_reverse o) ≡ false
eq_not_lt Less e = absurd (true≢false (sym e))
eq_not_lt Equal e = refl
eq_not_lt Greater e = refl

neither : (o : Ordering) → is_gt o ≡ false → is_gt (ordering_reverse o) ≡ false → is_eq o ≡ true
neither Less e f = absurd (true≢false f)
neither Equal e f = refl
neither Greater e f = absurd (true≢false e)

pub ordered : (rules : Rules) → IsTotalOrder rules.compare → AreOrdered rules
ordered rules order = record {
  one = λ a b h. ap is_gt (order.antisymm (rules.key b) (rules.key a)) ∙ reversed (rules.compare (rules.key a) (rules.key b)) h;
  upto = λ a b c. upto order (rules.key a) (rules.key b) (rules.key c);
  left = λ a b. eq_not_gt (rules.compare (rules.key a) (rules.key b));
  right = λ a b h. ap is_gt (order.antisymm (rules.key b) (rules.key a)) ∙ eq_not_lt (rules.compare (rules.key a) (rules.key b)) h;
  tied = λ a b h g. neither (rules.compare (rules.key a) (rules.key b)) h (ap is_gt (sym (order.antisymm (rules.key b) (rules.key a))) ∙ g);
}

-- above one that is greater is none that isn't, and below one that isn't greater none that is
pub up : (rules : Rules) (x y o : List ℕ) → AreOrdered rules → is_greater rules x o ≡ true → is_greater rules x y ≡ false → is_greater rules y o ≡ true
up rules x y o laws h g = elim (cases_Bool (is_greater rules y o)) as (λ _. is_greater rules y o ≡ true) [
  | inl t ↦ t
  | inr t ↦ absurd (true≢false (sym h ∙ laws.upto x y o g t))
]

pub down : (rules : Rules) (x y o : List ℕ) → AreOrdered rules → is_greater rules x o ≡ true → is_greater rules y o ≡ false → is_greater rules x y ≡ true
down rules x y o laws h g = elim (cases_Bool (is_greater rules x y)) as (λ _. is_greater rules x y ≡ true) [
  | inl t ↦ t
  | inr t ↦ absurd (true≢false (sym h ∙ laws.upto x y o t g))
]

pub all_filter : {A : Type 0} (P : A → Type 0) (p : A → Bool) (xs : List A) → AllByRecursion P xs → AllByRecursion P (filter p xs)
all_filter P p [] h = tt
all_filter P p (x ∷ xs) h = elim (cases_Bool (p x)) as (λ _. AllByRecursion P (filter p (x ∷ xs))) [
  | inl t ↦ rw t (h.0, all_filter P p xs h.1)
  | inr t ↦ rw t (all_filter P p xs h.1)
]

pub filter_none : {A : Type 0} (p : A → Bool) (xs : List A) → AllByRecursion (λ x. p x ≡ false) xs → filter p xs ≡ []
filter_none p [] h = refl
filter_none p (x ∷ xs) h = rw h.0 (filter_none p xs h.1)

pub any_none : {A : Type 0} (p : A → Bool) (xs : List A) → AllByRecursion (λ x. p x ≡ false) xs → list_any p xs ≡ false
any_none p [] h = refl
any_none p (x ∷ xs) h = rw h.0 (any_none p xs h.1)

-- where one passes, and where none does
pub all_none : {A : Type 0} (p : A → Bool) (xs : List A) → list_any p xs ≡ false → AllByRecursion (λ x. p x ≡ false) xs
all_none p [] h = tt
all_none p (x ∷ xs) h = elim (cases_Bool (p x)) as (λ _. AllByRecursion (λ x. p x ≡ false) (x ∷ xs)) [
  | inl t ↦ absurd (true≢false (rw t at h))
  | inr t ↦ (t, all_none p xs (rw t at h))
]

-- one that passes shows by which
pub any_more : {A : Type 0} (p q : A → Bool) → ((x : A) → p x ≡ true → q x ≡ true) → (xs : List A) → list_any p xs ≡ true → list_any q xs ≡ true
any_more p q f [] h = absurd (true≢false (sym h))
any_more p q f (x ∷ xs) h = elim (cases_Bool (q x)) as (λ _. list_any q (x ∷ xs) ≡ true) [
  | inl t ↦ rw t refl
  | inr t ↦ elim (cases_Bool (p x)) as (λ _. list_any q (x ∷ xs) ≡ true) [
    | inl w ↦ absurd (true≢false (sym (f x w) ∙ t))
    | inr w ↦ rw t (any_more p q f xs (rw w at h))
  ]
]

-- those that a filter keeps pass, and have what they had
pub filter_kept : {A : Type 0} (p : A → Bool) (xs : List A) → AllByRecursion (λ x. p x ≡ true) (filter p xs)
filter_kept p [] = tt
filter_kept p (x ∷ xs) = elim (cases_Bool (p x)) as (λ _. AllByRecursion (λ y. p y ≡ true) (filter p (x ∷ xs))) [
  | inl t ↦ rw t (t, filter_kept p xs)
  | inr t ↦ rw t (filter_kept p xs)
]

pub all_kept : {A : Type 0} (P Q : A → Type 0) (p : A → Bool) → ((x : A) → P x → p x ≡ true → Q x) → (xs : List A) → AllByRecursion P xs → AllByRecursion Q (filter p xs)
all_kept P Q p f xs h = all-both P (λ x. p x ≡ true) Q (filter p xs) f (all_filter P p xs h) (filter_kept p xs)

-- of two that have one key none is greater
pub tied_keys : (rules : Rules) → IsTotalOrder rules.compare → (key a b : List ℕ) → has_key rules key a ≡ true → has_key rules key b ≡ true → is_greater rules a b ≡ false
tied_keys rules order key a b h g =
    upto order (rules.key a) key (rules.key b) (eq_not_gt (rules.compare (rules.key a) key) h)
    (ap is_gt (order.antisymm key (rules.key b)) ∙ eq_not_lt (rules.compare (rules.key b) key) g)
