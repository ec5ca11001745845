-- The last name that is before what is sought, in a list along which a guide's answers never fall.
use Rattle.vc_base.proofs.Common.{◌≡◌, ◌≢◌, ◌⊎◌, ℕ, ◌≤◌, Bool, true, false, cond, not, List, [], ◌∷◌, Some, None, Option, filter, is_some, is_eq, is_ge, is_gt, Ordering, Less, Equal, Greater, sym, refl, ap, ◌∙◌, inl, inr, subst, ⊎_elim, true≢false, arith, eq-eqb, ne_eqb, eqb_tells, none-some, same_Some, cases_Bool, ordering_index, contains, last_in, previous_in, some_address}
use Rattle.std.specs.Ordering.{is_lt}
use Rattle.vc_base.proofs.Lists.{find-passes}
use Rattle.vc_base.proofs.Members.{within-cases, within-head, within-tail}
use Rattle.vc_dtdisc.specs.Finding.{last_from, last_of}
use Rattle.vc_dtdisc.proofs.AddressLemmas.{last_of-last_in}
use Rattle.vc_splay.specs.Guide.{Rises, RisesFrom, least_at}
use Rattle.vc_dtord.specs.Seeking.{last_before, name_before, past}

-- what is behind all that is sought is sought along the same lists
past-rises : (o p : Ordering) → ordering_index o ≤ ordering_index p → ordering_index (past o) ≤ ordering_index (past p)
past-rises Less p h = omega arith
past-rises Equal p h = omega arith
past-rises Greater Less h = absurd (omega (arith, h))
past-rises Greater Equal h = absurd (omega (arith, h))
past-rises Greater Greater h = omega arith

past-rises_from : (low : Ordering) (side : ℕ → Ordering) (xs : List ℕ) → RisesFrom (ordering_index low) side xs → RisesFrom (ordering_index (past low)) (λ n. past (side n)) xs
past-rises_from low side [] h = tt
past-rises_from low side (x ∷ xs) h = (past-rises low (side x) h.0, past-rises_from (side x) side xs h.1)

pub Rises-past : (side : ℕ → Ordering) (xs : List ℕ) → Rises side xs → Rises (λ n. past (side n)) xs
Rises-past side xs h = past-rises_from Less side xs h

pub past-ge : (o : Ordering) → is_ge (past o) ≡ is_gt o
past-ge Less = refl
past-ge Equal = refl
past-ge Greater = refl

pub past-lt : (o : Ordering) → is_lt (past o) ≡ not (is_gt o)
past-lt Less = refl
past-lt Equal = refl
past-lt Greater = refl

ge-low : (o : Ordering) → is_ge o ≡ true → 1 ≤ ordering_index o
ge-low Less h = absurd (true≢false (sym h))
ge-low Equal h = omega arith
ge-low Greater h = omega arith

low-lt : (o : Ordering) → 1 ≤ ordering_index o → is_lt o ≡ false
low-lt Less h = absurd (omega (arith, h))
low-lt Equal h = refl
low-lt Greater h = refl

low-eq : (o : Ordering) → 1 ≤ ordering_index o → not (is_gt o) ≡ is_eq o
low-eq Less h = absurd (omega (arith, h))
low-eq Equal h = refl
low-eq Greater h = refl

not_ge-lt : (o : Ordering) → is_ge o ≡ false → is_lt o ≡ true
not_ge-lt Less h = refl
not_ge-lt Equal h = absurd (true≢false h)
not_ge-lt Greater h = absurd (true≢false h)

not_ge-gt : (o : Ordering) → is_ge o ≡ false → not (is_gt o) ≡ true
not_ge-gt Less h = refl
not_ge-gt Equal h = absurd (true≢false h)
not_ge-gt Greater h = absurd (true≢false h)

not_ge-eq : (o : Ordering) → is_ge o ≡ false → is_eq o ≡ false
not_ge-eq Less h = refl
not_ge-eq Equal h = absurd (true≢false h)
not_ge-eq Greater h = absurd (true≢false h)

-- what is in a list and isn't its first is in the rest
in_rest : (x m : ℕ) (xs : List ℕ) → (x ≡ m) ⊎ (contains xs m ≡ true) → x ≢ m → contains xs m ≡ true
in_rest x m xs (inl same) apart = absurd (apart same)
in_rest x m xs (inr rest) apart = rest

-- a filter's list, where the first passes and where it doesn't
filter-in : (test : ℕ → Bool) (x : ℕ) (xs : List ℕ) → test x ≡ true → filter test (x ∷ xs) ≡ x ∷ filter test xs
filter-in test x xs e = ap (λ z. cond z (x ∷ filter test xs) (filter test xs)) e

filter-out : (test : ℕ → Bool) (x : ℕ) (xs : List ℕ) → test x ≡ false → filter test (x ∷ xs) ≡ filter test xs
filter-out test x xs e = ap (λ z. cond z (x ∷ filter test xs) (filter test xs)) e

-- where one passes, there is a last one, whatever was there before
last_from-any : (test : ℕ → Bool) (a b : Option ℕ) (xs : List ℕ) (m : ℕ) → contains xs m ≡ true → test m ≡ true → last_from a (filter test xs) ≡ last_from b (filter test xs)
last_from-any test a b [] m w e = absurd (true≢false (sym w))
last_from-any test a b (x ∷ xs) m w e = elim (cases_Bool (test x)) as (λ _. last_from a (filter test (x ∷ xs)) ≡ last_from b (filter test (x ∷ xs))) [
  | inl k ↦ ap (last_from a) (filter-in test x xs k) ∙ sym (ap (last_from b) (filter-in test x xs k))
  | inr k ↦
      let rest = in_rest x m xs (within-cases x xs m w) (λ same. true≢false (sym e ∙ ap test (sym same) ∙ k)) in
      ap (last_from a) (filter-out test x xs k) ∙ last_from-any test a b xs m rest e ∙ sym (ap (last_from b) (filter-out test x xs k))
]

last_from-is : (x : ℕ) (xs : List ℕ) → is_some (last_from (Some x) xs) ≡ true
last_from-is x [] = refl
last_from-is x (y ∷ ys) = last_from-is y ys

pub last-is : (test : ℕ → Bool) (xs : List ℕ) (m : ℕ) → contains xs m ≡ true → test m ≡ true → is_some (last_of (filter test xs)) ≡ true
last-is test xs m w e = ap is_some (last_from-any test None (Some m) xs m w e) ∙ last_from-is m (filter test xs)

-- the last that passes is in the list
last_from-within : (test : ℕ → Bool) (other : Option ℕ) (xs : List ℕ) (n : ℕ) → last_from other (filter test xs) ≡ Some n → (other ≡ Some n) ⊎ (contains xs n ≡ true)
last_from-within test other [] n e = inl e
last_from-within test other (x ∷ xs) n e = elim (cases_Bool (test x)) as (λ _. (other ≡ Some n) ⊎ (contains (x ∷ xs) n ≡ true)) [
  | inl k ↦ ⊎_elim
      (λ (h : Some x ≡ Some n). inr (subst (λ z. contains (x ∷ xs) z ≡ true) (same_Some x n h) (within-head x xs)))
      (λ (h : contains xs n ≡ true). inr (within-tail x xs n h))
      (last_from-within test (Some x) xs n (sym (ap (last_from other) (filter-in test x xs k)) ∙ e))
  | inr k ↦ ⊎_elim
      (λ (h : other ≡ Some n). inl h)
      (λ (h : contains xs n ≡ true). inr (within-tail x xs n h))
      (last_from-within test other xs n (sym (ap (last_from other) (filter-out test x xs k)) ∙ e))
]

pub last-within : (test : ℕ → Bool) (xs : List ℕ) (n : ℕ) → last_of (filter test xs) ≡ Some n → contains xs n ≡ true
last-within test xs n e =
    ⊎_elim (λ (h : None ≡ Some n). absurd (none-some n h)) (λ (h : contains xs n ≡ true). h) (last_from-within test None xs n e)

module _ (side : ℕ → Ordering) where
  -- behind one that isn't before what is sought, none is
  none-before : (low : ℕ) (xs : List ℕ) → 1 ≤ low → RisesFrom low side xs → filter (λ n. is_lt (side n)) xs ≡ []
  none-before low [] k h = refl
  none-before low (x ∷ xs) k h =
      let j = h.0 in
      let here : 1 ≤ ordering_index (side x) = omega arith in
      filter-out (λ n. is_lt (side n)) x xs (low-lt (side x) here) ∙ none-before (ordering_index (side x)) xs here h.1

  -- where none isn't, all are
  all-before : (xs : List ℕ) → least_at side xs ≡ None → filter (λ n. is_lt (side n)) xs ≡ xs
  all-before [] e = refl
  all-before (x ∷ xs) e = elim (cases_Bool (is_ge (side x))) as (λ _. filter (λ n. is_lt (side n)) (x ∷ xs) ≡ x ∷ xs) [
    | inl k ↦ absurd (none-some x (sym e ∙ ap (λ z. cond z (Some x) (least_at side xs)) k))
    | inr k ↦
        filter-in (λ n. is_lt (side n)) x xs (not_ge-lt (side x) k)
        ∙ ap (λ ys. x ∷ ys) (all-before xs (sym (ap (λ z. cond z (Some x) (least_at side xs)) k) ∙ e))
  ]

  -- the one right before the first that isn't
  previous-least : (low : ℕ) (other : Option ℕ) (xs : List ℕ) (n : ℕ) → RisesFrom low side xs → least_at side xs ≡ Some n → previous_in other n xs ≡ last_from other (filter (λ m. is_lt (side m)) xs)
  previous-least low other [] n h e = absurd (none-some n e)
  previous-least low other (x ∷ xs) n h e = elim (cases_Bool (is_ge (side x))) as (λ _. previous_in other n (x ∷ xs) ≡ last_from other (filter (λ m. is_lt (side m)) (x ∷ xs))) [
    | inl k ↦
        let same : x ≡ n = same_Some x n (sym (ap (λ z. cond z (Some x) (least_at side xs)) k) ∙ e) in
        let low : 1 ≤ ordering_index (side x) = ge-low (side x) k in
        let none : filter (λ m. is_lt (side m)) (x ∷ xs) ≡ [] = filter-out (λ m. is_lt (side m)) x xs (low-lt (side x) low) ∙ none-before (ordering_index (side x)) xs low h.1 in
        ap (λ z. cond z other (previous_in (Some x) n xs)) (eq-eqb x n same) ∙ sym (ap (last_from other) none)
    | inr k ↦
        let rest : least_at side xs ≡ Some n = sym (ap (λ z. cond z (Some x) (least_at side xs)) k) ∙ e in
        let apart : x ≢ n = λ same. true≢false (sym (find-passes (λ m. is_ge (side m)) xs n rest) ∙ ap (λ m. is_ge (side m)) (sym same) ∙ k) in
        ap (λ z. cond z other (previous_in (Some x) n xs)) (ne_eqb x n apart)
        ∙ previous-least (ordering_index (side x)) (Some x) xs n h.1 rest
        ∙ sym (ap (last_from other) (filter-in (λ m. is_lt (side m)) x xs (not_ge-lt (side x) k)))
  ]

  pub before-least : (least : ℕ) (xs : List ℕ) → Rises side xs → some_address least ≡ least_at side xs → name_before least xs ≡ last_before side xs
  before-least least xs h e = elim (eqb_tells least 0) as (λ _. name_before least xs ≡ last_before side xs) [
    | inl none ↦
        let all = all-before xs (sym e ∙ ap (λ z. cond z None (Some least)) none.0) in
        ap (λ z. cond z (last_in xs) (previous_in None least xs)) none.0 ∙ sym (ap last_of all ∙ last_of-last_in xs)
    | inr some ↦
        ap (λ z. cond z (last_in xs) (previous_in None least xs)) some.0
        ∙ previous-least 0 None xs least h (sym e ∙ ap (λ z. cond z None (Some least)) some.0)
  ]

  -- the last that isn't behind what is sought is the last that is what is sought, where one is
  equal-not_gt : (low : ℕ) (xs : List ℕ) → 1 ≤ low → RisesFrom low side xs → filter (λ n. not (is_gt (side n))) xs ≡ filter (λ n. is_eq (side n)) xs
  equal-not_gt low [] k h = refl
  equal-not_gt low (x ∷ xs) k h =
      let j = h.0 in
      let here : 1 ≤ ordering_index (side x) = omega arith in
      ap (λ z. cond z (x ∷ filter (λ n. not (is_gt (side n))) xs) (filter (λ n. not (is_gt (side n))) xs)) (low-eq (side x) here)
      ∙ ap (λ ys. cond (is_eq (side x)) (x ∷ ys) ys) (equal-not_gt (ordering_index (side x)) xs here h.1)

  pub equal-last : (low : ℕ) (other : Option ℕ) (xs : List ℕ) (m : ℕ) → RisesFrom low side xs → contains xs m ≡ true → is_eq (side m) ≡ true
      → last_from other (filter (λ n. not (is_gt (side n))) xs) ≡ last_from other (filter (λ n. is_eq (side n)) xs)
  equal-last low other [] m h w e = absurd (true≢false (sym w))
  equal-last low other (x ∷ xs) m h w e = elim (cases_Bool (is_ge (side x))) as (λ _. last_from other (filter (λ n. not (is_gt (side n))) (x ∷ xs)) ≡ last_from other (filter (λ n. is_eq (side n)) (x ∷ xs))) [
    | inl k ↦ ap (last_from other) (equal-not_gt 1 (x ∷ xs) (omega arith) (ge-low (side x) k, h.1))
    | inr k ↦
        let rest : contains xs m ≡ true = in_rest x m xs (within-cases x xs m w) (λ same. true≢false (sym e ∙ ap (λ n. is_eq (side n)) (sym same) ∙ not_ge-eq (side x) k)) in
        ap (last_from other) (filter-in (λ n. not (is_gt (side n))) x xs (not_ge-gt (side x) k))
        ∙ equal-last (ordering_index (side x)) (Some x) xs m h.1 rest e
        ∙ last_from-any (λ n. is_eq (side n)) (Some x) other xs m rest e
        ∙ sym (ap (last_from other) (filter-out (λ n. is_eq (side n)) x xs (not_ge-eq (side x) k)))
  ]

-- what is found is an address where something is
pub some_address-is : (a : ℕ) (o : Option ℕ) → some_address a ≡ o → is_some o ≡ true → Some a ≡ o
some_address-is a o e some = elim (eqb_tells a 0) as (λ _. Some a ≡ o) [
  | inl none ↦ absurd (true≢false (sym some ∙ ap is_some (sym e ∙ ap (λ z. cond z None (Some a)) none.0)))
  | inr apart ↦ sym (ap (λ z. cond z None (Some a)) apart.0) ∙ e
]

pub some_address-some : (a : ℕ) → a ≢ 0 → some_address a ≡ Some a
some_address-some a some = ap (λ z. cond z None (Some a)) (ne_eqb a 0 some)
