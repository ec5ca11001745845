-- Two tests on a list, of which the second is passed only where the first is: where both are passed by the first, or by the last, its neighbours are the same.
use Rattle.vc_base.proofs.Common.{◌≡◌, Bool, true, false, List, [], ◌∷◌, Some, None, filter, Option, find, sym, refl, ap, ◌∙◌, inl, inr, true≢false, cases_Bool, or_right, none-some, same_Some, AllByRecursion, list_any}
use Rattle.vc_dtdisc.specs.Finding.{before_first, before_first_from, behind_last, first_of, last_from, last_of}
use Rattle.vc_paths.proofs.StackedLemmas.{filter-none}

-- what passes the second passes the first
abbrev pub Implies : {A : Type 0} → (A → Bool) → (A → Bool) → A → Type 0
Implies t s x = s x ≡ true → t x ≡ true

other-false : {A : Type 0} (t s : A → Bool) (x : A) → Implies t s x → t x ≡ false → s x ≡ false
other-false t s x w h = elim (cases_Bool (s x)) as (λ _. s x ≡ false) [
  | inl k ↦ absurd (true≢false (sym (w k) ∙ h))
  | inr k ↦ k
]

other-none : {A : Type 0} (t s : A → Bool) (xs : List A) → AllByRecursion (Implies t s) xs → list_any t xs ≡ false → list_any s xs ≡ false
other-none t s [] w h = refl
other-none t s (x ∷ xs) w h = elim (cases_Bool (t x)) as (λ _. list_any s (x ∷ xs) ≡ false) [
  | inl k ↦ absurd (true≢false (rw k at h))
  | inr k ↦ rw (other-false t s x w.0 k) (other-none t s xs w.1 (rw k at h))
]

-- the last that passes is another one behind this one, or this one
behind-more : {A : Type 0} (t : A → Bool) (x : A) (xs : List A) → list_any t xs ≡ true → behind_last t (x ∷ xs) ≡ behind_last t xs
behind-more t x xs h = elim (cases_Bool (t x)) as (λ _. behind_last t (x ∷ xs) ≡ behind_last t xs) [
  | inl k ↦ rw (k, h) refl
  | inr k ↦ rw k refl
]

behind-this : {A : Type 0} (t : A → Bool) (x : A) (xs : List A) → t x ≡ true → list_any t xs ≡ false → behind_last t (x ∷ xs) ≡ first_of xs
behind-this t x xs k h = rw (k, h) refl

last-any : {A : Type 0} (t : A → Bool) (xs : List A) (o p : Option A) → list_any t xs ≡ true → last_from o (filter t xs) ≡ last_from p (filter t xs)
last-any t [] o p h = absurd (true≢false (sym h))
last-any t (x ∷ xs) o p h = elim (cases_Bool (t x)) as (λ _. last_from o (filter t (x ∷ xs)) ≡ last_from p (filter t (x ∷ xs))) [
  | inl k ↦ rw k refl
  | inr k ↦ rw k (last-any t xs o p (rw k at h))
]

last-more : {A : Type 0} (t : A → Bool) (x : A) (xs : List A) → list_any t xs ≡ true → last_of (filter t (x ∷ xs)) ≡ last_of (filter t xs)
last-more t x xs h = elim (cases_Bool (t x)) as (λ _. last_of (filter t (x ∷ xs)) ≡ last_of (filter t xs)) [
  | inl k ↦ rw k (last-any t xs (Some x) None h)
  | inr k ↦ rw k refl
]

last-this : {A : Type 0} (t : A → Bool) (x y : A) (xs : List A) → list_any t xs ≡ false → last_of (filter t (x ∷ xs)) ≡ Some y → (t x ≡ true) × (x ≡ y)
last-this t x y xs h e = elim (cases_Bool (t x)) as (λ _. (t x ≡ true) × (x ≡ y)) [
  | inl k ↦ (k, same_Some x y (rw (k, filter-none t xs h) at e))
  | inr k ↦ absurd (none-some y (rw (k, filter-none t xs h) at e))
]

-- it stands in the list, and its neighbour is the same
pub record Agree {A : Type 0} (s : A → Bool) (xs : List A) (one other : Option A) : Type 0 where
  pub same : one ≡ other
  pub there : list_any s xs ≡ true

pub last-same : {A : Type 0} (t s : A → Bool) (xs : List A) (y : A) → AllByRecursion (Implies t s) xs → last_of (filter t xs) ≡ Some y → s y ≡ true → Agree s xs (behind_last t xs) (behind_last s xs)
last-same t s [] y w e h = absurd (none-some y e)
last-same t s (x ∷ xs) y w e h = elim (cases_Bool (list_any t xs)) as (λ _. Agree s (x ∷ xs) (behind_last t (x ∷ xs)) (behind_last s (x ∷ xs))) [
  | inl more ↦
      let rest = last-same t s xs y w.1 (sym (last-more t x xs more) ∙ e) h in
      record {
        same = behind-more t x xs more ∙ rest.same ∙ sym (behind-more s x xs rest.there);
        there = or_right (s x) (list_any s xs) rest.there;
      }
  | inr none ↦
      let this = last-this t x y xs none e in
      let passes : s x ≡ true = ap s this.1 ∙ h in
      record {
        same = behind-this t x xs this.0 none ∙ sym (behind-this s x xs passes (other-none t s xs w.1 none));
        there = rw passes refl;
      }
]

first-from : {A : Type 0} (t s : A → Bool) (o : Option A) (xs : List A) (y : A) → AllByRecursion (Implies t s) xs → find t xs ≡ Some y → s y ≡ true → Agree s xs (before_first_from o t xs) (before_first_from o s xs)
first-from t s o [] y w e h = absurd (none-some y e)
first-from t s o (x ∷ xs) y w e h = elim (cases_Bool (t x)) as (λ _. Agree s (x ∷ xs) (before_first_from o t (x ∷ xs)) (before_first_from o s (x ∷ xs))) [
  | inl k ↦
      let passes : s x ≡ true = ap s (same_Some x y (rw k at e)) ∙ h in
      record {
        same = rw (k, passes) refl;
        there = rw passes refl;
      }
  | inr k ↦
      let other = other-false t s x w.0 k in
      let rest = first-from t s (Some x) xs y w.1 (rw k at e) h in
      record {
        same = rw (k, other) rest.same;
        there = rw other rest.there;
      }
]

pub first-same : {A : Type 0} (t s : A → Bool) (xs : List A) (y : A) → AllByRecursion (Implies t s) xs → find t xs ≡ Some y → s y ≡ true → Agree s xs (before_first t xs) (before_first s xs)
first-same t s xs y w e h = first-from t s None xs y w e h
