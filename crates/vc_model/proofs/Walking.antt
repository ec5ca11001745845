-- A walk by the next item behind a place.
use Rattle.std.proofs.Common.{◌≡◌, Bool, true, false, cond, List, [], ◌∷◌, Some, None, filter, refl, sym, ap, ◌∙◌, ⊎_elim}
use Rattle.std.specs.Prelude.{⊤, find}
use Rattle.std.specs.List.{AllByRecursion}
use Rattle.std.proofs.lemmas.Bool.{cases_Bool}
use Rattle.std.proofs.lemmas.Option.{same_Some, none-some}

-- items of which each is behind those before it
abbrev pub IsRow : {K A : Type 0} → (K → A → Bool) → (A → K) → List A → Type 0
IsRow behind key [] = ⊤
IsRow behind key (x ∷ xs) = AllByRecursion (λ y. behind (key x) y ≡ true) xs × IsRow behind key xs

-- where nothing is found, nothing passes
pub filter-none : {A : Type 0} (test : A → Bool) (xs : List A) → find test xs ≡ None → filter test xs ≡ []
filter-none test [] e = refl
filter-none test (x ∷ xs) e =
    ⊎_elim
    (λ t. absurd (none-some x (sym e ∙ ap (λ v. cond v (Some x) (find test xs)) t)))
    (λ t. ap (λ v. cond v (x ∷ filter test xs) (filter test xs)) t ∙ filter-none test xs (sym (ap (λ v. cond v (Some x) (find test xs)) t) ∙ e))
    (cases_Bool (test x))

pub filter-all : {A : Type 0} (test : A → Bool) (xs : List A) → AllByRecursion (λ x. test x ≡ true) xs → filter test xs ≡ xs
filter-all test [] all = refl
filter-all test (x ∷ xs) all = ap (λ v. cond v (x ∷ filter test xs) (filter test xs)) all.0 ∙ ap (λ ys. x ∷ ys) (filter-all test xs all.1)

module _ {K A : Type 0} (behind : K → A → Bool) (key : A → K) (on : (k : K) (a b : A) → behind k a ≡ true → behind (key a) b ≡ true → behind k b ≡ true) (self : (a : A) → behind (key a) a ≡ false) (back : (k : K) (a b : A) → behind k a ≡ false → behind k b ≡ true → behind (key b) a ≡ false) where
  all-behind : (k : K) (a : A) (xs : List A) → behind k a ≡ true → AllByRecursion (λ y. behind (key a) y ≡ true) xs → AllByRecursion (λ y. behind k y ≡ true) xs
  all-behind k a [] e all = tt
  all-behind k a (x ∷ xs) e all = (on k a x e all.0, all-behind k a xs e all.1)

  find-passes : (k : K) (xs : List A) (x : A) → find (behind k) xs ≡ Some x → behind k x ≡ true
  find-passes k [] x e = absurd (none-some x e)
  find-passes k (y ∷ ys) x e =
      ⊎_elim
      (λ t. ap (behind k) (sym (same_Some y x (sym (ap (λ v. cond v (Some y) (find (behind k) ys)) t) ∙ e))) ∙ t)
      (λ t. find-passes k ys x (sym (ap (λ v. cond v (Some y) (find (behind k) ys)) t) ∙ e))
      (cases_Bool (behind k y))

  -- the items behind a place are the next one and those behind it
  pub filter-next : (k : K) (xs : List A) (x : A) → IsRow behind key xs → find (behind k) xs ≡ Some x → filter (behind k) xs ≡ x ∷ filter (behind (key x)) xs
  filter-next k [] x row e = absurd (none-some x e)
  filter-next k (y ∷ ys) x row e =
      ⊎_elim
      (λ t.
      let same : y ≡ x = same_Some y x (sym (ap (λ v. cond v (Some y) (find (behind k) ys)) t) ∙ e) in
      ap (λ v. cond v (y ∷ filter (behind k) ys) (filter (behind k) ys)) t
      ∙ (ap (λ zs. y ∷ zs) (filter-all (behind k) ys (all-behind k y ys t row.0))
      ∙ (sym (ap (λ zs. y ∷ zs) (ap (λ v. cond v (y ∷ filter (behind (key y)) ys) (filter (behind (key y)) ys)) (self y) ∙ filter-all (behind (key y)) ys row.0))
      ∙ ap (λ z. z ∷ filter (behind (key z)) (y ∷ ys)) same)))
      (λ t.
      let rest : find (behind k) ys ≡ Some x = sym (ap (λ v. cond v (Some y) (find (behind k) ys)) t) ∙ e in
      ap (λ v. cond v (y ∷ filter (behind k) ys) (filter (behind k) ys)) t
      ∙ (filter-next k ys x row.1 rest
      ∙ ap (λ zs. x ∷ zs) (sym (ap (λ v. cond v (y ∷ filter (behind (key x)) ys) (filter (behind (key x)) ys)) (back k y x t (find-passes k ys x rest))))))
      (cases_Bool (behind k y))
