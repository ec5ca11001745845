-- Tests over lists, and what is found in a list that changes at one index.
use Rattle.vc_base.proofs.Common.{◌≡◌, ℕ, zero, suc, Bool, true, false, cond, ◌||◌, List, [], ◌∷◌, ◌++◌, map, slice_get, slice_set, Some, None, remove, find, sym, refl, ap, ◌∙◌, ap₂, ⊎_elim, true≢false, cases_Bool, or_parts, none-some, same_Some, AllByRecursion, list_any}
use Rattle.vc_views.proofs.NamedEntries.{Stands}

-- two tests are equal where each follows from the other
pub same-test : (a b : Bool) → (a ≡ true → b ≡ true) → (b ≡ true → a ≡ true) → a ≡ b
same-test true b forth back = sym (forth refl)
same-test false true forth back = absurd (true≢false (sym (back refl)))
same-test false false forth back = refl

-- and where some item passes, one at an index does
any-here : {A : Type 0} (test : A → Bool) (y : A) (ys : List A) (t : Bool) → test y ≡ t → (t || list_any test ys) ≡ true
    → (list_any test ys ≡ true → (x : A) × Stands test ys x) → (x : A) × Stands test (y ∷ ys) x
any-here test y ys true is some behind = (y, (0, refl, is))
any-here test y ys false is some behind =
    let rest = behind some in
    (rest.0, (suc rest.1.0, rest.1.1, rest.1.2))

pub stands-any : {A : Type 0} (test : A → Bool) (xs : List A) → list_any test xs ≡ true → (x : A) × Stands test xs x
stands-any test [] some = absurd (true≢false (sym some))
stands-any test (y ∷ ys) some = any-here test y ys (test y) refl some (stands-any test ys)

-- what is found stays where one item stands behind them, where one that fails goes, and where it is another one that fails
pub found-push : {A : Type 0} (test : A → Bool) (xs : List A) (y x : A) → find test xs ≡ Some x → find test (xs ++ y ∷ []) ≡ Some x
found-push test [] y x found = absurd (none-some x found)
found-push test (z ∷ zs) y x found =
    ⊎_elim
    (λ e. ap (λ b. cond b (Some z) (find test (zs ++ y ∷ []))) e ∙ (sym (ap (λ b. cond b (Some z) (find test zs)) e) ∙ found))
    (λ e. ap (λ b. cond b (Some z) (find test (zs ++ y ∷ []))) e ∙ found-push test zs y x (sym (ap (λ b. cond b (Some z) (find test zs)) e) ∙ found))
    (cases_Bool (test z))

pub found-remove : {A : Type 0} (test : A → Bool) (xs : List A) (i : ℕ) (x : A) → slice_get xs i ≡ Some x → test x ≡ false → find test (remove xs i) ≡ find test xs
found-remove test [] i x at fails = absurd (none-some x at)
found-remove test (z ∷ zs) zero x at fails = sym (ap (λ b. cond b (Some z) (find test zs)) (ap test (same_Some z x at) ∙ fails))
found-remove test (z ∷ zs) (suc i) x at fails = ap (λ o. cond (test z) (Some z) o) (found-remove test zs i x at fails)

pub found-set : {A : Type 0} (test : A → Bool) (xs : List A) (i : ℕ) (x y : A) → slice_get xs i ≡ Some x → test x ≡ false → test y ≡ false → find test (slice_set xs i y) ≡ find test xs
found-set test [] i x y at fails fails' = absurd (none-some x at)
found-set test (z ∷ zs) zero x y at fails fails' =
    ap (λ b. cond b (Some y) (find test zs)) fails' ∙ sym (ap (λ b. cond b (Some z) (find test zs)) (ap test (same_Some z x at) ∙ fails))
found-set test (z ∷ zs) (suc i) x y at fails fails' = ap (λ o. cond (test z) (Some z) o) (found-set test zs i x y at fails fails')

-- what is so of each item is so without the one at an index, and with one more
pub all-remove : {A : Type 0} (P : A → Type 0) (xs : List A) (i : ℕ) → AllByRecursion P xs → AllByRecursion P (remove xs i)
all-remove P [] zero all = tt
all-remove P [] (suc i) all = tt
all-remove P (x ∷ xs) zero all = all.1
all-remove P (x ∷ xs) (suc i) all = (all.0, all-remove P xs i all.1)

-- an item with the same answer in its place leaves the answers
pub map-set_same : {A B : Type 0} (f : A → B) (xs : List A) (i : ℕ) (x y : A) → slice_get xs i ≡ Some x → f y ≡ f x → map f (slice_set xs i y) ≡ map f xs
map-set_same f [] i x y at same = refl
map-set_same f (z ∷ zs) zero x y at same = ap (λ b. b ∷ map f zs) (same ∙ ap f (sym (same_Some z x at)))
map-set_same f (z ∷ zs) (suc i) x y at same = ap (λ bs. f z ∷ bs) (map-set_same f zs i x y at same)

-- none passes where none is found, and none without the one at an index
pub none-found : {A : Type 0} (test : A → Bool) (xs : List A) → find test xs ≡ None → list_any test xs ≡ false
none-found test [] none = refl
none-found test (x ∷ xs) none =
    ⊎_elim
    (λ e. absurd (none-some x (sym none ∙ ap (λ b. cond b (Some x) (find test xs)) e)))
    (λ e. ap (λ b. b || list_any test xs) e ∙ none-found test xs (sym (ap (λ b. cond b (Some x) (find test xs)) e) ∙ none))
    (cases_Bool (test x))

pub any-remove : {A : Type 0} (test : A → Bool) (xs : List A) (i : ℕ) → list_any test xs ≡ false → list_any test (remove xs i) ≡ false
any-remove test [] zero none = refl
any-remove test [] (suc i) none = refl
any-remove test (x ∷ xs) zero none = (or_parts (test x) (list_any test xs) none).1
any-remove test (x ∷ xs) (suc i) none =
    let parts = or_parts (test x) (list_any test xs) none in
    ap (λ b. b || list_any test (remove xs i)) parts.0 ∙ any-remove test xs i parts.1

-- what each item tells is the same where it follows from what is the same of them, or differs at one index in what doesn't tell it
module _ {A B C : Type 0} (g : B → C) (h : A → C) where
  told-by : (f : A → B) → ((x : A) → g (f x) ≡ h x) → (xs : List A) → map g (map f xs) ≡ map h xs
  told-by f tells [] = refl
  told-by f tells (x ∷ xs) = ap₂ (λ y ys. y ∷ ys) (tells x) (told-by f tells xs)

  pub told-kept : (old new : A → B) → ((x : A) → g (old x) ≡ h x) → ((x : A) → g (new x) ≡ h x)
      → (xs ys : List A) → map new ys ≡ map old xs → map h ys ≡ map h xs
  told-kept old new tells tells' xs ys same = sym (told-by new tells' ys) ∙ ap (map g) same ∙ told-by old tells xs

  pub told-set : (old new : A → B) → ((x : A) → g (old x) ≡ h x) → ((x : A) → g (new x) ≡ h x)
      → (xs ys : List A) (i : ℕ) (b c : B) → slice_get (map old xs) i ≡ Some b → g c ≡ g b → map new ys ≡ slice_set (map old xs) i c → map h ys ≡ map h xs
  told-set old new tells tells' xs ys i b c at same set =
      sym (told-by new tells' ys) ∙ ap (map g) set ∙ map-set_same g (map old xs) i b c at same ∙ told-by old tells xs
