-- The least of a list above a number, as a loop finds it.
use Rattle.vc_base.proofs.Common.{◌≡◌, ℕ, suc, true, false, cond, ltb, ◌⊎◌, List, [], ◌∷◌, map, Some, None, fold, Contains, filter, Option, option_map, sym, refl, ap, ◌∙◌, inl, inr, ⊎_elim, arith, cases_Bool, least_above, lesser_by}
use Rattle.vc_base.proofs.Lists.{filter-map}

-- the least of some numbers above one is one of them
lesser-either : (o : Option ℕ) (y : ℕ) (ys : List ℕ) (x : ℕ) → lesser_by (λ a. a) o y ≡ Some x → (o ≡ Some x) ⊎ Contains (y ∷ ys) x
lesser-either None y ys x u = let same : y ≡ x = cc in inr (0, omega arith, same)
lesser-either (Some l) y ys x u =
    ⊎_elim
    (λ (t : ltb y l ≡ true). let here : Some y ≡ Some x = rw t at u in let same : y ≡ x = cc in inr (0, omega arith, same))
    (λ (t : ltb y l ≡ false). let here : Some l ≡ Some x = rw t at u in inl here)
    (cases_Bool (ltb y l))

later : (y : ℕ) (ys : List ℕ) (x : ℕ) → Contains ys x → Contains (y ∷ ys) x
later y ys x u = let within = u.1 in (suc u.0, omega (arith, within), u.2)

least-among : (after : ℕ) (o : Option ℕ) (xs : List ℕ) (x : ℕ) → fold (lesser_by (λ a. a)) o (filter (λ a. ltb after a) xs) ≡ Some x → (o ≡ Some x) ⊎ Contains xs x
least-among after o [] x e = inl e
least-among after o (y ∷ ys) x e =
    ⊎_elim
    (λ (t : ltb after y ≡ true).
    let rest : fold (lesser_by (λ a. a)) (lesser_by (λ a. a) o y) (filter (λ a. ltb after a) ys) ≡ Some x = rw t at e in
    ⊎_elim (λ u. lesser-either o y ys x u) (λ u. inr (later y ys x u)) (least-among after (lesser_by (λ a. a) o y) ys x rest))
    (λ (t : ltb after y ≡ false).
    let rest : fold (lesser_by (λ a. a)) o (filter (λ a. ltb after a) ys) ≡ Some x = rw t at e in
    ⊎_elim (λ u. inl u) (λ u. inr (later y ys x u)) (least-among after o ys x rest))
    (cases_Bool (ltb after y))

pub least_above-among : (after : ℕ) (xs : List ℕ) (x : ℕ) → least_above (λ a. a) after xs ≡ Some x → Contains xs x
least_above-among after xs x e = ⊎_elim (λ u. absurd (cc)) (λ u. u) (least-among after None xs x e)

-- the least key of some items is that of the least item
lesser-key : {A : Type 0} (key : A → ℕ) (o : Option A) (x : A) → option_map key (lesser_by key o x) ≡ lesser_by (λ a. a) (option_map key o) (key x)
lesser-key key None x = refl
lesser-key key (Some l) x =
    elim (ltb (key x) (key l)) as (λ b. option_map key (cond b (Some x) (Some l)) ≡ cond b (Some (key x)) (Some (key l))) [ true ↦ refl | false ↦ refl ]

fold-key : {A : Type 0} (key : A → ℕ) (o : Option A) (xs : List A) → option_map key (fold (lesser_by key) o xs) ≡ fold (lesser_by (λ a. a)) (option_map key o) (map key xs)
fold-key key o [] = refl
fold-key key o (x ∷ xs) = fold-key key (lesser_by key o x) xs ∙ ap (λ (p : Option ℕ). fold (lesser_by (λ a. a)) p (map key xs)) (lesser-key key o x)

pub least_above-key : {A : Type 0} (key : A → ℕ) (after : ℕ) (xs : List A) → option_map key (least_above key after xs) ≡ least_above (λ a. a) after (map key xs)
least_above-key key after xs =
    fold-key key None (filter (λ x. ltb after (key x)) xs)
    ∙ ap (fold (lesser_by (λ a. a)) None) (sym (filter-map key (λ a. ltb after a) xs))
