-- The block that is found in a list.
use Rattle.vc_base.proofs.Common.{◌≡◌, ℕ, suc, Bool, true, false, cond, List, [], ◌∷◌, Some, None, All, find, refl, ap, ◌∙◌, ⊎_elim, arith, cases_Bool, All-head, All-tail, Block, address_of, HasBlock}

-- by one of two tests that say the same
pub find-same : {A : Type 0} (p q : A → Bool) (xs : List A) → All (λ x. p x ≡ q x) xs → find p xs ≡ find q xs
find-same p q [] h = refl
find-same {A = A} p q (x ∷ xs) h =
    let P : A → Type 0 = λ y. p y ≡ q y in
    ap (λ b. cond b (Some x) (find p xs)) (All-head P x xs h) ∙ ap (cond (q x) (Some x)) (find-same p q xs (All-tail P x xs h))

-- none passes
pub find-none : {A : Type 0} (p : A → Bool) (xs : List A) → All (λ x. p x ≡ false) xs → find p xs ≡ None
find-none p [] h = refl
find-none {A = A} p (x ∷ xs) h =
    let P : A → Type 0 = λ y. p y ≡ false in
    rw (All-head P x xs h) (find-none p xs (All-tail P x xs h))

-- a block that is found stands there
pub find-has : (p : Block ℕ → Bool) (bs : List (Block ℕ)) (b : Block ℕ) → find p bs ≡ Some b → HasBlock bs (address_of b)
find-has p [] b e = absurd (cc)
find-has p (c ∷ cs) b e =
    ⊎_elim
    (λ (t : p c ≡ true). let here : Some c ≡ Some b = rw t at e in let same : c ≡ b = cc in (0, omega arith, ap address_of same))
    (λ (t : p c ≡ false).
    let rest : find p cs ≡ Some b = rw t at e in
    let later = find-has p cs b rest in
    (suc later.0, omega arith, later.2))
    (cases_Bool (p c))
