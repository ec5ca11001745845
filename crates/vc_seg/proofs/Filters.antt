-- What filters keep.
use Rattle.vc_base.proofs.Common.{◌≡◌, Bool, true, ◌&&◌, List, [], ◌∷◌, All, filter, refl, ap, ⊎_elim, cases_Bool, All-head, All-tail}

-- one filter after another
pub filter-filter : {A : Type 0} (p q : A → Bool) (xs : List A) → filter q (filter p xs) ≡ filter (λ x. p x && q x) xs
filter-filter p q [] = refl
filter-filter p q (x ∷ xs) =
    ⊎_elim
    (λ e. rw e (⊎_elim
    (λ t. rw t (ap (λ ys. x ∷ ys) (filter-filter p q xs)))
    (λ t. rw t (filter-filter p q xs))
    (cases_Bool (q x))))
    (λ e. rw e (filter-filter p q xs))
    (cases_Bool (p x))

-- where all pass, all are kept
pub filter-all : {A : Type 0} (p : A → Bool) (xs : List A) → All (λ x. p x ≡ true) xs → filter p xs ≡ xs
filter-all p [] h = refl
filter-all {A = A} p (x ∷ xs) h =
    let P : A → Type 0 = λ y. p y ≡ true in
    rw (All-head P x xs h) (ap (λ ys. x ∷ ys) (filter-all p xs (All-tail P x xs h)))

-- filters that agree on a list keep the same of it
pub filter-agree_on : {A : Type 0} (p q : A → Bool) (xs : List A) → All (λ x. p x ≡ q x) xs → filter p xs ≡ filter q xs
filter-agree_on p q [] h = refl
filter-agree_on {A = A} p q (x ∷ xs) h =
    let P : A → Type 0 = λ y. p y ≡ q y in
    let rest = filter-agree_on p q xs (All-tail P x xs h) in
    rw (All-head P x xs h)
    (⊎_elim
    (λ e. rw e (ap (λ ys. x ∷ ys) rest))
    (λ e. rw e rest)
    (cases_Bool (q x)))
