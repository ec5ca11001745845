-- What holds of each item of a list, or of one.
use Rattle.vc_base.proofs.Common.{◌≡◌, Bool, true, ◌||◌, List, [], ◌∷◌, ◌++◌, map, All, refl, ap, ◌∙◌, subst, arith, or_right, get_or-map, length-map, AllByRecursion, list_any}

-- what holds of each item, where it gives another fact
pub all-weaken : {A : Type 0} (P Q : A → Type 0) (xs : List A) → ((x : A) → P x → Q x) → AllByRecursion P xs → AllByRecursion Q xs
all-weaken P Q [] f all = tt
all-weaken P Q (x ∷ xs) f all = (f x all.0, all-weaken P Q xs f all.1)

pub all-both : {A : Type 0} (P Q R : A → Type 0) (xs : List A) → ((x : A) → P x → Q x → R x) → AllByRecursion P xs → AllByRecursion Q xs → AllByRecursion R xs
all-both P Q R [] f one other = tt
all-both P Q R (x ∷ xs) f one other = (f x one.0 other.0, all-both P Q R xs f one.1 other.1)

-- in lists one after another
pub all-append : {A : Type 0} (P : A → Type 0) (xs ys : List A) → AllByRecursion P xs → AllByRecursion P ys → AllByRecursion P (xs ++ ys)
all-append P [] ys one other = other
all-append P (x ∷ xs) ys one other = (one.0, all-append P xs ys one.1 other)

pub all-push : {A : Type 0} (P : A → Type 0) (xs : List A) (x : A) → AllByRecursion P xs → P x → AllByRecursion P (xs ++ x ∷ [])
all-push P xs x all it = all-append P xs (x ∷ []) all (it, tt)

pub all-middle : {A : Type 0} (P : A → Type 0) (front : List A) (x : A) (back : List A) → AllByRecursion P (front ++ x ∷ back) → P x
all-middle P [] x back all = all.0
all-middle P (y ∷ ys) x back all = all-middle P ys x back all.1

-- in a mapped list
pub all-map : {A B : Type 0} (P : B → Type 0) (f : A → B) (xs : List A) → AllByRecursion (λ x. P (f x)) xs → AllByRecursion P (map f xs)
all-map P f [] all = tt
all-map P f (x ∷ xs) all = (all.0, all-map P f xs all.1)

pub all-unmap : {A B : Type 0} (P : B → Type 0) (f : A → B) (xs : List A) → AllByRecursion P (map f xs) → AllByRecursion (λ x. P (f x)) xs
all-unmap P f [] all = tt
all-unmap P f (x ∷ xs) all = (all.0, all-unmap P f xs all.1)

pub All-unmap : {A B : Type 0} (P : B → Type 0) (f : A → B) (xs : List A) → All P (map f xs) → All (λ x. P (f x)) xs
All-unmap P f xs all = λ k d lt. subst P (get_or-map f xs k d (f d) lt) (all k (f d) (omega (arith, lt, length-map xs f)))

-- an item that passes a test, in a mapped list, by another test, and between others
pub any-map : {A B : Type 0} (f : A → B) (test : B → Bool) (xs : List A) → list_any test (map f xs) ≡ list_any (λ x. test (f x)) xs
any-map f test [] = refl
any-map f test (x ∷ xs) = ap (λ t. test (f x) || t) (any-map f test xs)

pub any-agree : {A : Type 0} (p q : A → Bool) (xs : List A) → ((x : A) → p x ≡ q x) → list_any p xs ≡ list_any q xs
any-agree p q [] e = refl
any-agree p q (x ∷ xs) e = ap (λ t. t || list_any p xs) (e x) ∙ ap (λ t. q x || t) (any-agree p q xs e)

pub any-middle : {A : Type 0} (test : A → Bool) (front : List A) (x : A) (back : List A) → test x ≡ true → list_any test (front ++ x ∷ back) ≡ true
any-middle test [] x back e = rw e refl
any-middle test (y ∷ ys) x back e = or_right (test y) (list_any test (ys ++ x ∷ back)) (any-middle test ys x back e)
