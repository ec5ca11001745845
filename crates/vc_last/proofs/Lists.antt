-- Lists by their last item.
use Rattle.vc_base.proofs.Common.{◌≡◌, ℕ, ◌-◌, List, [], ◌∷◌, ◌++◌, map, length, get_or, slice_get, Some, None, All, Option, option_map, remove, AllPairs, refl, ap, ◌∙◌, subst, arith, All-cons, All-head, All-nil, All-tail, get_or_append_left, length_push, none-some, same_Some}
use Rattle.std.specs.List.{last_or}
use Rattle.vc_model.specs.Last.{last_of}
use Rattle.vc_model.proofs.Pairs.{AllPairs-head, AllPairs-tail}

pub All-front : {A : Type 0} (P : A → Type 0) (xs : List A) (x : A) → All P (xs ++ x ∷ []) → All P xs
All-front P xs x h = λ k d lt. subst P (get_or_append_left xs (x ∷ []) d k lt) (h k d (omega (arith, lt, length_push xs x)))

pub All-last : {A : Type 0} (P : A → Type 0) (xs : List A) (x : A) → All P (xs ++ x ∷ []) → P x
All-last P [] x h = All-head P x [] h
All-last P (y ∷ ys) x h = All-last P ys x (All-tail P y (ys ++ x ∷ []) h)

-- what holds of each two holds of each before the last, and the last
pub AllPairs-last : {A : Type 0} (R : A → A → Type 0) (xs : List A) (x : A) → AllPairs R (xs ++ x ∷ []) → All (λ y. R y x) xs
AllPairs-last {A = A} R [] x h = All-nil (λ (y : A). R y x)
AllPairs-last {A = A} R (y ∷ ys) x h =
    All-cons (λ (z : A). R z x) y ys (All-last (R y) ys x (AllPairs-head R y (ys ++ x ∷ []) h)) (AllPairs-last R ys x (AllPairs-tail R y (ys ++ x ∷ []) h))

pub AllPairs-front : {A : Type 0} (R : A → A → Type 0) (xs : List A) (x : A) → AllPairs R (xs ++ x ∷ []) → AllPairs R xs
AllPairs-front R xs x h =
    λ i j d lt within.
    let one = get_or_append_left xs (x ∷ []) d i (omega (arith, lt, within)) in
    let two = get_or_append_left xs (x ∷ []) d j within in
    subst (λ y. R y (get_or xs j d)) one (subst (R (get_or (xs ++ x ∷ []) i d)) two (h i j d lt (omega (arith, within, length_push xs x))))

-- a list with an item is a last one behind the others
pub snoc : {A : Type 0} (y : A) (ys : List A) → (front : List A) × (x : A) × (y ∷ ys ≡ front ++ x ∷ [])
snoc y [] = ([], y, refl)
snoc y (z ∷ zs) = let rest = snoc z zs in (y ∷ rest.0, rest.1, ap (λ ws. y ∷ ws) rest.2)

last_or-split : {A : Type 0} (y : A) (ys : List A) (x : A) → last_or (Some y) ys ≡ Some x → (front : List A) × (y ∷ ys ≡ front ++ x ∷ [])
last_or-split y [] x e = ([], ap (λ z. z ∷ []) (same_Some y x e))
last_or-split y (z ∷ zs) x e = let rest = last_or-split z zs x e in (y ∷ rest.0, ap (λ ws. y ∷ ws) rest.1)

-- a list with a last item is that behind the others
pub last_of-split : {A : Type 0} (xs : List A) (x : A) → last_of xs ≡ Some x → (front : List A) × (xs ≡ front ++ x ∷ [])
last_of-split [] x e = absurd (none-some x e)
last_of-split (y ∷ ys) x e = last_or-split y ys x e

slice_get-cons : {A : Type 0} (x : A) (xs : List A) → slice_get (x ∷ xs) (length xs) ≡ last_or (Some x) xs
slice_get-cons x [] = refl
slice_get-cons x (y ∷ ys) = slice_get-cons y ys

pub slice_get-last : {A : Type 0} (xs : List A) → slice_get xs (length xs - 1) ≡ last_of xs
slice_get-last [] = refl
slice_get-last (x ∷ xs) =
    let before : length (x ∷ xs) - 1 ≡ length xs = omega arith in
    ap (slice_get (x ∷ xs)) before ∙ slice_get-cons x xs

last_or-map : {A B : Type 0} (f : A → B) (o : Option A) (xs : List A) → last_or (option_map f o) (map f xs) ≡ option_map f (last_or o xs)
last_or-map f o [] = refl
last_or-map f o (x ∷ xs) = last_or-map f (Some x) xs

pub last_of-map : {A B : Type 0} (f : A → B) (xs : List A) → last_of (map f xs) ≡ option_map f (last_of xs)
last_of-map f xs = last_or-map f None xs

pub remove-last : {A : Type 0} (xs : List A) (x : A) → remove (xs ++ x ∷ []) (length xs) ≡ xs
remove-last [] x = refl
remove-last (y ∷ ys) x = ap (λ zs. y ∷ zs) (remove-last ys x)

pub get_or-last : {A : Type 0} (xs : List A) (x d : A) → get_or (xs ++ x ∷ []) (length xs) d ≡ x
get_or-last [] x d = refl
get_or-last (y ∷ ys) x d = get_or-last ys x d

last_or-push : {A : Type 0} (o : Option A) (xs : List A) (x : A) → last_or o (xs ++ x ∷ []) ≡ Some x
last_or-push o [] x = refl
last_or-push o (y ∷ ys) x = last_or-push (Some y) ys x

pub last_of-push : {A : Type 0} (xs : List A) (x : A) → last_of (xs ++ x ∷ []) ≡ Some x
last_of-push xs x = last_or-push None xs x

-- a pair of numbers by its parts
abbrev pub some_pair : ℕ → ℕ → Option (ℕ × ℕ)
some_pair m k = Some (m, k)

pub pair : (m n k l : ℕ) → m ≡ n → k ≡ l → some_pair m k ≡ some_pair n l
pair m n k l e f = λ i. some_pair (e i) (f i)
