-- What is true of each of a list, and of each two.
use Rattle.vc_base.proofs.Common.{◌≡◌, false, List, [], ◌∷◌, ◌++◌, map, All, filter, AllPairs, refl, arith, All-append, All-head, All-map, All-tail, AllPairs-cons}
use Rattle.vc_model.proofs.Pairs.{AllPairs-head, AllPairs-tail}
use Rattle.vc_seg.specs.Segment.{Bytes}

pub AllPairs-nil : {A : Type 0} (R : A → A → Type 0) → AllPairs R []
AllPairs-nil R = λ i j d lt within. absurd (omega arith)

pub AllPairs-map : {A B : Type 0} (R : B → B → Type 0) (f : A → B) (xs : List A) → AllPairs (λ x y. R (f x) (f y)) xs → AllPairs R (map f xs)
AllPairs-map {A = A} R f [] h = AllPairs-nil R
AllPairs-map {A = A} R f (x ∷ xs) h =
    let S : A → A → Type 0 = λ x y. R (f x) (f y) in
    AllPairs-cons R (f x) (map f xs) (All-map (R (f x)) f xs (AllPairs-head S x xs h)) (AllPairs-map R f xs (AllPairs-tail S x xs h))

pub AllPairs-append : {A : Type 0} (R : A → A → Type 0) (xs ys : List A) → AllPairs R xs → AllPairs R ys → All (λ x. All (R x) ys) xs → AllPairs R (xs ++ ys)
AllPairs-append R [] ys one two between = two
AllPairs-append {A = A} R (x ∷ xs) ys one two between =
    let Q : A → Type 0 = λ z. All (R z) ys in
    AllPairs-cons R x (xs ++ ys)
    (All-append (R x) xs ys (AllPairs-head R x xs one) (All-head Q x xs between))
    (AllPairs-append R xs ys (AllPairs-tail R x xs one) two (All-tail Q x xs between))

pub filter-none : (segs : List Bytes) → filter (λ (b : Bytes). false) segs ≡ []
filter-none [] = refl
filter-none (s ∷ ss) = filter-none ss
