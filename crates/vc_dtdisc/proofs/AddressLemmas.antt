-- Where the items are addresses, what is done with a list of objects is what is done with a list of holders.
use Rattle.vc_base.proofs.Common.{◌≡◌, ℕ, Bool, List, [], ◌∷◌, map, if◌then◌else◌, ◌==◌, Some, None, Option, option_map, refl, ap, ◌∙◌}
use Rattle.vc_base.specs.Holders as holders
use Rattle.vc_dtdisc.specs.Finding.{before_first_from, first_of, last_from, last_of, put_before, put_behind}
use Rattle.vc_dtdisc.specs.Objects.{behind_object, without_object}

pub first_of-first_in : (xs : List ℕ) → first_of xs ≡ holders.first_in xs
first_of-first_in [] = refl
first_of-first_in (x ∷ xs) = refl

last_from-last_of : (x : ℕ) (xs : List ℕ) → last_from (Some x) xs ≡ Some (holders.last_of x xs)
last_from-last_of x [] = refl
last_from-last_of x (y ∷ ys) = last_from-last_of y ys

pub last_of-last_in : (xs : List ℕ) → last_of xs ≡ holders.last_in xs
last_of-last_in [] = refl
last_of-last_in (x ∷ xs) = last_from-last_of x xs

pub put_before-inserted_before : (mark at : ℕ) (xs : List ℕ) → put_before (λ x. x == mark) at xs ≡ holders.inserted_before mark at xs
put_before-inserted_before mark at [] = refl
put_before-inserted_before mark at (x ∷ xs) = ap (λ ys. if x == mark then at ∷ x ∷ xs else x ∷ ys) (put_before-inserted_before mark at xs)

pub put_behind-inserted_after : (mark at : ℕ) (xs : List ℕ) → put_behind (λ x. x == mark) at xs ≡ holders.inserted_after mark at xs
put_behind-inserted_after mark at [] = refl
put_behind-inserted_after mark at (x ∷ xs) = ap (λ ys. if x == mark then x ∷ at ∷ xs else x ∷ ys) (put_behind-inserted_after mark at xs)

pub without_object-without : (gone : ℕ) (xs : List ℕ) → without_object (λ a. a) gone xs ≡ holders.without gone xs
without_object-without gone [] = refl
without_object-without gone (x ∷ xs) = ap (λ ys. if x == gone then xs else x ∷ ys) (without_object-without gone xs)

pub behind_object-next_in : (mark : ℕ) (xs : List ℕ) → behind_object (λ a. a) mark xs ≡ holders.next_in mark xs
behind_object-next_in mark [] = refl
behind_object-next_in mark (x ∷ xs) =
    ap (λ o. if x == mark then o else behind_object (λ a. a) mark xs) (first_of-first_in xs)
    ∙ ap (λ o. if x == mark then holders.first_in xs else o) (behind_object-next_in mark xs)

pub before_first-previous_in : (before : Option ℕ) (mark : ℕ) (xs : List ℕ) → before_first_from before (λ x. x == mark) xs ≡ holders.previous_in before mark xs
before_first-previous_in before mark [] = refl
before_first-previous_in before mark (x ∷ xs) = ap (λ o. if x == mark then before else o) (before_first-previous_in (Some x) mark xs)
