-- Lists along which a guide's answers never fall.
use Rattle.vc_base.proofs.Common.{◌≡◌, ℕ, ◌≤◌, Bool, true, false, cond, List, [], ◌∷◌, ◌++◌, Some, None, Option, is_eq, is_gt, is_ge, Ordering, Less, Equal, Greater, sym, refl, ap, ◌∙◌, true≢false, arith, option_or, ordering_index}
use Rattle.std.proofs.lemmas.List.Folds.{find-append}
use Rattle.vc_splay.specs.Guide.{RisesFrom, first_at, least_at, order_with_name}

-- the answer for a name isn't below those before it
rises-at : (low : ℕ) (side : ℕ → Ordering) (xs : List ℕ) (n : ℕ) (ys : List ℕ) → RisesFrom low side (xs ++ n ∷ ys) → low ≤ ordering_index (side n)
rises-at low side [] n ys h = h.0
rises-at low side (x ∷ xs) n ys h = let k = rises-at (ordering_index (side x)) side xs n ys h.1 in let j = h.0 in omega arith

pub rises-front : (low : ℕ) (side : ℕ → Ordering) (xs ys : List ℕ) → RisesFrom low side (xs ++ ys) → RisesFrom low side xs
rises-front low side [] ys h = tt
rises-front low side (x ∷ xs) ys h = (h.0, rises-front (ordering_index (side x)) side xs ys h.1)

pub rises-behind : (low : ℕ) (side : ℕ → Ordering) (xs : List ℕ) (n : ℕ) (ys : List ℕ) → RisesFrom low side (xs ++ n ∷ ys) → RisesFrom (ordering_index (side n)) side ys
rises-behind low side [] n ys h = h.1
rises-behind low side (x ∷ xs) n ys h = rises-behind (ordering_index (side x)) side xs n ys h.1

low_less : (o : Ordering) → ordering_index o ≤ 0 → is_ge o ≡ false
low_less Less h = refl
low_less Equal h = absurd (omega arith)
low_less Greater h = absurd (omega arith)

less_low : (o : Ordering) → is_ge o ≡ false → ordering_index o ≤ 0
less_low Less h = omega arith
less_low Equal h = absurd (true≢false h)
less_low Greater h = absurd (true≢false h)

low_not_greater : (o : Ordering) → ordering_index o ≤ 1 → is_gt o ≡ false
low_not_greater Less h = refl
low_not_greater Equal h = refl
low_not_greater Greater h = absurd (omega arith)

not_greater_low : (o : Ordering) → is_gt o ≡ false → ordering_index o ≤ 1
not_greater_low Less h = omega arith
not_greater_low Equal h = omega arith
not_greater_low Greater h = absurd (true≢false h)

-- where a name is before what is sought, each one before it is
pub least-skip : (low : ℕ) (side : ℕ → Ordering) (xs : List ℕ) (n : ℕ) (ys : List ℕ) → RisesFrom low side (xs ++ n ∷ ys) → is_ge (side n) ≡ false → least_at side (xs ++ n ∷ ys) ≡ least_at side ys
least-skip low side [] n ys h e = ap (λ z. cond z (Some n) (least_at side ys)) e
least-skip low side (x ∷ xs) n ys h e =
    let k = rises-at (ordering_index (side x)) side xs n ys h.1 in
    let j = less_low (side n) e in
    ap (λ z. cond z (Some x) (least_at side (xs ++ n ∷ ys))) (low_less (side x) (omega arith)) ∙ least-skip (ordering_index (side x)) side xs n ys h.1 e

-- where one isn't, the first is that one or one before it
pub least-here : (side : ℕ → Ordering) (xs : List ℕ) (n : ℕ) (ys : List ℕ) → is_ge (side n) ≡ true → least_at side (xs ++ n ∷ ys) ≡ option_or (least_at side xs) (Some n)
least-here side xs n ys e = find-append (λ m. is_ge (side m)) xs (n ∷ ys) ∙ ap (λ z. option_or (least_at side xs) (cond z (Some n) (least_at side ys))) e

-- the first name that is what is sought is the first that isn't before it, where that one is
none_equal : (side : ℕ → Ordering) (xs : List ℕ) → RisesFrom 2 side xs → first_at side xs ≡ None
none_equal side [] h = refl
none_equal side (x ∷ xs) h =
    ap (λ z. cond z (Some x) (first_at side xs)) (high (side x) h.0) ∙ none_equal side xs (lower (ordering_index (side x)) side xs h.0 h.1)
  where
    high : (o : Ordering) → 2 ≤ ordering_index o → is_eq o ≡ false
    high Less k = absurd (omega arith)
    high Equal k = absurd (omega arith)
    high Greater k = refl

    lower : (low : ℕ) (side : ℕ → Ordering) (ys : List ℕ) → 2 ≤ low → RisesFrom low side ys → RisesFrom 2 side ys
    lower low side [] k r = tt
    lower low side (y ∷ ys) k r = (let j = r.0 in omega arith, r.1)

-- one name, where it is what is sought
unfoldable pub only_equal : (ℕ → Ordering) → Option ℕ → Option ℕ
only_equal side None = None
only_equal side (Some n) = cond (is_eq (side n)) (Some n) None

first_least : (low : ℕ) (side : ℕ → Ordering) (x : ℕ) (xs : List ℕ) (o : Ordering) → o ≡ side x → RisesFrom (ordering_index o) side xs → first_at side xs ≡ only_equal side (least_at side xs) → cond (is_eq o) (Some x) (first_at side xs) ≡ only_equal side (cond (is_ge o) (Some x) (least_at side xs))
unfolding only_equal
first_least low side x xs Less e h k = k
first_least low side x xs Equal e h k = sym (ap (λ z. cond (is_eq z) (Some x) None) (sym e))
first_least low side x xs Greater e h k = none_equal side xs h ∙ sym (ap (λ z. cond (is_eq z) (Some x) None) (sym e))

pub first_by_least : (low : ℕ) (side : ℕ → Ordering) (xs : List ℕ) → RisesFrom low side xs → first_at side xs ≡ only_equal side (least_at side xs)
unfolding only_equal
first_by_least low side [] h = refl
first_by_least low side (x ∷ xs) h = first_least low side x xs (side x) refl h.1 (first_by_least (ordering_index (side x)) side xs h.1)

-- a name comes before the first one that is behind what is sought
cond_before : (t : Bool) (at x : ℕ) (xs with_at both ys : List ℕ) → both ≡ with_at ++ ys → cond t (at ∷ x ∷ (xs ++ ys)) (x ∷ both) ≡ cond t (at ∷ x ∷ xs) (x ∷ with_at) ++ ys
cond_before true at x xs with_at both ys e = refl
cond_before false at x xs with_at both ys e = ap (λ z. x ∷ z) e

pub linked-before : (side : ℕ → Ordering) (at : ℕ) (xs : List ℕ) (n : ℕ) (ys : List ℕ) → is_gt (side n) ≡ true → order_with_name side at (xs ++ n ∷ ys) ≡ order_with_name side at xs ++ n ∷ ys
linked-before side at [] n ys e = ap (λ z. cond z (at ∷ n ∷ ys) (n ∷ order_with_name side at ys)) e
linked-before side at (x ∷ xs) n ys e = cond_before (is_gt (side x)) at x xs (order_with_name side at xs) (order_with_name side at (xs ++ n ∷ ys)) (n ∷ ys) (linked-before side at xs n ys e)

pub linked-behind : (low : ℕ) (side : ℕ → Ordering) (at : ℕ) (xs : List ℕ) (n : ℕ) (ys : List ℕ) → RisesFrom low side (xs ++ n ∷ ys) → is_gt (side n) ≡ false → order_with_name side at (xs ++ n ∷ ys) ≡ xs ++ n ∷ order_with_name side at ys
linked-behind low side at [] n ys h e = ap (λ z. cond z (at ∷ n ∷ ys) (n ∷ order_with_name side at ys)) e
linked-behind low side at (x ∷ xs) n ys h e =
    let k = rises-at (ordering_index (side x)) side xs n ys h.1 in
    let j = not_greater_low (side n) e in
    ap (λ z. cond z (at ∷ x ∷ (xs ++ n ∷ ys)) (x ∷ order_with_name side at (xs ++ n ∷ ys))) (low_not_greater (side x) (omega arith)) ∙ ap (λ z. x ∷ z) (linked-behind (ordering_index (side x)) side at xs n ys h.1 e)
