-- The first object in order of keys: the earliest least one, by the firsts of sorted layers.
use Rattle.vc_base.proofs.Common.{◌≡◌, ℕ, Bool, true, false, not, List, [], ◌∷◌, ◌++◌, map, Some, None, filter, Option, sym, refl, ap, ◌∙◌, inl, inr, true≢false, cases_Bool, AllByRecursion}
use Rattle.vc_base.proofs.Quantifiers.{all-append, all-weaken}
use Rattle.vc_dtdisc.specs.Objects.{is_greater, is_match, placed_among, placed_each}
use Rattle.vc_dtdisc.specs.Rules.{Rules}
use Rattle.vc_dtdisc.specs.Finding.{first_of}
use Rattle.vc_paths.specs.Direction.{end_of}
use Rattle.vc_paths.specs.Ordered.{is_before, nearer}
use Rattle.vc_paths.specs.Visible.{Seen, is_hidden, seen_bytes, stacked_objects}
use Rattle.vc_paths.proofs.OrderLemmas.{AreOrdered, all_filter, any_none}
use Rattle.vc_paths.proofs.SortedLemmas.{AreSorted, IsUpto, filter_sorted, filter_stacked, itself, layers_filter}

-- the earliest least of a list, or the least so far
abbrev pub least : Rules → Option (Seen ℕ) → List (Seen ℕ) → Option (Seen ℕ)
least rules best [] = best
least rules best (x ∷ xs) = least rules (nearer false rules best (Some x)) xs

-- the nearest of the ends of layers, that of the uppermost of them
abbrev pub nearest_of : Bool → Rules → Option (Seen ℕ) → List (List (Seen ℕ)) → Option (Seen ℕ)
nearest_of back rules best [] = best
nearest_of back rules best (layer ∷ lower) = nearest_of back rules (nearer back rules best (end_of back layer)) lower

-- no object goes before the least so far
abbrev pub NoneBefore : Rules → Option (Seen ℕ) → List (Seen ℕ) → Type 0
NoneBefore rules best xs = AllByRecursion (λ y. is_before rules best y ≡ false) xs

first_placed : (rules : Rules) (o : Seen ℕ) (xs : List (Seen ℕ)) → first_of (placed_among seen_bytes rules o xs) ≡ nearer false rules (first_of xs) (Some o)
first_placed rules o [] = refl
first_placed rules o (x ∷ xs) = elim (cases_Bool (is_greater rules x.bytes o.bytes)) as (λ _. first_of (placed_among seen_bytes rules o (x ∷ xs)) ≡ nearer false rules (Some x) (Some o)) [
  | inl t ↦ rw t refl
  | inr t ↦ rw t refl
]

pub first_onto : (rules : Rules) (sorted xs : List (Seen ℕ)) → first_of (placed_each seen_bytes rules sorted xs) ≡ least rules (first_of sorted) xs
first_onto rules sorted [] = refl
first_onto rules sorted (x ∷ xs) = first_onto rules (placed_among seen_bytes rules x sorted) xs ∙ ap (λ z. least rules z xs) (first_placed rules x sorted)

least_append : (rules : Rules) (best : Option (Seen ℕ)) (xs ys : List (Seen ℕ)) → least rules best (xs ++ ys) ≡ least rules (least rules best xs) ys
least_append rules best [] ys = refl
least_append rules best (x ∷ xs) ys = least_append rules (nearer false rules best (Some x)) xs ys

least_kept : (rules : Rules) (best : Option (Seen ℕ)) (xs : List (Seen ℕ)) → NoneBefore rules best xs → least rules best xs ≡ best
least_kept rules best [] h = refl
least_kept rules best (x ∷ xs) h = rw h.0 (least_kept rules best xs h.1)

-- one that goes before is no match of one that doesn't
before_apart : (rules : Rules) → AreOrdered rules → (best : Option (Seen ℕ)) (x u : Seen ℕ) → is_before rules best x ≡ true → is_before rules best u ≡ false → is_match rules x.bytes u.bytes ≡ false
before_apart rules laws None x u h g = absurd (true≢false g)
before_apart rules laws (Some a) x u h g = elim (cases_Bool (is_match rules x.bytes u.bytes)) as (λ _. is_match rules x.bytes u.bytes ≡ false) [
  | inl m ↦ absurd (true≢false (sym h ∙ laws.upto a.bytes u.bytes x.bytes g (laws.left u.bytes x.bytes m)))
  | inr m ↦ m
]

-- nor does one go before that isn't less than one that doesn't
before_upto : (rules : Rules) → AreOrdered rules → (best : Option (Seen ℕ)) (x y : Seen ℕ) → is_before rules best x ≡ false → is_greater rules x.bytes y.bytes ≡ false → is_before rules best y ≡ false
before_upto rules laws None x y h g = absurd (true≢false h)
before_upto rules laws (Some a) x y h g = laws.upto a.bytes x.bytes y.bytes h g

-- one that goes before is less than those that don't
before_less : (rules : Rules) → AreOrdered rules → (best : Option (Seen ℕ)) (x u : Seen ℕ) → is_before rules best x ≡ true → is_before rules best u ≡ false → is_greater rules x.bytes u.bytes ≡ false
before_less rules laws None x u h g = absurd (true≢false g)
before_less rules laws (Some a) x u h g = laws.upto x.bytes a.bytes u.bytes (laws.one a.bytes x.bytes h) g

none_upto : (rules : Rules) → AreOrdered rules → (best : Option (Seen ℕ)) (x : Seen ℕ) (xs : List (Seen ℕ)) → is_before rules best x ≡ false → AllByRecursion (IsUpto rules x) xs → NoneBefore rules best xs
none_upto rules laws best x xs t s = all-weaken (IsUpto rules x) (λ y. is_before rules best y ≡ false) xs (λ y g. before_upto rules laws best x y t g) s

-- the least of a sorted layer, without what is hidden, is its first
least_layer : (rules : Rules) → AreOrdered rules → (best : Option (Seen ℕ)) (above layer : List (Seen ℕ)) → NoneBefore rules best above → AreSorted rules layer → least rules best (filter (λ o. not (is_hidden rules above o)) layer) ≡ nearer false rules best (first_of layer)
least_layer rules laws best above [] h s = refl
least_layer rules laws best above (x ∷ xs) h s =
    let p : Seen ℕ → Bool = λ o. not (is_hidden rules above o) in
    elim (cases_Bool (is_before rules best x)) as (λ _. least rules best (filter p (x ∷ xs)) ≡ nearer false rules best (Some x)) [
      | inl t ↦
          let seen : is_hidden rules above x ≡ false = any_none (λ u. is_match rules x.bytes u.bytes) above (all-weaken (λ u. is_before rules best u ≡ false) (λ u. is_match rules x.bytes u.bytes ≡ false) above (λ u g. before_apart rules laws best x u t g) h) in
          rw (seen, t) (least_kept rules (Some x) (filter p xs) (all_filter (IsUpto rules x) p xs s.0))
      | inr t ↦
          rw t (least_kept rules best (filter p (x ∷ xs)) (all_filter (λ y. is_before rules best y ≡ false) p (x ∷ xs) (t, none_upto rules laws best x xs t s.0)))
    ]

-- and no object of the layer and of those above goes before it
before_layer : (rules : Rules) → AreOrdered rules → (best : Option (Seen ℕ)) (above layer : List (Seen ℕ)) → NoneBefore rules best above → AreSorted rules layer → NoneBefore rules (nearer false rules best (first_of layer)) (above ++ layer)
before_layer rules laws best above [] h s = all-append (λ y. is_before rules best y ≡ false) above [] h tt
before_layer rules laws best above (x ∷ xs) h s = elim (cases_Bool (is_before rules best x)) as (λ _. NoneBefore rules (nearer false rules best (Some x)) (above ++ x ∷ xs)) [
  | inl t ↦
      let upper = all-weaken (λ u. is_before rules best u ≡ false) (IsUpto rules x) above (λ u g. before_less rules laws best x u t g) h in
      rw t (all-append (IsUpto rules x) above (x ∷ xs) upper (itself rules laws x, s.0))
  | inr t ↦
      rw t (all-append (λ y. is_before rules best y ≡ false) above (x ∷ xs) h (t, none_upto rules laws best x xs t s.0))
]

-- the least of the layers is the least of their firsts
least_stacked : (rules : Rules) → AreOrdered rules → (best : Option (Seen ℕ)) (above : List (Seen ℕ)) (layers : List (List (Seen ℕ))) → NoneBefore rules best above → AllByRecursion (AreSorted rules) layers → least rules best (stacked_objects rules above layers) ≡ nearest_of false rules best layers
least_stacked rules laws best above [] h s = refl
least_stacked rules laws best above (layer ∷ lower) h s =
    least_append rules best (filter (λ o. not (is_hidden rules above o)) layer) (stacked_objects rules (above ++ layer) lower)
    ∙ ap (λ z. least rules z (stacked_objects rules (above ++ layer) lower)) (least_layer rules laws best above layer h s.0)
    ∙ least_stacked rules laws (nearer false rules best (first_of layer)) (above ++ layer) lower (before_layer rules laws best above layer h s.0) s.1

-- the first in order of keys that passes a test which matching objects share is the least of those of the layers
pub first_passing : (rules : Rules) → AreOrdered rules → (p : Seen ℕ → Bool) (layers : List (List (Seen ℕ))) → ((o u : Seen ℕ) → is_match rules o.bytes u.bytes ≡ true → p o ≡ true → p u ≡ true) → AllByRecursion (AreSorted rules) layers → first_of (filter p (placed_each seen_bytes rules [] (stacked_objects rules [] layers))) ≡ nearest_of false rules None (map (filter p) layers)
first_passing rules laws p layers shared s =
    ap first_of (filter_sorted rules laws p [] (stacked_objects rules [] layers) tt ∙ ap (placed_each seen_bytes rules []) (filter_stacked rules p [] layers shared))
    ∙ first_onto rules [] (stacked_objects rules [] (map (filter p) layers))
    ∙ least_stacked rules laws None [] (map (filter p) layers) tt (layers_filter rules p layers s)
