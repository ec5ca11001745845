-- The last object in order of keys: the latest greatest one, by the lasts of sorted layers.
use Rattle.vc_base.proofs.Common.{◌≡◌, ℕ, Bool, true, false, not, ◌||◌, List, [], ◌∷◌, ◌++◌, map, if◌then◌else◌, Some, None, filter, Option, sym, refl, ap, ◌∙◌, subst, inl, inr, true≢false, cases_Bool, or_right, list_any-append, AllByRecursion, list_any}
use Rattle.vc_base.proofs.Quantifiers.{all-append, all-weaken}
use Rattle.vc_dtdisc.specs.Objects.{is_greater, is_match, placed_among, placed_each}
use Rattle.vc_dtdisc.specs.Rules.{Rules}
use Rattle.vc_dtdisc.specs.Finding.{last_from, last_of}
use Rattle.vc_paths.specs.Direction.{end_of}
use Rattle.vc_paths.specs.Ordered.{is_behind, nearer}
use Rattle.vc_paths.specs.Visible.{Seen, is_hidden, seen_bytes, stacked_objects}
use Rattle.vc_paths.proofs.LeastLemmas.{first_passing, nearest_of}
use Rattle.vc_paths.proofs.OrderLemmas.{AreOrdered, all_kept, any_more, any_none, up}
use Rattle.vc_paths.proofs.SortedLemmas.{AreSorted, IsUpto, filter_sorted, filter_stacked, itself, layers_filter, placed_sorted}

-- whether the greatest so far stays behind an object
abbrev pub stays : Rules → Option (Seen ℕ) → Seen ℕ → Bool
stays rules None y = false
stays rules (Some x) y = is_greater rules x.bytes y.bytes

-- the greater of the greatest so far and an object: the second where they match
abbrev pub later : Rules → Option (Seen ℕ) → Seen ℕ → Option (Seen ℕ)
later rules best y = if stays rules best y then best else Some y

-- the latest greatest of a list, or the greatest so far
abbrev pub greatest : Rules → Option (Seen ℕ) → List (Seen ℕ) → Option (Seen ℕ)
greatest rules best [] = best
greatest rules best (x ∷ xs) = greatest rules (later rules best x) xs

-- no object goes behind the greatest so far, which has a match among them
abbrev pub IsAmong : Rules → Option (Seen ℕ) → List (Seen ℕ) → Type 0
IsAmong rules None xs = Unit {0}
IsAmong rules (Some a) xs = is_hidden rules xs a ≡ true

abbrev pub IsTop : Rules → Option (Seen ℕ) → List (Seen ℕ) → Type 0
IsTop rules best xs = AllByRecursion (λ y. is_behind rules best y ≡ false) xs × IsAmong rules best xs

-- what stands before is never last
last_of_placed : (rules : Rules) (a b : Option (Seen ℕ)) (o : Seen ℕ) (xs : List (Seen ℕ)) → last_from a (placed_among seen_bytes rules o xs) ≡ last_from b (placed_among seen_bytes rules o xs)
last_of_placed rules a b o [] = refl
last_of_placed rules a b o (x ∷ xs) = elim (cases_Bool (is_greater rules x.bytes o.bytes)) as (λ _. last_from a (placed_among seen_bytes rules o (x ∷ xs)) ≡ last_from b (placed_among seen_bytes rules o (x ∷ xs))) [
  | inl t ↦ rw t refl
  | inr t ↦ rw t refl
]

-- what holds of each holds of the last
all_last : (P : Seen ℕ → Type 0) (x : Seen ℕ) (xs : List (Seen ℕ)) (b : Seen ℕ) → P x → AllByRecursion P xs → last_from (Some x) xs ≡ Some b → P b
all_last P x [] b h g e = subst P (cc) h
all_last P x (y ∷ ys) b h g e = all_last P y ys b g.0 g.1 e

-- where something is last, some object is
some_last : (x : Seen ℕ) (xs : List (Seen ℕ)) → (b : Seen ℕ) × (last_from (Some x) xs ≡ Some b)
some_last x [] = (x, refl)
some_last x (y ∷ ys) = some_last y ys

last_more : (rules : Rules) (x o : Seen ℕ) (xs : List (Seen ℕ)) → is_greater rules x.bytes o.bytes ≡ false → later rules (last_of xs) o ≡ later rules (last_of (x ∷ xs)) o
last_more rules x o [] t = rw t refl
last_more rules x o (y ∷ ys) t = refl

last_placed : (rules : Rules) → AreOrdered rules → (o : Seen ℕ) (xs : List (Seen ℕ)) → AreSorted rules xs → last_of (placed_among seen_bytes rules o xs) ≡ later rules (last_of xs) o
last_placed rules laws o [] s = refl
last_placed rules laws o (x ∷ xs) s = elim (cases_Bool (is_greater rules x.bytes o.bytes)) as (λ _. last_of (placed_among seen_bytes rules o (x ∷ xs)) ≡ later rules (last_of (x ∷ xs)) o) [
  | inl t ↦
      let some = some_last x xs in
      let far = all_last (λ y. is_greater rules y.bytes o.bytes ≡ true) x xs some.0 t (all-weaken (IsUpto rules x) (λ y. is_greater rules y.bytes o.bytes ≡ true) xs (λ y h. up rules x.bytes y.bytes o.bytes laws t h) s.0) some.1 in
      rw (t, some.1, far) refl
  | inr t ↦ rw t (last_of_placed rules (Some x) None o xs ∙ last_placed rules laws o xs s.1 ∙ last_more rules x o xs t)
]

pub last_onto : (rules : Rules) → AreOrdered rules → (sorted xs : List (Seen ℕ)) → AreSorted rules sorted → last_of (placed_each seen_bytes rules sorted xs) ≡ greatest rules (last_of sorted) xs
last_onto rules laws sorted [] s = refl
last_onto rules laws sorted (x ∷ xs) s = last_onto rules laws (placed_among seen_bytes rules x sorted) xs (placed_sorted rules laws x sorted s) ∙ ap (λ z. greatest rules z xs) (last_placed rules laws x sorted s)

greatest_append : (rules : Rules) (best : Option (Seen ℕ)) (xs ys : List (Seen ℕ)) → greatest rules best (xs ++ ys) ≡ greatest rules (greatest rules best xs) ys
greatest_append rules best [] ys = refl
greatest_append rules best (x ∷ xs) ys = greatest_append rules (later rules best x) xs ys

greatest_stays : (rules : Rules) (best : Option (Seen ℕ)) (xs : List (Seen ℕ)) → AllByRecursion (λ y. stays rules best y ≡ true) xs → greatest rules best xs ≡ best
greatest_stays rules best [] h = refl
greatest_stays rules best (x ∷ xs) h = rw h.0 (greatest_stays rules best xs h.1)

-- no object of a sorted list is greater than its last
upto_last : (rules : Rules) → AreOrdered rules → (x : Seen ℕ) (xs : List (Seen ℕ)) (b : Seen ℕ) → AreSorted rules (x ∷ xs) → last_from (Some x) xs ≡ Some b → AllByRecursion (λ y. is_greater rules y.bytes b.bytes ≡ false) (x ∷ xs)
upto_last rules laws x [] b s e = (all_last (IsUpto rules x) x [] b (itself rules laws x) s.0 e, tt)
upto_last rules laws x (y ∷ ys) b s e = (all_last (IsUpto rules x) y ys b s.0.0 s.0.1 e, upto_last rules laws y ys b s.1 e)

later_stays : (rules : Rules) (best : Option (Seen ℕ)) (x b : Seen ℕ) → stays rules best b ≡ false → is_greater rules x.bytes b.bytes ≡ false → stays rules (later rules best x) b ≡ false
later_stays rules best x b f less = elim (cases_Bool (stays rules best x)) as (λ _. stays rules (later rules best x) b ≡ false) [
  | inl t ↦ rw t f
  | inr t ↦ rw t less
]

-- the last of a sorted list that keeps it is the latest greatest
keeps_last : (rules : Rules) → AreOrdered rules → (p : Seen ℕ → Bool) (best : Option (Seen ℕ)) (x : Seen ℕ) (xs : List (Seen ℕ)) (b : Seen ℕ) → AreSorted rules (x ∷ xs) → last_from (Some x) xs ≡ Some b → p b ≡ true → stays rules best b ≡ false → greatest rules best (filter p (x ∷ xs)) ≡ Some b
keeps_last rules laws p best x [] b s e w f =
    let h : (p x ≡ true) × (stays rules best x ≡ false) = subst (λ (z : Seen ℕ). (p z ≡ true) × (stays rules best z ≡ false)) (cc) (w, f) in
    rw (h.0, h.1) e
keeps_last rules laws p best x (y ∷ ys) b s e w f = elim (cases_Bool (p x)) as (λ _. greatest rules best (filter p (x ∷ y ∷ ys)) ≡ Some b) [
  | inl t ↦
      let less = all_last (IsUpto rules x) y ys b s.0.0 s.0.1 e in
      rw t (keeps_last rules laws p (later rules best x) y ys b s.1 e w (later_stays rules best x b f less))
  | inr t ↦ rw t (keeps_last rules laws p best y ys b s.1 e w f)
]

-- one that goes behind is no match of one that doesn't
behind_apart : (rules : Rules) → AreOrdered rules → (best : Option (Seen ℕ)) (b u : Seen ℕ) → is_behind rules best b ≡ true → is_behind rules best u ≡ false → is_match rules b.bytes u.bytes ≡ false
behind_apart rules laws None b u h g = absurd (true≢false g)
behind_apart rules laws (Some a) b u h g = elim (cases_Bool (is_match rules b.bytes u.bytes)) as (λ _. is_match rules b.bytes u.bytes ≡ false) [
  | inl m ↦ absurd (true≢false (sym h ∙ laws.upto b.bytes u.bytes a.bytes (laws.right u.bytes b.bytes m) g))
  | inr m ↦ m
]

behind_stays : (rules : Rules) → AreOrdered rules → (best : Option (Seen ℕ)) (b : Seen ℕ) → is_behind rules best b ≡ true → stays rules best b ≡ false
behind_stays rules laws None b h = refl
behind_stays rules laws (Some a) b h = laws.one b.bytes a.bytes h

-- nor does one go behind that isn't greater than one that doesn't
behind_upto : (rules : Rules) → AreOrdered rules → (best : Option (Seen ℕ)) (y b : Seen ℕ) → is_behind rules best b ≡ false → is_greater rules y.bytes b.bytes ≡ false → is_behind rules best y ≡ false
behind_upto rules laws None y b h g = absurd (true≢false h)
behind_upto rules laws (Some a) y b h g = laws.upto y.bytes b.bytes a.bytes g h

-- one that goes behind is greater than those that don't
behind_less : (rules : Rules) → AreOrdered rules → (best : Option (Seen ℕ)) (b u : Seen ℕ) → is_behind rules best b ≡ true → is_behind rules best u ≡ false → is_greater rules u.bytes b.bytes ≡ false
behind_less rules laws None b u h g = absurd (true≢false g)
behind_less rules laws (Some a) b u h g = laws.upto u.bytes a.bytes b.bytes g (laws.one b.bytes a.bytes h)

-- what is seen and doesn't go behind the greatest so far leaves it behind
seen_stays : (rules : Rules) → AreOrdered rules → (best : Option (Seen ℕ)) (above : List (Seen ℕ)) (y : Seen ℕ) → IsAmong rules best above → is_behind rules best y ≡ false → not (is_hidden rules above y) ≡ true → stays rules best y ≡ true
seen_stays rules laws None above y i h n = absurd (true≢false h)
seen_stays rules laws (Some a) above y i h n = elim (cases_Bool (is_greater rules a.bytes y.bytes)) as (λ _. is_greater rules a.bytes y.bytes ≡ true) [
  | inl t ↦ t
  | inr t ↦
      let hidden : is_hidden rules above y ≡ true = any_more (λ u. is_match rules a.bytes u.bytes) (λ u. is_match rules y.bytes u.bytes) (λ u m.
      laws.tied u.bytes y.bytes
      (laws.upto u.bytes a.bytes y.bytes (laws.left u.bytes a.bytes m) t)
      (laws.upto y.bytes a.bytes u.bytes h (laws.right u.bytes a.bytes m))) above i in
      absurd (true≢false (sym n ∙ ap not hidden))
]

-- the greatest of a sorted layer, without what is hidden, is its last
greatest_layer : (rules : Rules) → AreOrdered rules → (best : Option (Seen ℕ)) (above layer : List (Seen ℕ)) → IsTop rules best above → AreSorted rules layer → greatest rules best (filter (λ o. not (is_hidden rules above o)) layer) ≡ nearer true rules best (last_of layer)
greatest_layer rules laws best above [] h s = refl
greatest_layer rules laws best above (x ∷ xs) h s =
    let p : Seen ℕ → Bool = λ o. not (is_hidden rules above o) in
    let some = some_last x xs in
    let b = some.0 in
    elim (cases_Bool (is_behind rules best b)) as (λ _. greatest rules best (filter p (x ∷ xs)) ≡ nearer true rules best (last_from (Some x) xs)) [
      | inl t ↦
          let seen : is_hidden rules above b ≡ false = any_none (λ u. is_match rules b.bytes u.bytes) above (all-weaken (λ u. is_behind rules best u ≡ false) (λ u. is_match rules b.bytes u.bytes ≡ false) above (λ u g. behind_apart rules laws best b u t g) h.0) in
          rw (some.1, t) (keeps_last rules laws p best x xs b s some.1 (ap not seen) (behind_stays rules laws best b t))
      | inr t ↦
          let less = all-weaken (λ y. is_greater rules y.bytes b.bytes ≡ false) (λ y. is_behind rules best y ≡ false) (x ∷ xs) (λ y g. behind_upto rules laws best y b t g) (upto_last rules laws x xs b s some.1) in
          rw (some.1, t) (greatest_stays rules best (filter p (x ∷ xs)) (all_kept (λ y. is_behind rules best y ≡ false) (λ y. stays rules best y ≡ true) p (λ y g n. seen_stays rules laws best above y h.1 g n) (x ∷ xs) less))
    ]

among_more : (rules : Rules) (best : Option (Seen ℕ)) (above layer : List (Seen ℕ)) → IsAmong rules best above → IsAmong rules best (above ++ layer)
among_more rules None above layer i = tt
among_more rules (Some a) above layer i = list_any-append (λ u. is_match rules a.bytes u.bytes) above layer ∙ ap (λ z. z || list_any (λ u. is_match rules a.bytes u.bytes) layer) i

-- the last of a layer is among it and those above it
last_among : (rules : Rules) → AreOrdered rules → (x : Seen ℕ) (xs : List (Seen ℕ)) (b : Seen ℕ) → last_from (Some x) xs ≡ Some b → list_any (λ u. is_match rules b.bytes u.bytes) (x ∷ xs) ≡ true
last_among rules laws x [] b e =
    let same : is_match rules b.bytes b.bytes ≡ true = laws.tied b.bytes b.bytes (itself rules laws b) (itself rules laws b) in
    let one : b ≡ x = cc in
    let h : is_match rules b.bytes x.bytes ≡ true = subst (λ (z : Seen ℕ). is_match rules b.bytes z.bytes ≡ true) one same in
    rw h refl
last_among rules laws x (y ∷ ys) b e = elim (cases_Bool (is_match rules b.bytes x.bytes)) as (λ _. list_any (λ u. is_match rules b.bytes u.bytes) (x ∷ y ∷ ys) ≡ true) [
  | inl t ↦ rw t refl
  | inr t ↦ rw t (last_among rules laws y ys b e)
]

-- and no object of the layer and of those above goes behind it
top_layer : (rules : Rules) → AreOrdered rules → (best : Option (Seen ℕ)) (above layer : List (Seen ℕ)) → IsTop rules best above → AreSorted rules layer → IsTop rules (nearer true rules best (last_of layer)) (above ++ layer)
top_layer rules laws best above [] h s = (all-append (λ y. is_behind rules best y ≡ false) above [] h.0 tt, among_more rules best above [] h.1)
top_layer rules laws best above (x ∷ xs) h s =
    let some = some_last x xs in
    let b = some.0 in
    let under = upto_last rules laws x xs b s some.1 in
    elim (cases_Bool (is_behind rules best b)) as (λ _. IsTop rules (nearer true rules best (last_from (Some x) xs)) (above ++ x ∷ xs)) [
      | inl t ↦
          let upper = all-weaken (λ u. is_behind rules best u ≡ false) (λ y. is_greater rules y.bytes b.bytes ≡ false) above (λ u g. behind_less rules laws best b u t g) h.0 in
          rw (some.1, t) (
            all-append (λ y. is_greater rules y.bytes b.bytes ≡ false) above (x ∷ xs) upper under,
            list_any-append (λ u. is_match rules b.bytes u.bytes) above (x ∷ xs) ∙ or_right (list_any (λ u. is_match rules b.bytes u.bytes) above) (list_any (λ u. is_match rules b.bytes u.bytes) (x ∷ xs)) (last_among rules laws x xs b some.1),
          )
      | inr t ↦
          let less = all-weaken (λ y. is_greater rules y.bytes b.bytes ≡ false) (λ y. is_behind rules best y ≡ false) (x ∷ xs) (λ y g. behind_upto rules laws best y b t g) under in
          rw (some.1, t) (all-append (λ y. is_behind rules best y ≡ false) above (x ∷ xs) h.0 less, among_more rules best above (x ∷ xs) h.1)
    ]

-- the greatest of the layers is the greatest of their lasts
greatest_stacked : (rules : Rules) → AreOrdered rules → (best : Option (Seen ℕ)) (above : List (Seen ℕ)) (layers : List (List (Seen ℕ))) → IsTop rules best above → AllByRecursion (AreSorted rules) layers → greatest rules best (stacked_objects rules above layers) ≡ nearest_of true rules best layers
greatest_stacked rules laws best above [] h s = refl
greatest_stacked rules laws best above (layer ∷ lower) h s =
    greatest_append rules best (filter (λ o. not (is_hidden rules above o)) layer) (stacked_objects rules (above ++ layer) lower)
    ∙ ap (λ z. greatest rules z (stacked_objects rules (above ++ layer) lower)) (greatest_layer rules laws best above layer h s.0)
    ∙ greatest_stacked rules laws (nearer true rules best (last_of layer)) (above ++ layer) lower (top_layer rules laws best above layer h s.0) s.1

-- the last in order of keys that passes a test which matching objects share is the greatest of those of the layers
last_passing : (rules : Rules) → AreOrdered rules → (p : Seen ℕ → Bool) (layers : List (List (Seen ℕ))) → ((o u : Seen ℕ) → is_match rules o.bytes u.bytes ≡ true → p o ≡ true → p u ≡ true) → AllByRecursion (AreSorted rules) layers → last_of (filter p (placed_each seen_bytes rules [] (stacked_objects rules [] layers))) ≡ nearest_of true rules None (map (filter p) layers)
last_passing rules laws p layers shared s =
    ap last_of (filter_sorted rules laws p [] (stacked_objects rules [] layers) tt ∙ ap (placed_each seen_bytes rules []) (filter_stacked rules p [] layers shared))
    ∙ last_onto rules laws [] (stacked_objects rules [] (map (filter p) layers)) tt
    ∙ greatest_stacked rules laws None [] (map (filter p) layers) (tt, tt) (layers_filter rules p layers s)

-- so either way
pub end_passing : (back : Bool) (rules : Rules) → AreOrdered rules → (p : Seen ℕ → Bool) (layers : List (List (Seen ℕ))) → ((o u : Seen ℕ) → is_match rules o.bytes u.bytes ≡ true → p o ≡ true → p u ≡ true) → AllByRecursion (AreSorted rules) layers → end_of back (filter p (placed_each seen_bytes rules [] (stacked_objects rules [] layers))) ≡ nearest_of back rules None (map (filter p) layers)
end_passing false rules laws p layers shared s = first_passing rules laws p layers shared s
end_passing true rules laws p layers shared s = last_passing rules laws p layers shared s
