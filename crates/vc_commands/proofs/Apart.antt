-- No two objects that are seen through a dictionary stand at one place.
use Rattle.vc_base.proofs.Common.{◌≡◌, ℕ, Bool, true, false, cond, not, ◌||◌, List, [], ◌∷◌, ◌++◌, map, ◌==◌, filter, sym, refl, ap, ◌∙◌, subst, inl, inr, true≢false, eq-eqb, eqb-true, and_parts, cases_Bool, or_from, or_parts, list_any-append, AllByRecursion, list_any, AreDistinct, contains, is_ordered}
use Rattle.vc_dtdisc.specs.Objects.{Object, is_greater, placed_among, placed_each}
use Rattle.vc_dtdisc.specs.Rules.{Rules}
use Rattle.vc_paths.specs.Layers.{AreLayers, Layered}
use Rattle.vc_paths.specs.Links.{ArePaths, Links, path}
use Rattle.vc_paths.specs.Path.{IsAlike, IsPath, is_at, objects_of, place_of, seen_in, visible_of}
use Rattle.vc_paths.specs.Visible.{Seen, is_hidden, seen_bytes, stacked_objects}
use Rattle.vc_paths.proofs.EndLemmas.{any-filter}
use Rattle.vc_paths.proofs.PathLemmas.{path-distinct}
use Rattle.vc_paths.proofs.SortedLemmas.{all_stacked}

-- each stands at a place of its own
abbrev pub AreApart : List (Seen ℕ) → Type 0
AreApart [] = Unit {0}
AreApart (x ∷ xs) = (list_any (is_at (place_of x)) xs ≡ false) × AreApart xs

pub apart-behind : (front : List (Seen ℕ)) (x : Seen ℕ) (back : List (Seen ℕ)) → AreApart (front ++ x ∷ back) → list_any (is_at (place_of x)) back ≡ false
apart-behind [] x back h = h.0
apart-behind (y ∷ ys) x back h = apart-behind ys x back h.1

-- one isn't at the place of another where that isn't at its own
turned : (x y : Seen ℕ) → is_at (place_of x) y ≡ false → is_at (place_of y) x ≡ false
turned x y h = elim (cases_Bool (is_at (place_of y) x)) as (λ _. is_at (place_of y) x ≡ false) [
  | inl t ↦
      let parts = and_parts (x.dict == y.dict) (x.at == y.at) t in
      let dict = eq-eqb y.dict x.dict (sym (eqb-true x.dict y.dict parts.0)) in
      let at = eq-eqb y.at x.at (sym (eqb-true x.at y.at parts.1)) in
      let same : is_at (place_of x) y ≡ true = rw (dict, at) refl in
      absurd (true≢false (sym same ∙ h))
  | inr t ↦ t
]

-- in one layer
at-same : (e a : ℕ) (o : Object) → is_at (e, a) (seen_in e o) ≡ (o.at == a)
at-same e a o = rw (eq-eqb e e refl) refl

any-same : (e a : ℕ) (os : List Object) → list_any (is_at (e, a)) (map (seen_in e) os) ≡ contains (map (λ o. o.at) os) a
any-same e a [] = refl
any-same e a (o ∷ os) =
    ap (λ z. z || list_any (is_at (e, a)) (map (seen_in e) os)) (at-same e a o)
    ∙ ap (λ z. (o.at == a) || z) (any-same e a os)

layer-apart : (e : ℕ) (os : List Object) → AreDistinct (map (λ o. o.at) os) → AreApart (map (seen_in e) os)
layer-apart e [] d = tt
layer-apart e (o ∷ os) d = (any-same e o.at os ∙ d.0, layer-apart e os d.1)

filter-apart : (p : Seen ℕ → Bool) (xs : List (Seen ℕ)) → AreApart xs → AreApart (filter p xs)
filter-apart p [] h = tt
filter-apart p (x ∷ xs) h = elim (cases_Bool (p x)) as (λ _. AreApart (filter p (x ∷ xs))) [
  | inl t ↦ rw t (any-filter (is_at (place_of x)) p xs h.0, filter-apart p xs h.1)
  | inr t ↦ rw t (filter-apart p xs h.1)
]

-- in two dictionaries
abbrev IsIn : ℕ → Seen ℕ → Type 0
IsIn e o = (o.dict == e) ≡ true

abbrev IsElsewhere : ℕ → Seen ℕ → Type 0
IsElsewhere e o = (o.dict == e) ≡ false

none-elsewhere : (e a : ℕ) (ys : List (Seen ℕ)) → AllByRecursion (IsElsewhere e) ys → list_any (is_at (e, a)) ys ≡ false
none-elsewhere e a [] h = refl
none-elsewhere e a (y ∷ ys) h = rw h.0 (none-elsewhere e a ys h.1)

append-apart : (e : ℕ) (xs ys : List (Seen ℕ)) → AllByRecursion (IsIn e) xs → AllByRecursion (IsElsewhere e) ys → AreApart xs → AreApart ys → AreApart (xs ++ ys)
append-apart e [] ys i o h g = g
append-apart e (x ∷ xs) ys i o h g =
    let test = is_at (place_of x) in
    let none = subst (λ z. list_any (is_at (z, x.at)) ys ≡ false) (sym (eqb-true x.dict e i.0)) (none-elsewhere e x.at ys o) in (
      list_any-append test xs ys ∙ or_from (list_any test xs) (list_any test ys) h.0 none,
      append-apart e xs ys i.1 o h.1 g,
    )

layer-in : (e : ℕ) (os : List Object) → AllByRecursion (IsIn e) (map (seen_in e) os)
layer-in e [] = tt
layer-in e (o ∷ os) = (eq-eqb e e refl, layer-in e os)

filter-in : (e : ℕ) (p : Seen ℕ → Bool) (xs : List (Seen ℕ)) → AllByRecursion (IsIn e) xs → AllByRecursion (IsIn e) (filter p xs)
filter-in e p [] h = tt
filter-in e p (x ∷ xs) h = elim (cases_Bool (p x)) as (λ _. AllByRecursion (IsIn e) (filter p (x ∷ xs))) [
  | inl t ↦ rw t (h.0, filter-in e p xs h.1)
  | inr t ↦ rw t (filter-in e p xs h.1)
]

layer-elsewhere : (e f : ℕ) (os : List Object) → (f == e) ≡ false → AllByRecursion (IsElsewhere e) (map (seen_in f) os)
layer-elsewhere e f [] h = tt
layer-elsewhere e f (o ∷ os) h = (h, layer-elsewhere e f os h)

layers-elsewhere : (all : Layered) (e : ℕ) (fs : List ℕ) → contains fs e ≡ false → AllByRecursion (AllByRecursion (IsElsewhere e)) (map (objects_of all) fs)
layers-elsewhere all e [] h = tt
layers-elsewhere all e (f ∷ fs) h =
    let w = or_parts (f == e) (contains fs e) h in
    (layer-elsewhere e f (all.layer f).objects w.0, layers-elsewhere all e fs w.1)

-- in layers one after another
stacked-apart : (all : Layered) (d : ℕ) (rules : Rules) (above : List (Seen ℕ)) (es : List ℕ) → AreLayers all → AllByRecursion (IsAlike all d) es → AreDistinct es → AreApart (stacked_objects rules above (map (objects_of all) es))
stacked-apart all d rules above [] lawful a h = tt
stacked-apart all d rules above (e ∷ es) lawful a h =
    let layer = objects_of all e in
    let shows : Seen ℕ → Bool = λ o. not (is_hidden rules above o) in
    append-apart e (filter shows layer) (stacked_objects rules (above ++ layer) (map (objects_of all) es))
    (filter-in e shows layer (layer-in e (all.layer e).objects))
    (all_stacked rules (IsElsewhere e) (above ++ layer) (map (objects_of all) es) (layers-elsewhere all e es h.0))
    (filter-apart shows layer (layer-apart e (all.layer e).objects (lawful.distinct e a.0.there)))
    (stacked-apart all d rules (above ++ layer) es lawful a.1 h.1)

-- in order of keys
any-placed : (rules : Rules) (test : Seen ℕ → Bool) (o : Seen ℕ) (xs : List (Seen ℕ)) → test o ≡ false → list_any test xs ≡ false → list_any test (placed_among seen_bytes rules o xs) ≡ false
any-placed rules test o [] h g = rw h refl
any-placed rules test o (x ∷ xs) h g =
    let w = or_parts (test x) (list_any test xs) g in
    elim (cases_Bool (is_greater rules x.bytes o.bytes)) as (λ _. list_any test (placed_among seen_bytes rules o (x ∷ xs)) ≡ false) [
      | inl t ↦ rw (t, h) g
      | inr t ↦ rw (t, w.0) (any-placed rules test o xs h w.1)
    ]

placed-apart : (rules : Rules) (o : Seen ℕ) (xs : List (Seen ℕ)) → list_any (is_at (place_of o)) xs ≡ false → AreApart xs → AreApart (placed_among seen_bytes rules o xs)
placed-apart rules o [] none h = (refl, tt)
placed-apart rules o (x ∷ xs) none h =
    let w = or_parts (is_at (place_of o) x) (list_any (is_at (place_of o)) xs) none in
    elim (cases_Bool (is_greater rules x.bytes o.bytes)) as (λ _. AreApart (placed_among seen_bytes rules o (x ∷ xs))) [
      | inl t ↦ rw t (none, h)
      | inr t ↦ rw t (any-placed rules (is_at (place_of x)) o xs (turned o x w.0) h.0, placed-apart rules o xs w.1 h.1)
    ]

-- none of these stands where one of the others does
abbrev AreFree : List (Seen ℕ) → List (Seen ℕ) → Type 0
AreFree done xs = AllByRecursion (λ x. list_any (is_at (place_of x)) done ≡ false) xs

free-none : (xs : List (Seen ℕ)) → AreFree [] xs
free-none [] = tt
free-none (x ∷ xs) = (refl, free-none xs)

free-placed : (rules : Rules) (o : Seen ℕ) (done xs : List (Seen ℕ)) → list_any (is_at (place_of o)) xs ≡ false → AreFree done xs → AreFree (placed_among seen_bytes rules o done) xs
free-placed rules o done [] none f = tt
free-placed rules o done (x ∷ xs) none f =
    let w = or_parts (is_at (place_of o) x) (list_any (is_at (place_of o)) xs) none in
    (any-placed rules (is_at (place_of x)) o done (turned o x w.0) f.0, free-placed rules o done xs w.1 f.1)

each-apart : (rules : Rules) (done xs : List (Seen ℕ)) → AreFree done xs → AreApart done → AreApart xs → AreApart (placed_each seen_bytes rules done xs)
each-apart rules done [] f h g = h
each-apart rules done (x ∷ xs) f h g =
    each-apart rules (placed_among seen_bytes rules x done) xs (free-placed rules x done xs g.0 f.1) (placed-apart rules x done f.0 h) g.1

ordered-apart : (t : Bool) (rules : Rules) (xs : List (Seen ℕ)) → AreApart xs → AreApart (cond t (placed_each seen_bytes rules [] xs) xs)
ordered-apart true rules xs h = each-apart rules [] xs (free-none xs) tt h
ordered-apart false rules xs h = h

pub visible-apart : (all : Layered) (links : Links) (d : ℕ) → AreLayers all → ArePaths links → IsPath all links d → AreApart (visible_of all links d)
visible-apart all links d lawful p on =
    let rules = (all.layer d).rules in
    ordered-apart (is_ordered (all.layer d).method) rules (stacked_objects rules [] (map (objects_of all) (path links d)))
    (stacked-apart all d rules [] (path links d) lawful on.alike (path-distinct links d p))
