-- What has a key among the objects that are seen through a dictionary: where the first layer has it that has some.
use Rattle.vc_base.proofs.Common.{◌≡◌, ℕ, Bool, true, false, cond, List, [], ◌∷◌, map, Some, None, Option, option_map, find, sym, refl, ap, ◌∙◌, inl, inr, cases_Bool, list_any, option_or, is_ordered}
use Rattle.vc_base.proofs.Lists.{find-map}
use Rattle.vc_dtdisc.specs.Objects.{Object, has_key, placed_each}
use Rattle.vc_dtdisc.specs.Rules.{AreLawful, Rules}
use Rattle.vc_paths.specs.Layers.{AreLayers, Layer, Layered, Same, place_in, place_with}
use Rattle.vc_paths.specs.Links.{ArePaths, Links, below, path}
use Rattle.vc_paths.specs.Path.{IsAlike, IsPath, objects_of, place_of, seen_in, visible_of}
use Rattle.vc_paths.specs.Seek.{has_key_in}
use Rattle.vc_paths.specs.Shown.{IsOnPath, down}
use Rattle.vc_paths.specs.Visible.{Seen, seen_bytes, stacked_objects}
use Rattle.vc_paths.proofs.DownLemmas.{down-none, down-on, on-head, on-next, on-start}
use Rattle.vc_paths.proofs.SortedLemmas.{found_sorted}
use Rattle.vc_paths.proofs.StackedLemmas.{first_having, stacked-found, with_key}

-- what passes a test first among the objects of dictionaries, one after another
abbrev pub found_along : Layered → (Seen ℕ → Bool) → List ℕ → Option (Seen ℕ)
found_along all test [] = None
found_along all test (e ∷ es) = option_or (find test (objects_of all e)) (found_along all test es)

-- a first one is found, or none passes
data Found {A : Type 0} (test : A → Bool) (xs : List A) : Type 0 where
  one : (x : A) → find test xs ≡ Some x → list_any test xs ≡ true → Found test xs
  none : find test xs ≡ None → list_any test xs ≡ false → Found test xs

found : {A : Type 0} (test : A → Bool) (xs : List A) → Found test xs
found test [] = none refl refl
found test (x ∷ xs) = elim (cases_Bool (test x)) as (λ _. Found test (x ∷ xs)) [
  | inl t ↦ one x (rw t refl) (rw t refl)
  | inr t ↦ elim (found test xs) as (λ _. Found test (x ∷ xs)) [
    | one y f a ↦ one y (rw t f) (rw t a)
    | none f a ↦ none (rw t f) (rw t a)
  ]
]

-- the first layer that has some finds it
found-having : (all : Layered) (test : Seen ℕ → Bool) (es : List ℕ) → find test (first_having test (map (objects_of all) es)) ≡ found_along all test es
found-having all test [] = refl
found-having all test (e ∷ es) = elim (found test (objects_of all e)) as (λ _. find test (first_having test (map (objects_of all) (e ∷ es))) ≡ found_along all test (e ∷ es)) [
  | one x f a ↦ rw (a, f) refl
  | none f a ↦ rw (a, f) (found-having all test es)
]

-- the order of keys leaves what is found
found-ordered : (t : Bool) (rules : Rules) (key : List ℕ) (xs : List (Seen ℕ)) → AreLawful rules → find (with_key rules key) (cond t (placed_each seen_bytes rules [] xs) xs) ≡ find (with_key rules key) xs
found-ordered true rules key xs lawful = found_sorted rules lawful.order key xs
found-ordered false rules key xs lawful = refl

-- so what is found with a key is what the layers of the path find, the uppermost first
pub found-visible : (all : Layered) (links : Links) (d : ℕ) (key : List ℕ) → AreLawful (all.layer d).rules → find (has_key_in all d key) (visible_of all links d) ≡ found_along all (has_key_in all d key) (path links d)
found-visible all links d key lawful =
    let rules = (all.layer d).rules in
    let layers = map (objects_of all) (path links d) in
    found-ordered (is_ordered (all.layer d).method) rules key (stacked_objects rules [] layers) lawful
    ∙ stacked-found rules key layers lawful
    ∙ found-having all (has_key_in all d key) (path links d)

-- where it stands
place-map : (e : ℕ) (o : Option Object) → option_map place_of (option_map (seen_in e) o) ≡ option_map (λ a. (e, a)) (place_in o)
place-map e None = refl
place-map e (Some o) = refl

place-found : (all : Layered) (rules : Rules) (e : ℕ) (key : List ℕ) → option_map place_of (find (λ o. has_key rules key o.bytes) (objects_of all e)) ≡ option_map (λ a. (e, a)) (place_with rules key (all.layer e).objects)
place-found all rules e key =
    let test : Seen ℕ → Bool = λ o. has_key rules key o.bytes in
    ap (option_map place_of) (find-map (seen_in e) test (all.layer e).objects) ∙ place-map e (find (λ o. has_key rules key o.bytes) (all.layer e).objects)

-- the rules of dictionaries of one kind
pub alike-rules : (all : Layered) (d e : ℕ) → AreLayers all → all.Has d → IsAlike all d e → (all.layer e).rules ≡ (all.layer d).rules
alike-rules all d e lawful h a = lawful.kinds e d a.there h a.kind

pub path-first : (all : Layered) (links : Links) (d : ℕ) → IsPath all links d → IsAlike all d d
path-first all links d p = p.alike.0

-- what a dictionary that stayed tells of a key is what is found among its objects by the rules of the path
found-here : {all now : Layered} {links : Links} {d e : ℕ} (key : List ℕ) {r : Option ℕ} → AreLayers all → IsPath all links d → IsAlike all d e → Same all now → r ≡ place_with (now.layer e).rules key (now.layer e).objects
    → option_map place_of (find (has_key_in all d key) (objects_of all e)) ≡ option_map {U = ℕ × ℕ} (λ a. (e, a)) r
found-here {all} {now} {links} {d} {e} key lawful path like same told =
    place-found all (all.layer d).rules e key
    ∙ ap (option_map {U = ℕ × ℕ} (λ a. (e, a)))
    (ap (λ z. place_with z key (all.layer e).objects) (sym (alike-rules all d e lawful (path-first all links d path).there like))
    ∙ ap (λ (z : ℕ → Layer). place_with (z e).rules key (z e).objects) (sym same.layers)
    ∙ sym told)

-- a search that has come to a link: what the layers from there on find is what is found
pub record IsSought (all : Layered) (links : Links) (d : ℕ) (key : List ℕ) (at : Option ℕ) : Type 0 where
  pub on : IsOnPath all links d at
  pub found : found_along all (has_key_in all d key) (down links at) ≡ find (has_key_in all d key) (visible_of all links d)

pub IsSought-start : {all : Layered} {links : Links} {d : ℕ} {key : List ℕ} → AreLayers all → IsPath all links d → IsSought all links d key (Some d)
unfolding down
IsSought-start {all} {links} {d} {key} lawful p = record {
  on = on-start p;
  found = sym (found-visible all links d key (lawful.lawful d (path-first all links d p).there));
}

pub none-there : (o : Option (Seen ℕ)) → option_map place_of o ≡ None → o ≡ None
none-there None h = refl
none-there (Some o) h = absurd (some_none (place_of o) h)
  where
    some_none : (p : ℕ × ℕ) → Some p ≡ None → ⊥
    some_none p h = cc

-- the layer there finds it, or the search goes on, up to the end
pub IsSought-next : {all now : Layered} {links : Links} {d e : ℕ} {key : List ℕ} {at next : Option ℕ} → AreLayers all → IsPath all links d → ArePaths links → at ≡ Some e → next ≡ below links e → IsSought all links d key at
    → Same all now → None ≡ place_with (now.layer e).rules key (now.layer e).objects → IsSought all links d key next
IsSought-next {all} {now} {links} {d} {e} {key} {at} {next} lawful path p is on s same missed =
    let test = has_key_in all d key in
    let nothing = none-there (find test (objects_of all e)) (found-here key lawful path (on-head p is s.on) same missed) in
    record {
      on = on-next p is on s.on;
      found = ap (λ z. option_or z (found_along all test (down links next))) (sym nothing) ∙ ap (found_along all test) (sym (down-on p is on)) ∙ s.found;
    }

none_some : (p : ℕ × ℕ) → None ≡ Some p → ⊥
none_some p h = cc

some-there : (o more : Option (Seen ℕ)) (p : ℕ × ℕ) → option_map place_of o ≡ Some p → option_map place_of (option_or o more) ≡ Some p
some-there None more p h = absurd (none_some p h)
some-there (Some o) more p h = h

pub IsSought-found : {all now : Layered} {links : Links} {d e a : ℕ} {key : List ℕ} {at : Option ℕ} → AreLayers all → IsPath all links d → ArePaths links → at ≡ Some e → IsSought all links d key at
    → Same all now → Some a ≡ place_with (now.layer e).rules key (now.layer e).objects → Some (e, a) ≡ option_map place_of (find (has_key_in all d key) (visible_of all links d))
IsSought-found {all} {now} {links} {d} {e} {a} {key} lawful path p is s same hit =
    sym (ap (option_map place_of) (sym s.found ∙ ap (found_along all (has_key_in all d key)) (down-on p is refl))
    ∙ some-there (find (has_key_in all d key) (objects_of all e)) (found_along all (has_key_in all d key) (down links (below links e))) (e, a) (found-here key lawful path (on-head p is s.on) same hit))

pub IsSought-end : {all : Layered} {links : Links} {d : ℕ} {key : List ℕ} {at : Option ℕ} → at ≡ None → IsSought all links d key at → ◌≡◌ {A = Option (ℕ × ℕ)} None (option_map place_of (find (has_key_in all d key) (visible_of all links d)))
IsSought-end {all} {links} {d} {key} is s =
    ap (option_map place_of) (sym (ap (found_along all (has_key_in all d key)) (ap (down links) is ∙ down-none links)) ∙ s.found)
