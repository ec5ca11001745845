-- What is seen where a path is its dictionary alone: the objects of that one, as they stand.
use Rattle.vc_base.proofs.Common.{◌≡◌, ℕ, Bool, true, false, not, List, [], ◌∷◌, ◌++◌, map, IsSome, ◌==◌, Some, None, filter, Option, option_map, sym, refl, ap, ◌∙◌, subst, inl, inr, true≢false, append_assoc, append-nil, eqb-true, cases_Bool, AllByRecursion, list_any, number_of, is_ordered}
use Rattle.vc_base.specs.declared.addr.Addr.{Addr}
use Rattle.vc_dtdisc.specs.Objects.{Object, is_greater, placed_each}
use Rattle.vc_dtdisc.specs.Rules.{Rules}
use Rattle.vc_paths.specs.Direction.{neighbour, place_beside}
use Rattle.vc_paths.specs.Layers.{AreLayers, Layered, bytes_there, place_in, stands_at}
use Rattle.vc_paths.specs.Links.{Links, below, onward, path, path_of}
use Rattle.vc_paths.specs.Path.{Answers, IsPath, IsVisible, is_at, numbers_of, objects_of, place_of, seen_in, visible_of}
use Rattle.vc_paths.specs.Visible.{Seen, is_hidden, seen_bytes, stacked_objects}
use Rattle.vc_paths.proofs.NeighbourLemmas.{any_map, at_elsewhere, neighbour_map, none_hidden}
use Rattle.vc_paths.proofs.OrderLemmas.{any_none}
use Rattle.vc_paths.proofs.OrderedLemmas.{layer_sorted, visible_ordered}
use Rattle.vc_paths.proofs.SeekLemmas.{path-first}
use Rattle.vc_paths.proofs.SortedLemmas.{AreSorted, IsUpto, placed_last}

all_middle : (P : Seen ℕ → Type 0) (xs : List (Seen ℕ)) (y : Seen ℕ) (ys : List (Seen ℕ)) → AllByRecursion P (xs ++ y ∷ ys) → P y
all_middle P [] y ys h = h.0
all_middle P (x ∷ xs) y ys h = all_middle P xs y ys h.1

upto_next : (rules : Rules) (done : List (Seen ℕ)) (x : Seen ℕ) (xs : List (Seen ℕ)) → AreSorted rules (done ++ x ∷ xs) → AllByRecursion (λ y. is_greater rules y.bytes x.bytes ≡ false) done
upto_next rules [] x xs s = tt
upto_next rules (y ∷ done) x xs s = (all_middle (IsUpto rules y) done x xs s.0, upto_next rules done x xs s.1)

-- objects in order of keys stay where they are
each_sorted : (rules : Rules) (done xs : List (Seen ℕ)) → AreSorted rules (done ++ xs) → placed_each seen_bytes rules done xs ≡ done ++ xs
each_sorted rules done [] s = sym (append-nil done)
each_sorted rules done (x ∷ xs) s =
    let same = append_assoc done (x ∷ []) xs in
    ap (λ z. placed_each seen_bytes rules z xs) (placed_last rules x done (upto_next rules done x xs s))
    ∙ each_sorted rules (done ++ x ∷ []) xs (subst (AreSorted rules) (sym same) s)
    ∙ same

path_alone : (links : Links) (d : ℕ) → below links d ≡ None → path links d ≡ d ∷ []
path_alone links d none = ap (λ z. d ∷ onward (path_of 15 links) z) none

pub visible_alone : (all : Layered) (links : Links) (d : ℕ) → AreLayers all → IsPath all links d → below links d ≡ None → visible_of all links d ≡ objects_of all d
visible_alone all links d laws path' none =
    let rules = (all.layer d).rules in
    let objects = objects_of all d in
    let like = path-first all links d path' in
    let whole : stacked_objects rules [] (map (objects_of all) (path links d)) ≡ objects =
    ap (λ z. stacked_objects rules [] (map (objects_of all) z)) (path_alone links d none)
    ∙ append-nil (filter (λ o. not (is_hidden rules [] o)) objects)
    ∙ none_hidden rules objects in
    elim (cases_Bool (is_ordered (all.layer d).method)) as (λ _. visible_of all links d ≡ objects) [
      | inl t ↦ visible_ordered all links d t ∙ ap (placed_each seen_bytes rules []) whole ∙ each_sorted rules [] objects (layer_sorted all d d laws like.there t like)
      | inr t ↦ rw t whole
    ]

-- a place among them
dict_here : (d e a : ℕ) (xs : List Object) → list_any (is_at (e, a)) (map (seen_in d) xs) ≡ true → e ≡ d
dict_here d e a xs h = elim (cases_Bool (d == e)) as (λ _. e ≡ d) [
  | inl t ↦ sym (eqb-true d e t)
  | inr t ↦ absurd (true≢false (sym h ∙ any_none (is_at (e, a)) (map (seen_in d) xs) (at_elsewhere e d a xs t)))
]

some_here : (a : ℕ) (xs : List Object) → list_any (stands_at a) xs ≡ true → IsSome (bytes_there a xs)
some_here a [] h = absurd (true≢false (sym h))
some_here a (x ∷ xs) h = elim (cases_Bool (x.at == a)) as (λ _. IsSome (bytes_there a (x ∷ xs))) [
  | inl t ↦ rw t refl
  | inr t ↦ rw t (some_here a xs (rw t at h))
]

seen_alone : (all : Layered) (links : Links) (d : ℕ) (p : ℕ × Addr) → AreLayers all → IsPath all links d → below links d ≡ None → IsVisible all links d (numbers_of p) → list_any (is_at (numbers_of p)) (objects_of all d) ≡ true
seen_alone all links d p laws path' none seen = subst (λ z. list_any (is_at (numbers_of p)) z ≡ true) (visible_alone all links d laws path' none) seen

pub alone_there : (all : Layered) (links : Links) (d : ℕ) (p : ℕ × Addr) → AreLayers all → IsPath all links d → below links d ≡ None → IsVisible all links d (numbers_of p) → IsSome (bytes_there p.1.0 (all.layer d).objects)
alone_there all links d p laws path' none seen =
    let objects = (all.layer d).objects in
    let here = seen_alone all links d p laws path' none seen in
    some_here p.1.0 objects (sym (any_map d p.1.0 objects) ∙ subst (λ z. list_any (is_at (z, p.1.0)) (objects_of all d) ≡ true) (dict_here d p.0 p.1.0 objects here) here)

placed_in : (d : ℕ) (o : Option Object) → option_map (λ a. (d, a)) (place_in o) ≡ option_map place_of (option_map (seen_in d) o)
placed_in d None = refl
placed_in d (Some o) = refl

-- its neighbour in the list is that among all that is seen
pub alone_beside : {all : Layered} {links : Links} {d : ℕ} (back : Bool) (p : ℕ × Addr) (next : Option Addr) (result : Option (ℕ × Addr)) → AreLayers all → IsPath all links d → below links d ≡ None → IsVisible all links d (numbers_of p)
    → option_map number_of next ≡ place_beside back p.1.0 (all.layer d).objects → option_map numbers_of result ≡ option_map (λ a. (d, a)) (option_map number_of next) → Answers result (neighbour back (is_at (numbers_of p)) (visible_of all links d))
alone_beside {all} {links} {d} back p next result laws path' none seen n r =
    r
    ∙ ap (option_map (λ a. (d, a))) n
    ∙ placed_in d (neighbour back (stands_at p.1.0) (all.layer d).objects)
    ∙ ap (option_map place_of) (sym (ap (neighbour back (is_at (numbers_of p))) (visible_alone all links d laws path' none)
    ∙ ap (λ z. neighbour back (is_at (z, p.1.0)) (objects_of all d)) (dict_here d p.0 p.1.0 (all.layer d).objects (seen_alone all links d p laws path' none seen))
    ∙ neighbour_map back d p.1.0 (all.layer d).objects))
