-- From numbers to names: the path of a dictionary by names is that of its number.
use Rattle.vc_base.proofs.Common.{◌≡◌, ℕ, zero, suc, ◌<◌, List, [], ◌∷◌, map, slice_get, Some, None, Option, option_map, option_and_then, bytes_eq, sym, refl, ap, ◌∙◌, subst, ap₂, none-some, same_Some, AllByRecursion, IsDistinct, keys_of}
use Rattle.vc_base.proofs.Lists.{find-map}
use Rattle.vc_objects.specs.Objects.{Dictionary}
use Rattle.vc_paths.specs.Layers.{Layered}
use Rattle.vc_paths.specs.Links.{Links, below, numbers, onward, path, path_limit, path_of}
use Rattle.vc_paths.specs.Path.{IsAlike, IsPath}
use Rattle.vc_views.specs.Dicts.{entry_numbered, number_in}
use Rattle.vc_views.specs.Numbers.{AreLinked, home_by, name_numbered, views_by}
use Rattle.vc_views.specs.Views.{DictHome, below_in, dict_named, is_dict, onward_in, path_in, path_to}
use Rattle.vc_views.proofs.NamedEntries.{Entry, by-number, found-number, named-found}

-- a dictionary is the layer of a number, with its method, its kind and its objects
pub record IsLayerIn (over : Entry → Dictionary) (all : Layered) (n : ℕ) (e : Entry) : Type 0 where
  pub has : all.Has n
  pub over_method : (over e).method ≡ e.1.dict.method
  pub method : (all.layer n).method ≡ e.1.dict.method
  pub kind : (all.layer n).kind ≡ e.1.dict.kind
  pub objects : (all.layer n).objects ≡ (over e).objects

-- each dictionary is the layer of its number
abbrev pub AreLayersIn : (Entry → Dictionary) → Layered → List Entry → Type 0
AreLayersIn over all entries = (n : ℕ) (e : Entry) → entry_numbered n entries ≡ Some e → IsLayerIn over all n e

-- so they are where they are the same dictionaries
pub layers-same : (over other : Entry → Dictionary) (all : Layered) (entries : List Entry) → ((e : Entry) → over e ≡ other e) → AreLayersIn other all entries → AreLayersIn over all entries
layers-same over other all entries same layers n e found =
    let is = layers n e found in
    record {
      has = is.has;
      over_method = ap (λ d. d.method) (same e) ∙ is.over_method;
      method = is.method;
      kind = is.kind;
      objects = is.objects ∙ ap (λ d. d.objects) (sym (same e));
    }

pub all-at : {A : Type 0} (P : A → Type 0) (xs : List A) (i : ℕ) (x : A) → AllByRecursion P xs → slice_get xs i ≡ Some x → P x
all-at P [] i x each at = absurd (none-some x at)
all-at P (y ∷ ys) zero x each at = subst P (same_Some y x at) each.0
all-at P (y ∷ ys) (suc i) x each at = all-at P ys i x each.1 at

module _ (over : Entry → Dictionary) (links : Links) (entries : List Entry) where
  -- a dictionary under its name, by what its number views, and all of them
  abbrev pub home : Entry → DictHome
  home e = home_by over (views_by links entries) e

  abbrev pub homes : List DictHome
  homes = map home entries

  -- that of a number, where there is one
  abbrev pub home_numbered : ℕ → Option DictHome
  home_numbered n = option_map home (entry_numbered n entries)

  module _ (names : IsDistinct bytes_eq (keys_of entries)) (linked : AreLinked links entries) where
    -- the dictionary of a number is found by its name
    pub home-named : (n : ℕ) (e : Entry) → entry_numbered n entries ≡ Some e → dict_named e.0 homes ≡ Some (home e)
    home-named n e found = find-map home (is_dict e.0) entries ∙ ap (λ o. option_map home o) (named-found entries names n e found)

    -- what a dictionary views by its name is what its number views
    views : (o : Option ℕ) (n : ℕ) (e : Entry) → entry_numbered n entries ≡ Some e → below links n ≡ o
        → below_in homes (home e) ≡ option_and_then (λ name. dict_named name homes) (option_and_then (name_numbered entries) o)
    views o n e found is =
        ap (λ p. option_and_then (λ name. dict_named name homes) (option_and_then (name_numbered entries) p))
        (ap (below links) (found-number entries n e found) ∙ is)

    pub views-none : (n : ℕ) (e : Entry) → entry_numbered n entries ≡ Some e → below links n ≡ None → below_in homes (home e) ≡ None
    views-none n e found is = views None n e found is

    pub views-some : (n m : ℕ) (e f : Entry) → entry_numbered n entries ≡ Some e → below links n ≡ Some m → entry_numbered m entries ≡ Some f
        → below_in homes (home e) ≡ Some (home f)
    views-some n m e f found is other =
        views (Some m) n e found is
        ∙ ap (λ o. option_and_then (λ name. dict_named name homes) (option_map (λ (g : Entry). g.0) o)) other
        ∙ home-named m f other

    -- what is the same of each dictionary and of its number is so along the paths of both
    module _ {B : Type 0} (f : DictHome → B) (g : ℕ → B) (each : (n : ℕ) (e : Entry) → entry_numbered n entries ≡ Some e → f (home e) ≡ g n) where
      onward-each : (p : DictHome → List DictHome) (q : ℕ → List ℕ)
          → ((n : ℕ) (e : Entry) → entry_numbered n entries ≡ Some e → map f (p (home e)) ≡ map g (q n))
          → (o : Option ℕ) (n : ℕ) (e : Entry) → entry_numbered n entries ≡ Some e → below links n ≡ o
          → map f (onward_in p (below_in homes (home e))) ≡ map g (onward q o)
      onward-each p q rest None n e found is = ap (λ o. map f (onward_in p o)) (views-none n e found is)
      onward-each p q rest (Some m) n e found is =
          let link = linked.linked n m is in
          ap (λ o. map f (onward_in p o)) (views-some n m e link.lower found is link.lower_is) ∙ rest m link.lower link.lower_is

      pub path_to-each : (most n : ℕ) (e : Entry) → entry_numbered n entries ≡ Some e
          → map f (path_to most homes (home e)) ≡ map g (path_of most links n)
      path_to-each zero n e found = refl
      path_to-each (suc most) n e found =
          ap₂ (λ x xs. x ∷ xs) (each n e found)
          (onward-each (path_to most homes) (path_of most links) (path_to-each most) (below links n) n e found refl)

      pub path-each : (i : ℕ) (e : Entry) → slice_get entries i ≡ Some e → map f (path_in homes (home e)) ≡ map g (path links (number_in e))
      path-each i e at = path_to-each path_limit (number_in e) e (by-number entries i e linked.numbered.distinct at)

    -- the path of a dictionary has the dictionaries of the numbers on the path of its own, which are all there
    pub path-named : (i : ℕ) (e : Entry) → slice_get entries i ≡ Some e
        → map (λ (d : DictHome). Some d) (path_in homes (home e)) ≡ map home_numbered (path links (number_in e))
    path-named i e at = path-each (λ d. Some d) home_numbered (λ n f found. ap (λ o. option_map home o) (sym found)) i e at

module _ (over : Entry → Dictionary) (all : Layered) (links : Links) (entries : List Entry) (linked : AreLinked links entries) (layers : AreLayersIn over all entries) where
  -- each number on a path is a dictionary, of the method and the kind of the first
  module _ (d : ℕ) (first : Entry) (is : IsLayerIn over all d first) where
    onward-alike : (p : ℕ → List ℕ)
        → ((n : ℕ) (e : Entry) → entry_numbered n entries ≡ Some e → e.1.dict.method ≡ first.1.dict.method → e.1.dict.kind ≡ first.1.dict.kind → AllByRecursion (IsAlike all d) (p n))
        → (o : Option ℕ) (n : ℕ) (e : Entry) → entry_numbered n entries ≡ Some e → e.1.dict.method ≡ first.1.dict.method → e.1.dict.kind ≡ first.1.dict.kind
        → below links n ≡ o → AllByRecursion (IsAlike all d) (onward p o)
    onward-alike p rest None n e found method kind b = tt
    onward-alike p rest (Some m) n e found method kind b =
        let link = linked.linked n m b in
        let one : link.upper ≡ e = same_Some link.upper e (sym link.upper_is ∙ found) in
        rest m link.lower link.lower_is
        (link.method ∙ ap (λ (z : Entry). z.1.dict.method) one ∙ method) (link.kind ∙ ap (λ (z : Entry). z.1.dict.kind) one ∙ kind)

    path_of-alike : (most n : ℕ) (e : Entry) → entry_numbered n entries ≡ Some e → e.1.dict.method ≡ first.1.dict.method → e.1.dict.kind ≡ first.1.dict.kind
        → AllByRecursion (IsAlike all d) (path_of most links n)
    path_of-alike zero n e found method kind = tt
    path_of-alike (suc most) n e found method kind =
        let layer = layers n e found in (
          record { there = layer.has; method = layer.method ∙ method ∙ sym is.method; kind = layer.kind ∙ kind ∙ sym is.kind },
          onward-alike (path_of most links) (path_of-alike most) (below links n) n e found method kind refl,
        )

  -- so the number of each dictionary has a path
  pub is-path : (i : ℕ) (e : Entry) → slice_get entries i ≡ Some e → IsPath all links (number_in e)
  is-path i e at =
      let found = by-number entries i e linked.numbered.distinct at in
      record {
        number = all-at (λ f. number_in f < numbers) entries i e linked.numbered.below at;
        alike = path_of-alike (number_in e) e (layers (number_in e) e found) path_limit (number_in e) e found refl refl;
      }
