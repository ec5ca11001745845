-- The neighbours of a visible object in order of keys: those in its dictionary that match it, or one beyond them.
use Rattle.vc_base.proofs.Common.{◌≡◌, ℕ, Bool, true, false, not, ◌&&◌, ◌||◌, List, [], ◌∷◌, ◌++◌, map, is_some, ◌==◌, Some, None, filter, Option, option_map, find, sym, refl, ap, ◌∙◌, subst, inl, inr, true≢false, append-nil, eq-eqb, eqb-true, and_parts, cases_Bool, not-true, or_left, or_right, filter-append, list_any-append, same_Some, AllByRecursion, list_any, option_or, number_of, is_ordered}
use Rattle.vc_base.specs.declared.addr.Addr.{Addr}
use Rattle.vc_dtdisc.specs.Objects.{Object, is_greater, is_match, placed_each}
use Rattle.vc_dtdisc.specs.Rules.{Rules}
use Rattle.vc_base.proofs.Quantifiers.{all-append, all-weaken, all-both, any-map}
use Rattle.vc_dtdisc.specs.Finding.{before_first_from, behind_last, first_of}
use Rattle.vc_paths.specs.Direction.{end_of, neighbour, place_beside}
use Rattle.vc_paths.specs.Layers.{AreLayers, Layered, bytes_there, stands_at}
use Rattle.vc_paths.specs.Links.{Links, path}
use Rattle.vc_paths.specs.Ordered.{StandsInLike, if_level, is_level, is_past, place_in_dict, object_at, object_there}
use Rattle.vc_paths.specs.Path.{Answers, IsAlike, IsPath, IsPathBy, IsVisible, is_at, numbers_of, objects_of, place_of, seen_in, visible_of}
use Rattle.vc_paths.specs.Visible.{Seen, is_hidden, seen_bytes, stacked_objects}
use Rattle.vc_paths.proofs.BesideLemmas.{AreLevel, any_level, before_apart, before_beside, behind_apart, behind_beside, fails}
use Rattle.vc_paths.proofs.EndLemmas.{neighbour-map}
use Rattle.vc_paths.proofs.LayerLemmas.{beside_shown}
use Rattle.vc_paths.proofs.OrderLemmas.{AreOrdered, all_filter, all_none, any_more, any_none, filter_kept, filter_none, ordered}
use Rattle.vc_paths.proofs.OrderedLemmas.{layer_sorted, visible_ordered}
use Rattle.vc_paths.proofs.SightLemmas.{IsThere, each-there, layers-there, visible-there, all-last}
use Rattle.vc_paths.proofs.SeekLemmas.{path-first}
use Rattle.vc_paths.proofs.SortedLemmas.{AreSorted, all_sorted, all_stacked, itself, kept_sorted, layer_filter, onto_sorted}

-- objects that match one match each other
level_both : (rules : Rules) → AreOrdered rules → (x y u : Seen ℕ) → is_level rules x y ≡ true → is_level rules x u ≡ true → is_match rules y.bytes u.bytes ≡ true
level_both rules laws x y u h g = laws.tied u.bytes y.bytes
    (laws.upto u.bytes x.bytes y.bytes (laws.left u.bytes x.bytes g) (laws.right y.bytes x.bytes h))
    (laws.upto y.bytes x.bytes u.bytes (laws.left y.bytes x.bytes h) (laws.right u.bytes x.bytes g))

level_upto : (rules : Rules) → AreOrdered rules → (x y u : Seen ℕ) → is_level rules x y ≡ true → is_level rules x u ≡ true → is_greater rules y.bytes u.bytes ≡ false
level_upto rules laws x y u h g = laws.upto y.bytes x.bytes u.bytes (laws.left y.bytes x.bytes h) (laws.right u.bytes x.bytes g)

level_shared : (rules : Rules) → AreOrdered rules → (x o u : Seen ℕ) → is_match rules o.bytes u.bytes ≡ true → is_level rules x o ≡ true → is_level rules x u ≡ true
level_shared rules laws x o u m h = laws.tied u.bytes x.bytes
    (laws.upto u.bytes o.bytes x.bytes (laws.left u.bytes o.bytes m) (laws.left o.bytes x.bytes h))
    (laws.upto x.bytes o.bytes u.bytes (laws.right o.bytes x.bytes h) (laws.right u.bytes o.bytes m))

-- below one that matches no other one that does is seen
level_hidden : (rules : Rules) → AreOrdered rules → (x : Seen ℕ) (above : List (Seen ℕ)) (layers : List (List (Seen ℕ))) → list_any (is_level rules x) above ≡ true → AllByRecursion (λ y. is_level rules x y ≡ false) (stacked_objects rules above layers)
level_hidden rules laws x above [] h = tt
level_hidden rules laws x above (layer ∷ lower) h =
    all-append (λ y. is_level rules x y ≡ false) (filter (λ o. not (is_hidden rules above o)) layer) (stacked_objects rules (above ++ layer) lower)
    (all-weaken (λ y. not (is_hidden rules above y) ≡ true) (λ y. is_level rules x y ≡ false) (filter (λ o. not (is_hidden rules above o)) layer)
    (λ y n.
    fails (is_level rules x y) (is_hidden rules above y) (λ m. any_more (is_level rules x) (λ u. is_match rules y.bytes u.bytes) (λ u w. level_both rules laws x y u m w) above h) (not-true (is_hidden rules above y) n)) (filter_kept (λ o. not (is_hidden rules above o)) layer))
    (level_hidden rules laws x (above ++ layer) lower (list_any-append (is_level rules x) above layer ∙ or_left (list_any (is_level rules x) above) (list_any (is_level rules x) layer) h))

pub none_hidden : (rules : Rules) (xs : List (Seen ℕ)) → filter (λ o. not (is_hidden rules [] o)) xs ≡ xs
none_hidden rules [] = refl
none_hidden rules (x ∷ xs) = ap (λ z. x ∷ z) (none_hidden rules xs)

-- and of the first layer with one each is
level_first : (rules : Rules) → AreOrdered rules → (x : Seen ℕ) (above layer : List (Seen ℕ)) → AllByRecursion (λ u. is_level rules x u ≡ false) above → filter (is_level rules x) (filter (λ o. not (is_hidden rules above o)) layer) ≡ filter (is_level rules x) layer
level_first rules laws x above layer h =
    layer_filter rules (is_level rules x) above layer (level_shared rules laws x)
    ∙ ap (λ z. filter (λ o. not (is_hidden rules z o)) (filter (is_level rules x) layer)) (filter_none (is_level rules x) above h)
    ∙ none_hidden rules (filter (is_level rules x) layer)

-- what stands in another dictionary isn't at a place
pub at_elsewhere : (e f a : ℕ) (xs : List Object) → (f == e) ≡ false → AllByRecursion (λ y. is_at (e, a) y ≡ false) (map (seen_in f) xs)
at_elsewhere e f a [] h = tt
at_elsewhere e f a (x ∷ xs) h = (ap (λ z. z && (x.at == a)) h, at_elsewhere e f a xs h)

-- a test that none of the matching objects passes
none_at : (rules : Rules) (x : Seen ℕ) (test : Seen ℕ → Bool) (ys : List (Seen ℕ)) → AreLevel rules x test ys → AllByRecursion (λ y. is_level rules x y ≡ false) ys → list_any test ys ≡ false
none_at rules x test ys l h = any_none test ys (all-both (λ y. test y ≡ true → is_level rules x y ≡ true) (λ y. is_level rules x y ≡ false) (λ y. test y ≡ false) ys (λ y f g. fails (test y) (is_level rules x y) f g) l h)

-- an object that is seen in a layer, and a test that only it and others that match it pass
pub record Seeks (rules : Rules) (all : Layered) (e a : ℕ) (x : Seen ℕ) : Type 0 where
  pub laws : AreOrdered rules
  pub present : list_any (is_level rules x) (objects_of all e) ≡ true

-- the objects that match the one at a visible place are those of its dictionary
level_stacked : (rules : Rules) (all : Layered) (e a : ℕ) (x : Seen ℕ) (above : List (Seen ℕ)) (es : List ℕ) → Seeks rules all e a x → AllByRecursion (AreLevel rules x (is_at (e, a))) (map (objects_of all) es) → AllByRecursion (λ u. is_level rules x u ≡ false) above → list_any (is_at (e, a)) (stacked_objects rules above (map (objects_of all) es)) ≡ true → filter (is_level rules x) (stacked_objects rules above (map (objects_of all) es)) ≡ filter (is_level rules x) (objects_of all e)
level_stacked rules all e a x above [] s l h any = absurd (true≢false (sym any))
level_stacked rules all e a x above (f ∷ es) s l h any =
    let layer = objects_of all f in
    let seen = filter (λ o. not (is_hidden rules above o)) layer in
    let lower = stacked_objects rules (above ++ layer) (map (objects_of all) es) in
    let parts = filter-append (is_level rules x) seen lower in
    elim (cases_Bool (f == e)) as (λ _. filter (is_level rules x) (stacked_objects rules above (map (objects_of all) (f ∷ es))) ≡ filter (is_level rules x) (objects_of all e)) [
      | inl t ↦
          let same = eqb-true f e t in
          let present : list_any (is_level rules x) layer ≡ true = subst (λ z. list_any (is_level rules x) (objects_of all z) ≡ true) (sym same) s.present in
          let both = list_any-append (is_level rules x) above layer ∙ or_right (list_any (is_level rules x) above) (list_any (is_level rules x) layer) present in
          let none = filter_none (is_level rules x) lower (level_hidden rules s.laws x (above ++ layer) (map (objects_of all) es) both) in
          parts
          ∙ ap (λ z. filter (is_level rules x) seen ++ z) none
          ∙ append-nil (filter (is_level rules x) seen)
          ∙ level_first rules s.laws x above layer h
          ∙ ap (λ z. filter (is_level rules x) (objects_of all z)) same
      | inr t ↦
          let none : list_any (is_at (e, a)) seen ≡ false = any_none (is_at (e, a)) seen (all_filter (λ y. is_at (e, a) y ≡ false) (λ o. not (is_hidden rules above o)) layer (at_elsewhere e f a (all.layer f).objects t)) in
          let more : list_any (is_at (e, a)) lower ≡ true = sym (ap (λ z. z || list_any (is_at (e, a)) lower) none) ∙ sym (list_any-append (is_at (e, a)) seen lower) ∙ any in
          elim (cases_Bool (list_any (is_level rules x) layer)) as (λ _. filter (is_level rules x) (stacked_objects rules above (map (objects_of all) (f ∷ es))) ≡ filter (is_level rules x) (objects_of all e)) [
            | inl w ↦
                let both = list_any-append (is_level rules x) above layer ∙ or_right (list_any (is_level rules x) above) (list_any (is_level rules x) layer) w in
                let hidden = level_hidden rules s.laws x (above ++ layer) (map (objects_of all) es) both in
                let levels = all_stacked rules (λ y. is_at (e, a) y ≡ true → is_level rules x y ≡ true) (above ++ layer) (map (objects_of all) es) l.1 in
                absurd (true≢false (sym more ∙ none_at rules x (is_at (e, a)) lower levels hidden))
            | inr w ↦
                let apart = all_none (is_level rules x) layer w in
                let rest = level_stacked rules all e a x (above ++ layer) es s l.1 (all-append (λ u. is_level rules x u ≡ false) above layer h apart) more in
                parts
                ∙ ap (λ z. z ++ filter (is_level rules x) lower) (filter_none (is_level rules x) seen (all_filter (λ u. is_level rules x u ≡ false) (λ o. not (is_hidden rules above o)) layer apart))
                ∙ rest
          ]
    ]

-- where an element passes a test, what holds of each holds of one that passes
pub any_found : {A : Type 0} (P : A → Type 0) (test : A → Bool) (xs : List A) → AllByRecursion P xs → list_any test xs ≡ true → (y : A) × (test y ≡ true) × P y
any_found P test [] h any = absurd (true≢false (sym any))
any_found P test (x ∷ xs) h any = elim (cases_Bool (test x)) as (λ _. (y : _) × (test y ≡ true) × P y) [
  | inl t ↦ (x, t, h.0)
  | inr t ↦ any_found P test xs h.1 (rw t at any)
]

-- a visible object stands at its place
record VisibleAt (all : Layered) (d : ℕ) (p : ℕ × Addr) : Type 0 where
  bytes : List ℕ
  there : bytes_there p.1.0 (all.layer p.0).objects ≡ Some bytes
  alike : IsAlike all d p.0

visible_at : (all : Layered) (links : Links) (d : ℕ) (p : ℕ × Addr) → AreLayers all → IsPath all links d → is_ordered (all.layer d).method ≡ true → IsVisible all links d (numbers_of p) → VisibleAt all d p
visible_at all links d p laws path' method visible' =
    let found = any_found (IsThere all d) (is_at (numbers_of p)) (visible_of all links d) (visible-there all links d laws path') visible' in
    let y = found.0 in
    let parts = and_parts (y.dict == p.0) (y.at == p.1.0) found.1 in
    let dict = eqb-true y.dict p.0 parts.0 in
    record {
      bytes = y.bytes;
      there = subst (λ z. bytes_there z (all.layer p.0).objects ≡ Some y.bytes) (eqb-true y.at p.1.0 parts.1)
          (subst (λ z. bytes_there y.at (all.layer z).objects ≡ Some y.bytes) dict found.2.bytes);
      alike = subst (IsAlike all d) dict found.2.alike;
    }

stands_of : {all : Layered} {d : ℕ} {p : ℕ × Addr} → VisibleAt all d p → StandsInLike all d p
stands_of v = record { there = v.alike.there; kind = v.alike.kind; object = ap is_some v.there }

pub visible_stands : {all : Layered} {links : Links} {d : ℕ} {p : ℕ × Addr} → AreLayers all → IsPath all links d → is_ordered (all.layer d).method ≡ true → IsVisible all links d (numbers_of p) → StandsInLike all d p
visible_stands {all} {links} {d} {p} laws path' method visible' = stands_of (visible_at all links d p laws path' method visible')

-- what stands at the place of an object matches it
in_level : (rules : Rules) → AreOrdered rules → (all : Layered) (d : ℕ) (p : ℕ × Addr) (x : Seen ℕ) → bytes_there p.1.0 (all.layer p.0).objects ≡ Some x.bytes → (y : Seen ℕ) → IsThere all d y → is_at (numbers_of p) y ≡ true → is_level rules x y ≡ true
in_level rules laws all d p x here y inner t =
    let parts = and_parts (y.dict == p.0) (y.at == p.1.0) t in
    let there : bytes_there p.1.0 (all.layer p.0).objects ≡ Some y.bytes =
    subst (λ z. bytes_there z (all.layer p.0).objects ≡ Some y.bytes) (eqb-true y.at p.1.0 parts.1)
    (subst (λ z. bytes_there y.at (all.layer z).objects ≡ Some y.bytes) (eqb-true y.dict p.0 parts.0) inner.bytes) in
    subst (λ z. is_match rules x.bytes z ≡ true) (same_Some x.bytes y.bytes (sym here ∙ there)) (laws.tied x.bytes x.bytes (itself rules laws x) (itself rules laws x))

-- an object of a layer passes the test on its place
found_at : (e a : ℕ) (xs : List Object) → is_some (option_map (λ (o : Object). o.bytes) (find (stands_at a) xs)) ≡ true → list_any (is_at (e, a)) (map (seen_in e) xs) ≡ true
found_at e a [] h = absurd (true≢false (sym h))
found_at e a (x ∷ xs) h = elim (cases_Bool (x.at == a)) as (λ _. list_any (is_at (e, a)) (map (seen_in e) (x ∷ xs)) ≡ true) [
  | inl t ↦ rw (t, eq-eqb e e refl) refl
  | inr t ↦ rw (t, eq-eqb e e refl) (found_at e a xs (rw t at h))
]

any_along : (rules : Rules) (x : Seen ℕ) (test : Seen ℕ → Bool) (ys : List (Seen ℕ)) → AreLevel rules x test ys → list_any test ys ≡ true → list_any (is_level rules x) ys ≡ true
any_along rules x test [] l h = absurd (true≢false (sym h))
any_along rules x test (y ∷ ys) l h = elim (cases_Bool (is_level rules x y)) as (λ _. list_any (is_level rules x) (y ∷ ys) ≡ true) [
  | inl t ↦ rw t refl
  | inr t ↦ rw t (any_along rules x test ys l.1 (rw (fails (test y) (is_level rules x y) l.0 t) at h))
]

-- a visible object, among all that are and in its own layer
pub record Visited (rules : Rules) (all : Layered) (p : ℕ × Addr) (x : Seen ℕ) (seen : List (Seen ℕ)) : Type 0 where
  pub laws : AreOrdered rules
  pub sorted : AreSorted rules seen
  pub level : AreLevel rules x (is_at (numbers_of p)) seen
  pub any : list_any (is_at (numbers_of p)) seen ≡ true
  pub kept : filter (is_level rules x) seen ≡ filter (is_level rules x) (objects_of all p.0)
  pub layer_sorted : AreSorted rules (objects_of all p.0)
  pub layer_level : AreLevel rules x (is_at (numbers_of p)) (objects_of all p.0)
  pub layer_any : list_any (is_at (numbers_of p)) (objects_of all p.0) ≡ true

-- by what is known of the layers
visited_in : (rules : Rules) → AreOrdered rules → (all : Layered) (d : ℕ) (p : ℕ × Addr) (x : Seen ℕ) (es : List ℕ) → bytes_there p.1.0 (all.layer p.0).objects ≡ Some x.bytes → AllByRecursion (AllByRecursion (IsThere all d)) (map (objects_of all) es) → AllByRecursion (IsThere all d) (objects_of all p.0) → AreSorted rules (objects_of all p.0) → list_any (is_at (numbers_of p)) (placed_each seen_bytes rules [] (stacked_objects rules [] (map (objects_of all) es))) ≡ true → Visited rules all p x (placed_each seen_bytes rules [] (stacked_objects rules [] (map (objects_of all) es)))
visited_in rules laws all d p x es here layers layer layer_sorted any =
    let test = is_at (numbers_of p) in
    let heap = stacked_objects rules [] (map (objects_of all) es) in
    let level_of : (ys : List (Seen ℕ)) → AllByRecursion (IsThere all d) ys → AreLevel rules x test ys =
    λ ys h. all-weaken (IsThere all d) (λ y. test y ≡ true → is_level rules x y ≡ true) ys (λ y inner. in_level rules laws all d p x here y inner) h in
    let in_heap = all_stacked rules (IsThere all d) [] (map (objects_of all) es) layers in
    let in_seen = all_sorted rules (IsThere all d) [] heap tt in_heap in
    let same = kept_sorted rules laws (is_level rules x) (λ y u h g. level_upto rules laws x y u h g) heap in
    let heap_any : list_any test heap ≡ true =
    sym (any_level rules x test heap (level_of heap in_heap)) ∙ ap (list_any test) (sym same) ∙ any_level rules x test (placed_each seen_bytes rules [] heap) (level_of (placed_each seen_bytes rules [] heap) in_seen) ∙ any in
    let layer_level = level_of (objects_of all p.0) layer in
    let layer_any = found_at p.0 p.1.0 (all.layer p.0).objects (ap is_some here) in
    let seeks : Seeks rules all p.0 p.1.0 x = record { laws = laws; present = any_along rules x test (objects_of all p.0) layer_level layer_any } in
    let levels = all-weaken (AllByRecursion (IsThere all d)) (AreLevel rules x test) (map (objects_of all) es) level_of layers in
    record {
      laws = laws;
      sorted = onto_sorted rules laws [] heap tt;
      level = level_of (placed_each seen_bytes rules [] heap) in_seen;
      any = any;
      kept = same ∙ level_stacked rules all p.0 p.1.0 x [] es seeks levels tt heap_any;
      layer_sorted = layer_sorted;
      layer_level = layer_level;
      layer_any = layer_any;
    }

-- what holds of each holds of a neighbour, and of the ends
all_first : (P : Seen ℕ → Type 0) (xs : List (Seen ℕ)) (b : Seen ℕ) → AllByRecursion P xs → first_of xs ≡ Some b → P b
all_first P [] b h e = cc
all_first P (x ∷ xs) b h e = let same : x ≡ b = cc in subst P same h.0

all_behind : (P : Seen ℕ → Type 0) (test : Seen ℕ → Bool) (xs : List (Seen ℕ)) (b : Seen ℕ) → AllByRecursion P xs → behind_last test xs ≡ Some b → P b
all_behind P test [] b h e = cc
all_behind P test (x ∷ xs) b h e = elim (cases_Bool (test x && not (list_any test xs))) as (λ _. P b) [
  | inl t ↦ all_first P xs b h.1 (rw t at e)
  | inr t ↦ all_behind P test xs b h.1 (rw t at e)
]

all_before : (P : Seen ℕ → Type 0) (test : Seen ℕ → Bool) (before : Option (Seen ℕ)) (xs : List (Seen ℕ)) (b : Seen ℕ) → ((a : Seen ℕ) → before ≡ Some a → P a) → AllByRecursion P xs → before_first_from before test xs ≡ Some b → P b
all_before P test before [] b f h e = cc
all_before P test before (x ∷ xs) b f h e = elim (cases_Bool (test x)) as (λ _. P b) [
  | inl t ↦ f b (rw t at e)
  | inr t ↦ all_before P test (Some x) xs b (λ a same. let one : x ≡ a = cc in subst P one h.0) h.1 (rw t at e)
]

-- of one that matches or else one that doesn't, the one that matches
if_level_or : (rules : Rules) (x : Seen ℕ) (a b : Option (Seen ℕ)) → ((y : Seen ℕ) → a ≡ Some y → is_level rules x y ≡ true) → ((y : Seen ℕ) → b ≡ Some y → is_level rules x y ≡ false) → if_level rules (Some x) (option_or a b) ≡ a
if_level_or rules x None None f g = refl
if_level_or rules x None (Some b) f g = rw (g b refl) refl
if_level_or rules x (Some a) b f g = rw (f a refl) refl

-- what holds of each holds of the end, and of a neighbour
pub all_end : (back : Bool) (P : Seen ℕ → Type 0) (xs : List (Seen ℕ)) (b : Seen ℕ) → AllByRecursion P xs → end_of back xs ≡ Some b → P b
all_end false P xs b h e = all_first P xs b h e
all_end true P xs b h e = all-last P xs b h e

all_neighbour : (back : Bool) (P : Seen ℕ → Type 0) (test : Seen ℕ → Bool) (xs : List (Seen ℕ)) (b : Seen ℕ) → AllByRecursion P xs → neighbour back test xs ≡ Some b → P b
all_neighbour false P test xs b h e = all_behind P test xs b h e
all_neighbour true P test xs b h e = all_before P test None xs b (λ u none. cc) h e

neighbour_beside : (back : Bool) (rules : Rules) → AreOrdered rules → (x : Seen ℕ) (test : Seen ℕ → Bool) (xs : List (Seen ℕ)) → AreSorted rules xs → AreLevel rules x test xs → list_any test xs ≡ true
    → neighbour back test xs ≡ option_or (neighbour back test (filter (is_level rules x) xs)) (end_of back (filter (is_past back rules (Some x)) xs))
neighbour_beside false rules laws x test xs s l any = behind_beside rules laws x test xs s l any
neighbour_beside true rules laws x test xs s l any = before_beside rules laws x test xs s l any

past_apart : (back : Bool) (rules : Rules) → AreOrdered rules → (x y : Seen ℕ) → is_past back rules (Some x) y ≡ true → is_level rules x y ≡ false
past_apart false rules laws x y h = behind_apart rules laws x y h
past_apart true rules laws x y h = before_apart rules laws x y h

-- beside a visible object is its neighbour where that matches, and else the first that lies past it
neighbour_among : (back : Bool) (rules : Rules) (all : Layered) (p : ℕ × Addr) (x : Seen ℕ) (seen : List (Seen ℕ)) → Visited rules all p x seen
    → neighbour back (is_at (numbers_of p)) seen ≡ option_or (if_level rules (Some x) (neighbour back (is_at (numbers_of p)) (objects_of all p.0))) (end_of back (filter (is_past back rules (Some x)) seen))
neighbour_among back rules all p x seen v =
    let test = is_at (numbers_of p) in
    let layer = objects_of all p.0 in
    let past = is_past back rules (Some x) in
    let same = if_level_or rules x (neighbour back test (filter (is_level rules x) layer)) (end_of back (filter past layer))
    (λ y e. all_neighbour back (λ z. is_level rules x z ≡ true) test (filter (is_level rules x) layer) y (filter_kept (is_level rules x) layer) e)
    (λ y e. past_apart back rules v.laws x y (all_end back (λ z. past z ≡ true) (filter past layer) y (filter_kept past layer) e)) in
    neighbour_beside back rules v.laws x test seen v.sorted v.level v.any
    ∙ ap (λ z. option_or z (end_of back (filter past seen)))
    (ap (neighbour back test) v.kept ∙ sym same ∙ ap (if_level rules (Some x)) (sym (neighbour_beside back rules v.laws x test layer v.layer_sorted v.layer_level v.layer_any)))

-- the neighbours in the layer, by its objects
pub any_map : (e a : ℕ) (xs : List Object) → list_any (is_at (e, a)) (map (seen_in e) xs) ≡ list_any (stands_at a) xs
any_map e a xs = any-map (seen_in e) (is_at (e, a)) xs ∙ ap (λ t. list_any (λ (o : Object). t && stands_at a o) xs) (eq-eqb e e refl)

pub neighbour_map : (back : Bool) (e a : ℕ) (xs : List Object) → neighbour back (is_at (e, a)) (map (seen_in e) xs) ≡ option_map (seen_in e) (neighbour back (stands_at a) xs)
neighbour_map back e a xs =
    neighbour-map back (seen_in e) (is_at (e, a)) xs
    ∙ ap (λ t. option_map (seen_in e) (neighbour back (λ (o : Object). t && stands_at a o) xs)) (eq-eqb e e refl)

-- what is known of the object at a visible place
record VisitedAt (all : Layered) (links : Links) (d : ℕ) (p : ℕ × Addr) : Type 0 where
  one : Seen ℕ
  is : object_there all p ≡ Some one
  stands : StandsInLike all d p
  visited : Visited (all.layer d).rules all p one (visible_of all links d)
  beside : (o : Option (Seen ℕ)) → if_level (all.layer p.0).rules (object_there all p) o ≡ if_level (all.layer d).rules (Some one) o

visited_at : (all : Layered) (links : Links) (d : ℕ) (p : ℕ × Addr) → AreLayers all → IsPath all links d → is_ordered (all.layer d).method ≡ true → IsVisible all links d (numbers_of p) → VisitedAt all links d p
visited_at all links d p laws path' method visible' =
    let rules = (all.layer d).rules in
    let v = visible_at all links d p laws path' method visible' in
    let h = (path-first all links d path').there in
    let x = seen_in p.0 (record { at = p.1.0; bytes = v.bytes }) in
    let is : object_there all p ≡ Some x = ap (option_map (λ (bytes : List ℕ). seen_in p.0 (record { at = p.1.0; bytes = bytes }))) v.there in
    let same = visible_ordered all links d method in
    record {
      one = x;
      is = is;
      stands = stands_of v;
      visited = subst (λ z. Visited rules all p x z) (sym same)
          (visited_in rules (ordered rules (laws.lawful d h).order) all d p x (path links d) v.there (layers-there all d (path links d) laws path'.alike) (each-there all d p.0 [] (all.layer p.0).objects v.alike refl (laws.distinct p.0 v.alike.there))
          (layer_sorted all d p.0 laws h method v.alike) (subst (λ z. list_any (is_at (numbers_of p)) z ≡ true) same visible'));
      beside = λ o. ap (λ r. if_level r (object_there all p) o) (laws.kinds p.0 d v.alike.there h v.alike.kind) ∙ ap (λ z. if_level rules z o) is;
    }

-- the neighbour of a visible object, by what was found beside it
pub neighbour_found : {all : Layered} {links : Links} {d : ℕ} (back : Bool) (p : ℕ × Addr) (next : Option Addr) {near : Option (Seen ℕ)} → AreLayers all → IsPathBy true all links d → IsVisible all links d (numbers_of p)
    → option_map number_of next ≡ place_beside back p.1.0 (all.layer p.0).objects → near ≡ if_level (all.layer p.0).rules (object_there all p) (object_at all (place_in_dict p.0 next))
    → neighbour back (is_at (numbers_of p)) (visible_of all links d) ≡ option_or near (end_of back (filter (is_past back (all.layer d).rules (object_there all p)) (visible_of all links d)))
neighbour_found {all} {links} {d} back p next {near} laws on visible' n e =
    let v = visited_at all links d p laws on.path on.method visible' in
    let beside = (beside_shown back next laws v.stands n).object ∙ sym (neighbour_map back p.0 p.1.0 (all.layer p.0).objects) in
    neighbour_among back (all.layer d).rules all p v.one (visible_of all links d) v.visited
    ∙ ap (λ z. option_or z (end_of back (filter (is_past back (all.layer d).rules (Some v.one)) (visible_of all links d)))) (sym (e ∙ v.beside (object_at all (place_in_dict p.0 next)) ∙ ap (if_level (all.layer d).rules (Some v.one)) beside))
    ∙ ap (λ z. option_or near (end_of back (filter (is_past back (all.layer d).rules z) (visible_of all links d)))) (sym v.is)

-- a place that stands is the answer where it comes first
some_answer : (d : ℕ) (at : Addr) (o : Option (List ℕ)) (rest : Option (Seen ℕ)) → is_some o ≡ true → Some (d, at.0) ≡ option_map place_of (option_or (option_map (λ (bytes : List ℕ). seen_in d (record { at = at.0; bytes = bytes })) o) rest)
some_answer d at None rest h = absurd (true≢false (sym h))
some_answer d at (Some b) rest h = refl

pub near_answers : (all : Layered) (d : ℕ) (p : ℕ × Addr) (rest : Option (Seen ℕ)) → StandsInLike all d p → Answers (Some p) (option_or (object_there all p) rest)
near_answers all d p rest s = some_answer p.0 p.1 (bytes_there p.1.0 (all.layer p.0).objects) rest s.object
