-- The first object of a range: the least of those of the layers, where it isn't above the other bound.
use Rattle.vc_base.proofs.Common.{◌≡◌, ℕ, Bool, true, false, not, ◌&&◌, List, [], ◌∷◌, map, is_some, if◌then◌else◌, IfSome, IfNone, Some, None, filter, Option, option_map, is_gt, Ordering, Less, Equal, Greater, sym, refl, ap, ◌∙◌, subst, inl, inr, true≢false, cases_Bool, same_Some, AllByRecursion, list_any, IsTotalOrder, ordering_reverse, number_of, is_ordered}
use Rattle.std.specs.Ordering.{is_lt}
use Rattle.std.proofs.lemmas.Cmp.{upto}
use Rattle.vc_base.specs.declared.addr.Addr.{Addr}
use Rattle.vc_base.proofs.Lists.{filter-map}
use Rattle.vc_base.proofs.Quantifiers.{all-weaken}
use Rattle.vc_dtdisc.specs.Finding.{behind_last, first_of}
use Rattle.vc_dtdisc.specs.Objects.{Object, is_match}
use Rattle.vc_dtdisc.specs.Rules.{Rules}
use Rattle.vc_paths.specs.Layers.{AreLayers, Layer, Layered, Same, bytes_there}
use Rattle.vc_paths.specs.Links.{ArePaths, Links, below, path}
use Rattle.vc_paths.specs.Ordered.{IsEnd, IsStanding, StandsInLike, nearer, object_at, object_there}
use Rattle.vc_paths.specs.Path.{Answers, IsAlike, IsPath, is_at, numbers_of, objects_of, place_of, seen_in, visible_of}
use Rattle.vc_paths.specs.Shown.{IsOnPath, down}
use Rattle.vc_paths.specs.Visible.{Seen, stacked_objects}
use Rattle.vc_paths.proofs.DownLemmas.{down-on, on-head, on-next, on-start}
use Rattle.vc_paths.proofs.EndLemmas.{end-map}
use Rattle.vc_paths.proofs.LastLemmas.{end_passing}
use Rattle.vc_paths.proofs.LayerLemmas.{Shows, shows}
use Rattle.vc_paths.proofs.LeastLemmas.{nearest_of}
use Rattle.vc_paths.proofs.NeighbourLemmas.{all_end}
use Rattle.vc_paths.proofs.OrderLemmas.{all_filter, ordered}
use Rattle.vc_paths.proofs.OrderedLemmas.{answers_at, layers_sorted, visible_ordered}
use Rattle.vc_paths.proofs.SeekLemmas.{alike-rules, path-first}
use Rattle.vc_paths.proofs.SightLemmas.{IsThere, each-there, visible-there}
use Rattle.vc_paths.proofs.SortedLemmas.{AreSorted, IsUpto, onto_sorted}
use Rattle.vc_paths.proofs.StayLemmas.{object-kept, on-kept, rules-kept, standing-kept}
use Rattle.vc_algebra.specs.Algebra.{if_upto, is_from, is_over, place_at_least, range}

-- the first of a layer that isn't less than a key
first_stands : (all : Layered) (e : ℕ) (p : Seen ℕ → Bool) (o : Option Object) → AreLayers all → all.Has e → first_of (filter p (objects_of all e)) ≡ option_map (seen_in e) o
    → (x : Object) → o ≡ Some x → bytes_there x.at (all.layer e).objects ≡ Some x.bytes
first_stands all e p o laws has same x is =
    (all_end false (IsThere all e) (filter p (objects_of all e)) (seen_in e x)
    (all_filter (IsThere all e) p (objects_of all e) (each-there all e e [] (all.layer e).objects (record { there = has; method = refl; kind = refl }) refl (laws.distinct e has)))
    (same ∙ ap (option_map (seen_in e)) is)).bytes

pub end_from : (all : Layered) (e : ℕ) (key : List ℕ) (r : Option Addr) → AreLayers all → all.Has e → option_map number_of r ≡ place_at_least (all.layer e).rules key (all.layer e).objects → IsEnd false all e (is_from (all.layer e).rules (Some key)) r
end_from all e key r laws has found =
    let objects = (all.layer e).objects in
    let p : Seen ℕ → Bool = is_from (all.layer e).rules (Some key) in
    let q : Object → Bool = λ o. p (seen_in e o) in
    let o = first_of (filter q objects) in
    let same : first_of (filter p (objects_of all e)) ≡ option_map (seen_in e) o = ap first_of (filter-map (seen_in e) p objects) ∙ end-map false (seen_in e) (filter q objects) in
    let shown : Shows all e r o = shows all e r o has found (first_stands all e p o laws has same) in
    record { stands = shown.stands; object = shown.object ∙ sym same }

-- one that matches an object which isn't less than a bound isn't either
not-less : (o : Ordering) → not (is_lt o) ≡ true → is_gt (ordering_reverse o) ≡ false
not-less Less e = absurd (true≢false (sym e))
not-less Equal e = refl
not-less Greater e = refl

less-not : (o : Ordering) → is_gt (ordering_reverse o) ≡ false → not (is_lt o) ≡ true
less-not Less e = absurd (true≢false e)
less-not Equal e = refl
less-not Greater e = refl

-- and one that isn't less than an object which isn't less than a bound isn't either
pub from_up : (rules : Rules) → IsTotalOrder rules.compare → (low : Option (List ℕ)) (x y : Seen ℕ) → IsUpto rules x y → is_from rules low x ≡ true → is_from rules low y ≡ true
from_up rules order None x y u h = refl
from_up rules order (Some low) x y u h =
    let key = λ (z : Seen ℕ). rules.key z.bytes in
    let low_x : is_gt (rules.compare low (key x)) ≡ false = ap is_gt (order.antisymm low (key x)) ∙ not-less (rules.compare (key x) low) h in
    let low_y = upto order low (key x) (key y) low_x u in
    less-not (rules.compare (key y) low) (ap is_gt (sym (order.antisymm low (key y))) ∙ low_y)

pub from_shared : (rules : Rules) → IsTotalOrder rules.compare → (low : Option (List ℕ)) (o u : Seen ℕ) → is_match rules o.bytes u.bytes ≡ true → is_from rules low o ≡ true → is_from rules low u ≡ true
from_shared rules order low o u m h = from_up rules order low o u ((ordered rules order).right u.bytes o.bytes m) h

-- the nearest so far
pub record NearestFrom (all : Layered) (links : Links) (d : ℕ) (low : Option (List ℕ)) (best : Option (ℕ × Addr)) (next : Option ℕ) : Type 0 where
  pub on : IsOnPath all links d next
  pub stands : IsStanding all d best
  pub same : nearest_of false (all.layer d).rules (object_at all best) (map (filter (is_from (all.layer d).rules low)) (map (objects_of all) (down links next)))
      ≡ first_of (filter (is_from (all.layer d).rules low) (visible_of all links d))

pub from_start : {all : Layered} {links : Links} {d : ℕ} {low : Option (List ℕ)} → AreLayers all → IsPath all links d → is_ordered (all.layer d).method ≡ true → NearestFrom all links d low None (Some d)
unfolding down
from_start {all} {links} {d} {low} laws path' method =
    let rules = (all.layer d).rules in
    let h = (path-first all links d path').there in
    let order = (laws.lawful d h).order in
    record {
      on = on-start path';
      stands = tt;
      same = sym (
          ap (λ z. first_of (filter (is_from rules low) z)) (visible_ordered all links d method)
          ∙ end_passing false rules (ordered rules order) (is_from rules low) (map (objects_of all) (path links d)) (from_shared rules order low) (layers_sorted all d (path links d) laws h method path'.alike)
          );
    }

stands_back : {all : Layered} {d e : ℕ} (p : Option (ℕ × Addr)) → IsAlike all d e → IsStanding all e p → IsStanding all d p
stands_back None alike s = tt
stands_back (Some p) alike s = record { there = s.there; kind = s.kind ∙ alike.kind; object = s.object }

pub from_next : {all : Layered} {links : Links} {d e : ℕ} {low : Option (List ℕ)} {best better : Option (ℕ × Addr)} {here next : Option ℕ} → AreLayers all → IsPath all links d → ArePaths links → here ≡ Some e → next ≡ below links e
    → NearestFrom all links d low best here → IsStanding all e better → object_at all better ≡ nearer false (all.layer e).rules (object_at all best) (first_of (filter (is_from (all.layer e).rules low) (objects_of all e)))
    → NearestFrom all links d low better next
from_next {all} {links} {d} {e} {low} {best} {better} {here} {next} laws path' paths is on s stands object =
    let alike = on-head paths is s.on in
    let rules = (all.layer d).rules in
    let rest = λ (es : List ℕ). map (filter (is_from rules low)) (map (objects_of all) es) in
    record {
      on = on-next paths is on s.on;
      stands = stands_back better alike stands;
      same =
          ap (λ z. nearest_of false rules z (rest (down links next))) (object
          ∙ ap (λ r. nearer false r (object_at all best) (first_of (filter (is_from r low) (objects_of all e)))) (alike-rules all d e laws (path-first all links d path').there alike))
          ∙ sym (ap (λ z. nearest_of false rules (object_at all best) (rest z)) (down-on paths is on))
          ∙ s.same;
    }

pub from_end : {all : Layered} {links : Links} {d : ℕ} {low : Option (List ℕ)} {best : Option (ℕ × Addr)} {next : Option ℕ} → next ≡ None → NearestFrom all links d low best next → Answers best (first_of (filter (is_from (all.layer d).rules low) (visible_of all links d)))
unfolding down
from_end {all} {links} {d} {low} {best} is s =
    let done = subst (λ z. NearestFrom all links d low best z) is s in
    subst (λ z. Answers best z) done.same (answers_at all d best done.stands)

-- layers of which each is a dictionary
abbrev bare : (ℕ → Layer) → Layered
bare layer = record { Has = λ d. Unit {0}; layer = layer }

pub from_kept : {old new : Layered} {links : Links} {d : ℕ} {low : Option (List ℕ)} {best : Option (ℕ × Addr)} {next : Option ℕ} → Same old new → NearestFrom old links d low best next → NearestFrom new links d low best next
from_kept {old} {new} {links} {d} {low} {best} {next} s n = record {
  on = on-kept s n.on;
  stands = standing-kept d best s n.stands;
  same =
      ap (λ (z : Option (Seen ℕ)). nearest_of false (new.layer d).rules z (map (filter (is_from (new.layer d).rules low)) (map (objects_of new) (down links next)))) (object-kept best s)
      ∙ subst (λ (z : ℕ → Layer). nearest_of false (z d).rules (object_at old best) (map (filter (is_from (z d).rules low)) (map (objects_of (bare z)) (down links next)))
      ≡ first_of (filter (is_from (z d).rules low) (visible_of (bare z) links d))) (sym s.layers) n.same;
}

pub from_before : {old new : Layered} (links : Links) (d : ℕ) (low : Option (List ℕ)) (best : Option (ℕ × Addr)) → Same old new
    → Answers best (first_of (filter (is_from (new.layer d).rules low) (visible_of new links d))) → Answers best (first_of (filter (is_from (old.layer d).rules low) (visible_of old links d)))
from_before links d low best s h = subst (λ (z : ℕ → Layer). Answers best (first_of (filter (is_from (z d).rules low) (visible_of (bare z) links d)))) s.layers h

-- behind one that is above a bound all are
pub over_up : (rules : Rules) → IsTotalOrder rules.compare → (high : Option (List ℕ)) (x y : Seen ℕ) → is_over rules high x ≡ true → IsUpto rules x y → is_over rules high y ≡ true
over_up rules order None x y h u = absurd (true≢false (sym h))
over_up rules order (Some high) x y h u = elim (cases_Bool (is_over rules (Some high) y)) as (λ _. is_over rules (Some high) y ≡ true) [
  | inl t ↦ t
  | inr t ↦ absurd (true≢false (sym h ∙ upto order (rules.key x.bytes) (rules.key y.bytes) high u t))
]

pub no-range : (rules : Rules) (low high : Option (List ℕ)) (xs : List (Seen ℕ)) → AllByRecursion (λ y. is_over rules high y ≡ true) xs → range rules low high xs ≡ []
no-range rules low high [] h = refl
no-range rules low high (x ∷ xs) h = elim (cases_Bool (is_from rules low x)) as (λ _. range rules low high (x ∷ xs) ≡ []) [
  | inl t ↦ rw (t, h.0) (no-range rules low high xs h.1)
  | inr t ↦ rw t (no-range rules low high xs h.1)
]

-- the first of a range of sorted objects
pub first-range : (rules : Rules) → IsTotalOrder rules.compare → (low high : Option (List ℕ)) (xs : List (Seen ℕ)) → AreSorted rules xs → first_of (range rules low high xs) ≡ if_upto rules high (first_of (filter (is_from rules low) xs))
first-range rules order low high [] s = refl
first-range rules order low high (x ∷ xs) s = elim (cases_Bool (is_from rules low x)) as (λ _. first_of (range rules low high (x ∷ xs)) ≡ if_upto rules high (first_of (filter (is_from rules low) (x ∷ xs)))) [
  | inl t ↦ elim (cases_Bool (is_over rules high x)) as (λ _. first_of (range rules low high (x ∷ xs)) ≡ if_upto rules high (first_of (filter (is_from rules low) (x ∷ xs)))) [
    | inl w ↦
        let none = no-range rules low high xs (all-weaken (IsUpto rules x) (λ y. is_over rules high y ≡ true) xs (λ y u. over_up rules order high x y w u) s.0) in
        rw (t, w, none) refl
    | inr w ↦ rw (t, w) refl
  ]
  | inr t ↦ rw t (first-range rules order low high xs s.1)
]

pub visible_sorted : (all : Layered) (links : Links) (d : ℕ) → AreLayers all → IsPath all links d → is_ordered (all.layer d).method ≡ true → AreSorted (all.layer d).rules (visible_of all links d)
visible_sorted all links d laws path' method =
    let rules = (all.layer d).rules in
    let order = (laws.lawful d (path-first all links d path').there).order in
    subst (AreSorted rules) (sym (visible_ordered all links d method)) (onto_sorted rules (ordered rules order) [] (stacked_objects rules [] (map (objects_of all) (path links d))) tt)

pub none-place : (p : ℕ × ℕ) → None ≡ Some p → ⊥
none-place p e = cc

-- an answer is the place of an object that stands
pub record StandsAs (all : Layered) (p : Option (ℕ × Addr)) (o : Option (Seen ℕ)) : Type 0 where
  pub stands : IfSome p (λ p. StandsInLike all p.0 p)
  pub object : object_at all p ≡ o

there-at : {b : List ℕ} (all : Layered) (p : ℕ × Addr) → bytes_there p.1.0 (all.layer p.0).objects ≡ Some b → object_there all p ≡ Some (record { dict = p.0; at = p.1.0; bytes = b })
there-at all p is = ap (option_map (λ (bytes : List ℕ). record { dict = p.0; at = p.1.0; bytes = bytes })) is

pub stands_as : {all : Layered} {d : ℕ} (p : Option (ℕ × Addr)) (o : Option (Seen ℕ)) → ((x : Seen ℕ) → o ≡ Some x → IsThere all d x) → Answers p o → StandsAs all p o
stands_as None None there a = record { stands = tt; object = refl }
stands_as None (Some x) there a = absurd (none-place (place_of x) a)
stands_as (Some p) None there a = absurd (none-place (numbers_of p) (sym a))
stands_as {all} (Some p) (Some x) there a =
    let same : numbers_of p ≡ place_of x = same_Some (numbers_of p) (place_of x) a in
    let dict : x.dict ≡ p.0 = sym (ap (λ (z : ℕ × ℕ). z.0) same) in
    let at : x.at ≡ p.1.0 = sym (ap (λ (z : ℕ × ℕ). z.1) same) in
    let t = there x refl in
    let here : bytes_there p.1.0 (all.layer p.0).objects ≡ Some x.bytes = subst (λ z. bytes_there z (all.layer p.0).objects ≡ Some x.bytes) at (subst (λ z. bytes_there x.at (all.layer z).objects ≡ Some x.bytes) dict t.bytes) in
    record {
      stands = record { there = subst all.Has dict t.alike.there; kind = refl; object = ap is_some here };
      object = there-at all p here ∙ ap (λ z. Some (record { dict = z; at = p.1.0; bytes = x.bytes })) (sym dict) ∙ ap (λ z. Some (record { dict = x.dict; at = z; bytes = x.bytes })) (sym at);
    }

-- it is answered where it isn't above a bound
pub up-to : {old new : Layered} {d : ℕ} (high : Option (List ℕ)) (place result : Option (ℕ × Addr)) (o : Option (Seen ℕ)) → Same old new → AreLayers old → old.Has d → ((x : Seen ℕ) → o ≡ Some x → IsThere old d x) → Answers place o
    → ((x : Seen ℕ) → object_at new place ≡ Some x → result ≡ (if is_over (new.layer x.dict).rules high x then None else place)) → IfNone place (result ≡ None)
    → Answers result (if_upto (old.layer d).rules high o)
up-to high None result None same laws has there a some none = ap (option_map numbers_of) none
up-to high None result (Some x) same laws has there a some none = absurd (none-place (place_of x) a)
up-to high (Some p) result None same laws has there a some none = absurd (none-place (numbers_of p) (sym a))
up-to {old} {new} {d} high (Some p) result (Some x) same laws has there a some none =
    let t = there x refl in
    let rules : (new.layer x.dict).rules ≡ (old.layer d).rules = rules-kept x.dict same ∙ laws.kinds x.dict d t.alike.there has t.alike.kind in
    let r : result ≡ (if is_over (old.layer d).rules high x then None else Some p) =
    some x (object-kept (Some p) same ∙ (stands_as (Some p) (Some x) there a).object) ∙ ap (λ z. if is_over z high x then None else Some p) rules in
    elim (cases_Bool (is_over (old.layer d).rules high x)) as (λ _. Answers result (if_upto (old.layer d).rules high (Some x))) [
      | inl w ↦ rw w (ap (option_map numbers_of) (r ∙ ap (λ z. if z then None else Some p) w))
      | inr w ↦ rw w (ap (option_map numbers_of) (r ∙ ap (λ z. if z then None else Some p) w) ∙ a)
    ]

-- what is behind a place, and the first that passes a test, are objects that stand
pub behind-in : (P : Seen ℕ → Type 0) (test : Seen ℕ → Bool) (xs : List (Seen ℕ)) (b : Seen ℕ) → AllByRecursion P xs → behind_last test xs ≡ Some b → P b
behind-in P test [] b h e = cc
behind-in P test (x ∷ xs) b h e = elim (cases_Bool (test x && not (list_any test xs))) as (λ _. P b) [
  | inl t ↦ all_end false P xs b h.1 (rw t at e)
  | inr t ↦ behind-in P test xs b h.1 (rw t at e)
]

pub behind-there : (all : Layered) (links : Links) (d : ℕ) (p : ℕ × ℕ) (x : Seen ℕ) → AreLayers all → IsPath all links d → behind_last (is_at p) (visible_of all links d) ≡ Some x → IsThere all d x
behind-there all links d p x laws path' is = behind-in (IsThere all d) (is_at p) (visible_of all links d) x (visible-there all links d laws path') is

pub first-there : (all : Layered) (links : Links) (d : ℕ) (test : Seen ℕ → Bool) (x : Seen ℕ) → AreLayers all → IsPath all links d → first_of (filter test (visible_of all links d)) ≡ Some x → IsThere all d x
first-there all links d test x laws path' is = all_end false (IsThere all d) (filter test (visible_of all links d)) x (all_filter (IsThere all d) test (visible_of all links d) (visible-there all links d laws path')) is

-- they stand on
pub kept_stands : {old new : Layered} (p : Option (ℕ × Addr)) → Same old new → IfSome p (λ p. StandsInLike old p.0 p) → IfSome p (λ p. StandsInLike new p.0 p)
kept_stands None s h = tt
kept_stands (Some p) s h = standing-kept p.0 (Some p) s h
