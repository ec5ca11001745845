-- What is seen through an ordered dictionary stands at places of its own, so behind a place comes the rest of the list.
use Rattle.vc_base.proofs.Common.{◌≡◌, ℕ, Bool, true, false, not, ◌&&◌, List, [], ◌∷◌, ◌++◌, map, drop, ◌==◌, Some, None, filter, Option, sym, refl, ap, ◌∙◌, subst, inl, inr, true≢false, cases_Bool, and-false, and_parts, eq-eqb, eqb-true, not-true, or_parts, or_right, list_any-append, same_Some, AllByRecursion, list_any, AreDistinct, contains, is_ordered}
use Rattle.vc_base.specs.declared.addr.Addr.{Addr}
use Rattle.vc_base.proofs.Quantifiers.{all-append, all-both, all-weaken}
use Rattle.vc_dtdisc.specs.Finding.{behind_last, first_of}
use Rattle.vc_dtdisc.specs.Objects.{Object, is_greater, is_match, placed_among, placed_each}
use Rattle.vc_dtdisc.specs.Rules.{AreLawful, Rules}
use Rattle.vc_paths.specs.Layers.{AreLayers, Layered, bytes_there}
use Rattle.vc_paths.specs.Links.{Links, path}
use Rattle.vc_paths.specs.Path.{Answers, IsAlike, IsPath, IsPathBy, is_at, numbers_of, objects_of, place_of, seen_in, visible_of}
use Rattle.vc_paths.specs.Visible.{Seen, is_hidden, seen_bytes, stacked_objects}
use Rattle.vc_paths.proofs.BesideLemmas.{fails}
use Rattle.vc_paths.proofs.MatchLemmas.{match-itself}
use Rattle.vc_paths.proofs.OrderLemmas.{all_filter, all_none, any_none, filter_kept}
use Rattle.vc_paths.proofs.OrderedLemmas.{visible_ordered}
use Rattle.vc_paths.proofs.SeekLemmas.{path-first}
use Rattle.vc_paths.proofs.SightLemmas.{IsThere, at-itself, layers-there, one-there, visible-there}
use Rattle.vc_paths.proofs.SortedLemmas.{all_placed, all_stacked}
use Rattle.vc_algebra.specs.Algebra.{by_op, minus, range, union}
use Rattle.vc_algebra.specs.Runs.{HaveOwn, IsElsewhere}
use Rattle.vc_algebra.specs.ToCome.{from_place, from_there}
use Rattle.vc_algebra.specs.declared.op.Op.{Op}
use Rattle.vc_algebra.specs.declared.op.Op.TheVariants.{Union, Meet, Minus}
use Rattle.vc_algebra.proofs.RangeLemmas.{behind-in, none-place}

at-swap : (x y : Seen ℕ) → is_at (place_of y) x ≡ true → is_at (place_of x) y ≡ true
at-swap x y h =
    let parts = and_parts (x.dict == y.dict) (x.at == y.at) h in
    rw (eq-eqb y.dict x.dict (sym (eqb-true x.dict y.dict parts.0)), eq-eqb y.at x.at (sym (eqb-true x.at y.at parts.1))) refl

elsewhere : (x y : Seen ℕ) → IsElsewhere x y → IsElsewhere y x
elsewhere x y h = fails (is_at (place_of y) x) (is_at (place_of x) y) (at-swap x y) h

-- with one more among them
own-placed : (rules : Rules) (o : Seen ℕ) (xs : List (Seen ℕ)) → AllByRecursion (IsElsewhere o) xs → HaveOwn xs → HaveOwn (placed_among seen_bytes rules o xs)
own-placed rules o [] h s = (tt, tt)
own-placed rules o (x ∷ xs) h s = elim (cases_Bool (is_greater rules x.bytes o.bytes)) as (λ _. HaveOwn (placed_among seen_bytes rules o (x ∷ xs))) [
  | inl t ↦ rw t (h, s)
  | inr t ↦ rw t (all_placed rules (IsElsewhere x) o xs (elsewhere o x h.0) s.0, own-placed rules o xs h.1 s.1)
]

own-each : (rules : Rules) (done xs : List (Seen ℕ)) → AllByRecursion (λ x. AllByRecursion (IsElsewhere x) done) xs → HaveOwn done → HaveOwn xs → HaveOwn (placed_each seen_bytes rules done xs)
own-each rules done [] h s t = s
own-each rules done (x ∷ xs) h s t =
    own-each rules (placed_among seen_bytes rules x done) xs
    (all-both (IsElsewhere x) (λ y. AllByRecursion (IsElsewhere y) done) (λ y. AllByRecursion (IsElsewhere y) (placed_among seen_bytes rules x done)) xs
    (λ y apart each. all_placed rules (IsElsewhere y) x done (elsewhere x y apart) each) t.0 h.1)
    (own-placed rules x done h.0 s) t.1

none-yet : (xs : List (Seen ℕ)) → AllByRecursion (λ x. AllByRecursion (IsElsewhere x) []) xs
none-yet [] = tt
none-yet (x ∷ xs) = (tt, none-yet xs)

-- without some of them, and one list behind another
own-filter : (p : Seen ℕ → Bool) (xs : List (Seen ℕ)) → HaveOwn xs → HaveOwn (filter p xs)
own-filter p [] s = tt
own-filter p (x ∷ xs) s = elim (cases_Bool (p x)) as (λ _. HaveOwn (filter p (x ∷ xs))) [
  | inl t ↦ rw t (all_filter (IsElsewhere x) p xs s.0, own-filter p xs s.1)
  | inr t ↦ rw t (own-filter p xs s.1)
]

own-append : (xs ys : List (Seen ℕ)) → HaveOwn xs → HaveOwn ys → AllByRecursion (λ y. AllByRecursion (λ x. IsElsewhere x y) xs) ys → HaveOwn (xs ++ ys)
own-append [] ys s t h = t
own-append (x ∷ xs) ys s t h = (
  all-append (IsElsewhere x) xs ys s.0 (all-weaken (λ y. AllByRecursion (λ z. IsElsewhere z y) (x ∷ xs)) (IsElsewhere x) ys (λ y each. each.0) h),
  own-append xs ys s.1 t (all-weaken (λ y. AllByRecursion (λ z. IsElsewhere z y) (x ∷ xs)) (λ y. AllByRecursion (λ z. IsElsewhere z y) xs) ys (λ y each. each.1) h),
)

-- below layers nothing is seen that they hide
unhidden : (rules : Rules) (mine above : List (Seen ℕ)) (layers : List (List (Seen ℕ))) → ((o : Seen ℕ) → is_hidden rules above o ≡ false → is_hidden rules mine o ≡ false) → AllByRecursion (λ o. is_hidden rules mine o ≡ false) (stacked_objects rules above layers)
unhidden rules mine above [] f = tt
unhidden rules mine above (layer ∷ lower) f =
    all-append (λ o. is_hidden rules mine o ≡ false) (filter (λ o. not (is_hidden rules above o)) layer) (stacked_objects rules (above ++ layer) lower)
    (all-weaken (λ o. not (is_hidden rules above o) ≡ true) (λ o. is_hidden rules mine o ≡ false) (filter (λ o. not (is_hidden rules above o)) layer) (λ o n. f o (not-true (is_hidden rules above o) n)) (filter_kept (λ o. not (is_hidden rules above o)) layer))
    (unhidden rules mine (above ++ layer) lower (λ o h.
    let test : Seen ℕ → Bool = λ u. is_match rules o.bytes u.bytes in
    f o (or_parts (list_any test above) (list_any test layer) (sym (list_any-append test above layer) ∙ h)).0))

own-stacked : (all : Layered) (d : ℕ) (rules : Rules) → AreLawful rules → (above : List (Seen ℕ)) (layers : List (List (Seen ℕ))) → AllByRecursion (AllByRecursion (IsThere all d)) layers → AllByRecursion HaveOwn layers → HaveOwn (stacked_objects rules above layers)
own-stacked all d rules laws above [] h s = tt
own-stacked all d rules laws above (layer ∷ lower) h s =
    let p : Seen ℕ → Bool = λ o. not (is_hidden rules above o) in
    let rest = stacked_objects rules (above ++ layer) lower in
    let seen = unhidden rules layer (above ++ layer) lower (λ o g.
    let test : Seen ℕ → Bool = λ u. is_match rules o.bytes u.bytes in
    (or_parts (list_any test above) (list_any test layer) (sym (list_any-append test above layer) ∙ g)).1) in
    own-append (filter p layer) rest (own-filter p layer s.0) (own-stacked all d rules laws (above ++ layer) lower h.1 s.1)
    (all-both (IsThere all d) (λ y. is_hidden rules layer y ≡ false) (λ y. AllByRecursion (λ x. IsElsewhere x y) (filter p layer)) rest
    (λ y t g.
    all_filter (λ x. IsElsewhere x y) p layer (all-both (IsThere all d) (λ x. is_match rules y.bytes x.bytes ≡ false) (λ x. IsElsewhere x y) layer
    (λ x u apart. fails (is_at (place_of x) y) (is_match rules y.bytes x.bytes) (λ at. match-itself rules y.bytes x.bytes laws (sym (one-there all d x y u t at))) apart) h.0 (all_none (λ x. is_match rules y.bytes x.bytes) layer g)))
    (all_stacked rules (IsThere all d) (above ++ layer) lower h.1) seen)

-- the objects of a dictionary
own-head : (e : ℕ) (x : Object) (xs : List Object) → contains (map (λ o. o.at) xs) x.at ≡ false → AllByRecursion (IsElsewhere (seen_in e x)) (map (seen_in e) xs)
own-head e x [] h = tt
own-head e x (y ∷ ys) h =
    let parts = or_parts (y.at == x.at) (contains (map (λ o. o.at) ys) x.at) h in
    (ap (λ t. (e == e) && t) parts.0 ∙ and-false (e == e), own-head e x ys parts.1)

own-objects : (e : ℕ) (xs : List Object) → AreDistinct (map (λ o. o.at) xs) → HaveOwn (map (seen_in e) xs)
own-objects e [] d = tt
own-objects e (x ∷ xs) d = (own-head e x xs d.0, own-objects e xs d.1)

own-layers : (all : Layered) (d : ℕ) (es : List ℕ) → AreLayers all → AllByRecursion (IsAlike all d) es → AllByRecursion HaveOwn (map (objects_of all) es)
own-layers all d [] laws a = tt
own-layers all d (e ∷ es) laws a = (own-objects e (all.layer e).objects (laws.distinct e a.0.there), own-layers all d es laws a.1)

pub visible-own : (all : Layered) (links : Links) (d : ℕ) → AreLayers all → IsPath all links d → is_ordered (all.layer d).method ≡ true → HaveOwn (visible_of all links d)
visible-own all links d laws path' method =
    let rules = (all.layer d).rules in
    let heap = stacked_objects rules [] (map (objects_of all) (path links d)) in
    subst HaveOwn (sym (visible_ordered all links d method))
    (own-each rules [] heap (none-yet heap) tt
    (own-stacked all d rules (laws.lawful d (path-first all links d path').there) [] (map (objects_of all) (path links d)) (layers-there all d (path links d) laws path'.alike) (own-layers all d (path links d) laws path'.alike)))

-- two objects at one place are one, whatever they are seen through
bytes-one : (all : Layered) (x y : Seen ℕ) → bytes_there x.at (all.layer x.dict).objects ≡ Some x.bytes → bytes_there y.at (all.layer y.dict).objects ≡ Some y.bytes → is_at (place_of x) y ≡ true → y.bytes ≡ x.bytes
bytes-one all x y tx ty h =
    let parts = and_parts (y.dict == x.dict) (y.at == x.at) h in
    let dict = eqb-true y.dict x.dict parts.0 in
    let at = eqb-true y.at x.at parts.1 in
    same_Some y.bytes x.bytes (sym ty ∙ ap (λ z. bytes_there z (all.layer y.dict).objects) at ∙ ap (λ z. bytes_there x.at (all.layer z).objects) dict ∙ tx)

-- so what matches nothing of a list stands elsewhere than all of it
own-union : (all : Layered) (d e : ℕ) (rules : Rules) → AreLawful rules → (xs ys : List (Seen ℕ)) → AllByRecursion (IsThere all d) xs → AllByRecursion (IsThere all e) ys → HaveOwn xs → HaveOwn ys → HaveOwn (union rules xs ys)
own-union all d e rules laws xs ys h k s t =
    let p : Seen ℕ → Bool = λ o. not (is_hidden rules xs o) in
    own-each rules xs (minus rules ys xs)
    (all-both (IsThere all e) (λ y. is_hidden rules xs y ≡ false) (λ y. AllByRecursion (IsElsewhere y) xs) (filter p ys)
    (λ y u g.
    all-both (IsThere all d) (λ x. is_match rules y.bytes x.bytes ≡ false) (IsElsewhere y) xs
    (λ x v apart. fails (is_at (place_of y) x) (is_match rules y.bytes x.bytes) (λ at. match-itself rules y.bytes x.bytes laws (bytes-one all y x u.bytes v.bytes at)) apart)
    h (all_none (λ x. is_match rules y.bytes x.bytes) xs g))
    (all_filter (IsThere all e) p ys k)
    (all-weaken (λ o. p o ≡ true) (λ o. is_hidden rules xs o ≡ false) (filter p ys) (λ o n. not-true (is_hidden rules xs o) n) (filter_kept p ys)))
    s (own-filter p ys t)

own-by : (all : Layered) (d e : ℕ) (op : Op) (rules : Rules) → AreLawful rules → (xs ys : List (Seen ℕ)) → AllByRecursion (IsThere all d) xs → AllByRecursion (IsThere all e) ys → HaveOwn xs → HaveOwn ys → HaveOwn (by_op op rules xs ys)
own-by all d e Union rules laws xs ys h k s t = own-union all d e rules laws xs ys h k s t
own-by all d e Meet rules laws xs ys h k s t = own-filter (is_hidden rules ys) xs s
own-by all d e Minus rules laws xs ys h k s t = own-filter (λ o. not (is_hidden rules ys o)) xs s

pub operation-own : (all : Layered) (links : Links) (d e : ℕ) (op : Op) → AreLayers all → IsPathBy true all links d → IsPathBy true all links e → HaveOwn (by_op op (all.layer d).rules (visible_of all links d) (visible_of all links e))
operation-own all links d e op laws p q =
    own-by all d e op (all.layer d).rules (laws.lawful d (path-first all links d p.path).there) (visible_of all links d) (visible_of all links e) (visible-there all links d laws p.path) (visible-there all links e laws q.path)
    (visible-own all links d laws p.path p.method) (visible-own all links e laws q.path q.method)

pub range-own : (all : Layered) (links : Links) (d : ℕ) (low high : Option (List ℕ)) → AreLayers all → IsPathBy true all links d → HaveOwn (range (all.layer d).rules low high (visible_of all links d))
range-own all links d low high laws p = own-filter _ (visible_of all links d) (visible-own all links d laws p.path p.method)

-- from the first place on all is left
pub from-first : (r : Option (ℕ × Addr)) (xs : List (Seen ℕ)) → Answers r (first_of xs) → from_place r xs ≡ xs
from-first None [] a = refl
from-first None (x ∷ xs) a = absurd (none-place (place_of x) a)
from-first (Some q) [] a = refl
from-first (Some q) (x ∷ xs) a =
    let at : is_at (numbers_of q) x ≡ true = subst (λ z. is_at z x ≡ true) (sym (same_Some (numbers_of q) (place_of x) a)) (at-itself x) in
    rw at refl

-- past one that stands elsewhere
pub from-past : (r : Option (ℕ × Addr)) (o : Option (Seen ℕ)) (x : Seen ℕ) (xs : List (Seen ℕ)) → Answers r o → ((y : Seen ℕ) → o ≡ Some y → IsElsewhere x y) → from_place r (x ∷ xs) ≡ from_place r xs
from-past None o x xs a apart = refl
from-past (Some q) None x xs a apart = absurd (none-place (numbers_of q) (sym a))
from-past (Some q) (Some y) x xs a apart =
    let at : is_at (numbers_of q) x ≡ false = subst (λ z. is_at z x ≡ false) (sym (same_Some (numbers_of q) (place_of y) a)) (elsewhere x y (apart y refl)) in
    rw at refl

pub first-in : (P : Seen ℕ → Type 0) (xs : List (Seen ℕ)) (y : Seen ℕ) → AllByRecursion P xs → first_of xs ≡ Some y → P y
first-in P [] y h e = cc
first-in P (x ∷ xs) y h e = subst P (same_Some x y e) h.0

pub at-place : (p : ℕ × ℕ) (x : Seen ℕ) → is_at p x ≡ true → p ≡ place_of x
at-place p x h =
    let parts = and_parts (x.dict == p.0) (x.at == p.1) h in
    ap (λ z. (z, p.1)) (sym (eqb-true x.dict p.0 parts.0)) ∙ ap (λ z. (x.dict, z)) (sym (eqb-true x.at p.1 parts.1))

-- what is left from the place behind another one
pub from-behind : (p : ℕ × ℕ) (r : Option (ℕ × Addr)) (xs : List (Seen ℕ)) → HaveOwn xs → list_any (is_at p) xs ≡ true → Answers r (behind_last (is_at p) xs) → from_place r xs ≡ drop 1 (from_there p xs)
from-behind p r [] s any a = absurd (true≢false (sym any))
from-behind p r (x ∷ xs) s any a = elim (cases_Bool (is_at p x)) as (λ _. from_place r (x ∷ xs) ≡ drop 1 (from_there p (x ∷ xs))) [
  | inl t ↦
      let none : list_any (is_at p) xs ≡ false = any_none (is_at p) xs (subst (λ z. AllByRecursion (λ y. is_at z y ≡ false) xs) (sym (at-place p x t)) s.0) in
      let first : Answers r (first_of xs) = rw (t, none) at a in
      rw t (from-past r (first_of xs) x xs first (λ y e. first-in (IsElsewhere x) xs y s.0 e) ∙ from-first r xs first)
  | inr t ↦
      let more : list_any (is_at p) xs ≡ true = rw t at any in
      let behind : Answers r (behind_last (is_at p) xs) = rw t at a in
      rw t (from-past r (behind_last (is_at p) xs) x xs behind (λ y e. behind-in (IsElsewhere x) (is_at p) xs y s.0 e) ∙ from-behind p r xs s.1 more behind)
]

-- each object is seen at its place
pub all-seen : (xs : List (Seen ℕ)) → AllByRecursion (λ y. list_any (is_at (place_of y)) xs ≡ true) xs
all-seen [] = tt
all-seen (x ∷ xs) = (
  rw (at-itself x) refl,
  all-weaken (λ y. list_any (is_at (place_of y)) xs ≡ true) (λ y. list_any (is_at (place_of y)) (x ∷ xs) ≡ true) xs (λ y h. or_right (is_at (place_of y) x) (list_any (is_at (place_of y)) xs) h) (all-seen xs),
)
