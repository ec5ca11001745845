-- The last object of a dictionary that matches another one, and the neighbours of what has a key among what is seen.
use Rattle.vc_base.proofs.Common.{◌≡◌, ℕ, ◌<◌, Bool, true, false, cond, List, [], ◌∷◌, ◌++◌, map, length, IsSome, Some, None, filter, Option, option_map, find, is_eq, sym, refl, ap, ◌∙◌, subst, inl, inr, true≢false, cases_Bool, filter-append, none-some, AllByRecursion, list_any, option_or, AreDistinct, is_ordered}
use Rattle.std.specs.Cmp.{Equal-is}
use Rattle.std.proofs.lemmas.Cmp.{alike_right, tied_itself}
use Rattle.vc_base.proofs.Quantifiers.{all-weaken}
use Rattle.vc_base.proofs.Lists.{filter-map}
use Rattle.vc_dtdisc.proofs.FindingLemmas.{last_from-map}
use Rattle.vc_dtdisc.specs.Objects.{Object, has_key, is_match, placed_each}
use Rattle.vc_dtdisc.specs.Rules.{AreLawful, Rules}
use Rattle.vc_dtdisc.specs.Finding.{before_first, behind_last, first_of, last_from, last_of}
use Rattle.vc_paths.specs.Layers.{AreLayers, Layered, bytes_there, place_behind, place_in}
use Rattle.vc_paths.specs.Links.{Links, path}
use Rattle.vc_paths.specs.Path.{IsPath, is_at, objects_of, place_of, seen_in, visible_of}
use Rattle.vc_paths.specs.Seek.{has_key_in}
use Rattle.vc_paths.specs.Shown.{IsPlaceIn, objects_from}
use Rattle.vc_paths.specs.Visible.{Seen, seen_bytes, stacked_objects}
use Rattle.vc_paths.proofs.EndLemmas.{last-append, last-or, filter-same}
use Rattle.vc_paths.proofs.OrderLemmas.{all_filter, filter_kept, ordered, tied_keys}
use Rattle.vc_paths.proofs.PlaceLemmas.{Standing, fewer-left, from-here, left-beside, place-beside, standing, there}
use Rattle.vc_paths.proofs.SameLemmas.{Agree, Implies, first-same, last-same}
use Rattle.vc_paths.proofs.SeekLemmas.{alike-rules, path-first}
use Rattle.vc_paths.proofs.SightLemmas.{IsThere, all-found, all-last, at-itself, one-there, visible-there}
use Rattle.vc_paths.proofs.SortedLemmas.{kept_sorted}
use Rattle.vc_paths.proofs.StackedLemmas.{find-filter, first_having, stacked-key, with_key}

-- up to a place or to the end, the last that passes a test is this one: where no other passes from there on, and else the last of these
pub record IsLastHere (objects : List Object) (test : Object → Bool) (last : ℕ) (next : Option ℕ) : Type 0 where
  pub is_last : option_or (place_in (last_of (filter test (objects_from next objects)))) (Some last) ≡ place_in (last_of (filter test objects))

place-or : (o p : Option Object) → place_in (option_or o p) ≡ option_or (place_in o) (place_in p)
place-or None p = refl
place-or (Some x) p = refl

or-twice : (o : Option ℕ) (a b : ℕ) → option_or (option_or o (Some a)) (Some b) ≡ option_or o (Some a)
or-twice None a b = refl
or-twice (Some x) a b = refl

-- the rest behind an object, and its place
pub rest-behind : (objects : List Object) (at : ℕ) (s : Standing objects at) → AreDistinct (map (λ o. o.at) objects) → objects_from (place_behind at objects) objects ≡ s.behind
rest-behind objects at s d = left-beside d s false refl

pub place-behind : (objects : List Object) (at : ℕ) → AreDistinct (map (λ o. o.at) objects) → IsSome (bytes_there at objects) → IsPlaceIn objects (place_behind at objects)
place-behind objects at d h = place-beside false (standing objects at d h) refl

pub shorter-behind : (objects : List Object) (at : ℕ) → AreDistinct (map (λ o. o.at) objects) → IsSome (bytes_there at objects) → length (objects_from (place_behind at objects) objects) < length (objects_from (Some at) objects)
shorter-behind objects at d h = fewer-left d (standing objects at d h) false refl

-- from an object on that passes
passing-from : (test : Object → Bool) (x : Object) (xs : List Object) → test x ≡ true → place_in (last_of (filter test (x ∷ xs))) ≡ option_or (place_in (last_of (filter test xs))) (Some x.at)
passing-from test x xs h =
    rw h (ap place_in (last-or (Some x) (filter test xs)) ∙ place-or (last_of (filter test xs)) (Some x))

pub last-start : (objects : List Object) (test : Object → Bool) (at : ℕ) (bytes : List ℕ) → AreDistinct (map (λ o. o.at) objects) → bytes_there at objects ≡ Some bytes → ((o : Object) → o.bytes ≡ bytes → test o ≡ true) → IsLastHere objects test at (place_behind at objects)
last-start objects test at bytes d h passes =
    let s = standing objects at d (subst IsSome (sym h) refl) in
    let same : s.one.bytes ≡ bytes = some_same s.one.bytes bytes (sym (there objects at s) ∙ h) in
    let pass = passes s.one same in
    let split : filter test objects ≡ filter test s.before ++ filter test (s.one ∷ s.behind) = ap (filter test) s.whole ∙ filter-append test s.before (s.one ∷ s.behind) in
    record {
      is_last =
          ap (λ z. option_or (place_in (last_of (filter test z))) (Some at)) (rest-behind objects at s d)
          ∙ ap (λ z. option_or (place_in (last_of (filter test s.behind))) (Some z)) (sym s.here)
          ∙ sym (passing-from test s.one s.behind pass)
          ∙ ap place_in (last_past test s.one s.behind (last_of (filter test s.before)) pass)
          ∙ ap place_in (sym (last-append None (filter test s.before) (filter test (s.one ∷ s.behind))))
          ∙ ap (λ z. place_in (last_of z)) (sym split);
    }
  where
    some_same : (a b : List ℕ) → Some a ≡ Some b → a ≡ b
    some_same a b e = cc

    last_past : (test : Object → Bool) (x : Object) (xs : List Object) (o : Option Object) → test x ≡ true → last_of (filter test (x ∷ xs)) ≡ last_from o (filter test (x ∷ xs))
    last_past test x xs o h = rw h refl

or-passing : (test : Object → Bool) (x : Object) (xs : List Object) (last other : ℕ) (t : Bool) → x.at ≡ other → test x ≡ t → option_or (place_in (last_of (filter test xs))) (Some (cond t other last)) ≡ option_or (place_in (last_of (filter test (x ∷ xs)))) (Some last)
or-passing test x xs last other true e h =
    ap (λ z. option_or (place_in (last_of (filter test xs))) (Some z)) (sym e)
    ∙ sym (or-twice (place_in (last_of (filter test xs))) x.at last)
    ∙ ap (λ z. option_or z (Some last)) (sym (passing-from test x xs h))
or-passing test x xs last other false e h = rw h refl

pub last-next : (objects : List Object) (test : Object → Bool) (last other : ℕ) (bytes : List ℕ) (t : Bool) → AreDistinct (map (λ o. o.at) objects) → bytes_there other objects ≡ Some bytes → ((o : Object) → o.bytes ≡ bytes → test o ≡ t) → IsLastHere objects test last (Some other) → IsLastHere objects test (cond t other last) (place_behind other objects)
last-next objects test last other bytes t d h passes l =
    let s = standing objects other d (subst IsSome (sym h) refl) in
    let same : s.one.bytes ≡ bytes = some_same s.one.bytes bytes (sym (there objects other s) ∙ h) in
    record {
      is_last =
          ap (λ z. option_or (place_in (last_of (filter test z))) (Some (cond t other last))) (rest-behind objects other s d)
          ∙ or-passing test s.one s.behind last other t s.here (passes s.one same)
          ∙ ap (λ z. option_or (place_in (last_of (filter test z))) (Some last)) (sym (from-here objects other s))
          ∙ l.is_last;
    }
  where
    some_same : (a b : List ℕ) → Some a ≡ Some b → a ≡ b
    some_same a b e = cc

pub last-end : (objects : List Object) (test : Object → Bool) (last : ℕ) → IsLastHere objects test last None → Some last ≡ place_in (last_of (filter test objects))
last-end objects test last l = l.is_last

-- an object that passes a test among those of a dictionary is one of the dictionary
dict-of : (e : ℕ) (xs : List Object) (test : Seen ℕ → Bool) (x : Seen ℕ) → find test (map (seen_in e) xs) ≡ Some x → x.dict ≡ e
dict-of e [] test x h = absurd (none-some x h)
dict-of e (y ∷ ys) test x h = elim (cases_Bool (test (seen_in e y))) as (λ _. x.dict ≡ e) [
  | inl k ↦ let same : Some (seen_in e y) ≡ Some x = rw k at h in ap (λ o. dict_or e o) (sym same)
  | inr k ↦ dict-of e ys test x (rw k at h)
]
  where
    dict_or : ℕ → Option (Seen ℕ) → ℕ
    dict_or e None = e
    dict_or e (Some o) = o.dict

-- the first layer that has some is that of the first of them
layer-of : (all : Layered) (test : Seen ℕ → Bool) (es : List ℕ) (x : Seen ℕ) → find test (first_having test (map (objects_of all) es)) ≡ Some x → first_having test (map (objects_of all) es) ≡ objects_of all x.dict
layer-of all test [] x h = absurd (none-some x h)
layer-of all test (e ∷ es) x h = elim (cases_Bool (list_any test (objects_of all e))) as (λ _. first_having test (map (objects_of all) (e ∷ es)) ≡ objects_of all x.dict) [
  | inl k ↦ rw k (ap (objects_of all) (sym (dict-of e (all.layer e).objects test x (rw k at h))))
  | inr k ↦ rw k (layer-of all test es x (rw k at h))
]

-- all that is seen with a key stands in the layer of the first, in the same order
key-ordered : (t : Bool) (rules : Rules) (key : List ℕ) (xs : List (Seen ℕ)) → AreLawful rules → filter (with_key rules key) (cond t (placed_each seen_bytes rules [] xs) xs) ≡ filter (with_key rules key) xs
key-ordered true rules key xs lawful = kept_sorted rules (ordered rules lawful.order) (with_key rules key) (λ x y h g. tied_keys rules lawful.order key x.bytes y.bytes h g) xs
key-ordered false rules key xs lawful = refl

key-visible : (all : Layered) (links : Links) (d : ℕ) (key : List ℕ) → AreLawful (all.layer d).rules → filter (has_key_in all d key) (visible_of all links d) ≡ filter (has_key_in all d key) (first_having (has_key_in all d key) (map (objects_of all) (path links d)))
key-visible all links d key lawful =
    let rules = (all.layer d).rules in
    let layers = map (objects_of all) (path links d) in
    key-ordered (is_ordered (all.layer d).method) rules key (stacked_objects rules [] layers) lawful ∙ stacked-key rules key layers lawful

pub key-layer : (all : Layered) (links : Links) (d : ℕ) (key : List ℕ) (x : Seen ℕ) → AreLawful (all.layer d).rules → find (has_key_in all d key) (visible_of all links d) ≡ Some x → filter (has_key_in all d key) (visible_of all links d) ≡ filter (has_key_in all d key) (objects_of all x.dict)
key-layer all links d key x lawful h =
    let t = has_key_in all d key in
    let layers = map (objects_of all) (path links d) in
    key-visible all links d key lawful
    ∙ ap (filter t) (layer-of all t (path links d) x
    (find-filter t (first_having t layers) ∙ ap first_of (sym (key-visible all links d key lawful)) ∙ sym (find-filter t (visible_of all links d)) ∙ h))

-- an object at a place that was answered
record AtPlace (o : Option (Seen ℕ)) (p : ℕ × ℕ) : Type 0 where
  one : Seen ℕ
  is : o ≡ Some one
  here : place_of one ≡ p

at-place : (o : Option (Seen ℕ)) (p : ℕ × ℕ) → Some p ≡ option_map place_of o → AtPlace o p
at-place None p h = absurd (none-some p (sym h))
at-place (Some x) p h = record { one = x; is = refl; here = let same : p ≡ place_of x = cc in sym same }

-- the places of what has the key of an object are those of what has the key
implies : (all : Layered) (d : ℕ) (key : List ℕ) (x : Seen ℕ) (xs : List (Seen ℕ)) → IsThere all d x → has_key_in all d key x ≡ true → AllByRecursion (IsThere all d) xs → AllByRecursion (Implies (has_key_in all d key) (is_at (place_of x))) xs
implies all d key x xs t h a =
    all-weaken (IsThere all d) (Implies (has_key_in all d key) (is_at (place_of x)))
    xs (λ o there at. ap (has_key (all.layer d).rules key) (one-there all d x o t there at) ∙ h) a

-- a place has an object that is seen, and before it stands the one before the first that has a key
abbrev pub IsFirstWith : Layered → Links → ℕ → List ℕ → ℕ × ℕ → Type 0
IsFirstWith all links d key p = Agree (is_at p) (visible_of all links d) (before_first (has_key_in all d key) (visible_of all links d)) (before_first (is_at p) (visible_of all links d))

-- or behind it the one behind the last
abbrev pub IsLastWith : Layered → Links → ℕ → List ℕ → ℕ × ℕ → Type 0
IsLastWith all links d key p = Agree (is_at p) (visible_of all links d) (behind_last (has_key_in all d key) (visible_of all links d)) (behind_last (is_at p) (visible_of all links d))

-- the object before the first that has a key is that before its place
pub before-key : (all : Layered) (links : Links) (d : ℕ) (key : List ℕ) (p : ℕ × ℕ) → AreLayers all → IsPath all links d → Some p ≡ option_map place_of (find (has_key_in all d key) (visible_of all links d)) → IsFirstWith all links d key p
before-key all links d key p lawful is_path h =
    let t = has_key_in all d key in
    let xs = visible_of all links d in
    let w = at-place (find t xs) p h in
    let there = visible-there all links d lawful is_path in
    let f = all-found (IsThere all d) t xs w.one there w.is in
    subst (IsFirstWith all links d key) w.here
    (first-same t (is_at (place_of w.one)) xs w.one (implies all d key w.one xs f.0 f.1 there) w.is (at-itself w.one))

-- a place that was found is that of an object that has the key
pub record HasKeyAt (all : Layered) (d : ℕ) (key : List ℕ) (p : ℕ × ℕ) : Type 0 where
  pub dict : all.Has p.0
  pub rules : (all.layer p.0).rules ≡ (all.layer d).rules
  pub bytes : List ℕ
  pub there : bytes_there p.1 (all.layer p.0).objects ≡ Some bytes
  pub has : has_key (all.layer d).rules key bytes ≡ true

key-of : (all : Layered) (d : ℕ) (key : List ℕ) (x : Seen ℕ) → AreLayers all → all.Has d → IsThere all d x → has_key_in all d key x ≡ true → HasKeyAt all d key (place_of x)
key-of all d key x lawful h t k = record {
  dict = t.alike.there;
  rules = alike-rules all d x.dict lawful h t.alike;
  bytes = x.bytes;
  there = t.bytes;
  has = k;
}

pub key-at : (all : Layered) (links : Links) (d : ℕ) (key : List ℕ) (p : ℕ × ℕ) → AreLayers all → IsPath all links d → Some p ≡ option_map place_of (find (has_key_in all d key) (visible_of all links d)) → HasKeyAt all d key p
key-at all links d key p lawful is_path h =
    let t = has_key_in all d key in
    let w = at-place (find t (visible_of all links d)) p h in
    let f = all-found (IsThere all d) t (visible_of all links d) w.one (visible-there all links d lawful is_path) w.is in
    subst (HasKeyAt all d key) w.here (key-of all d key w.one lawful (path-first all links d is_path).there f.0 f.1)

-- where an object has a key, to match it is to have the key
match-key : (rules : Rules) (key bytes : List ℕ) → AreLawful rules → has_key rules key bytes ≡ true → (o : List ℕ) → is_match rules bytes o ≡ has_key rules key o
match-key rules key bytes lawful h o =
    ap is_eq (alike_right lawful.order (rules.key bytes) key (rules.key o) ((Equal-is (rules.compare (rules.key bytes) key)).0 h))

-- the last that matches what was found is the last that has the key
last-key : (all : Layered) (links : Links) (d : ℕ) (key : List ℕ) (x : Seen ℕ) → AreLayers all → IsPath all links d → IsThere all d x → has_key_in all d key x ≡ true → find (has_key_in all d key) (visible_of all links d) ≡ Some x → last_of (filter (has_key_in all d key) (visible_of all links d)) ≡ option_map (seen_in x.dict) (last_of (filter (λ o. is_match (all.layer x.dict).rules x.bytes o.bytes) (all.layer x.dict).objects))
last-key all links d key x lawful is_path t k h =
    let there = (path-first all links d is_path).there in
    let rules = alike-rules all d x.dict lawful there t.alike in
    let objects = (all.layer x.dict).objects in
    let laws = lawful.lawful d there in
    ap last_of (key-layer all links d key x laws h)
    ∙ ap last_of (filter-map (seen_in x.dict) (has_key_in all d key) objects)
    ∙ last_from-map (seen_in x.dict) None (filter (λ o. has_key (all.layer d).rules key o.bytes) objects)
    ∙ ap (λ z. option_map (seen_in x.dict) (last_of z)) (sym (filter-same (λ o. is_match (all.layer x.dict).rules x.bytes o.bytes) (λ o. has_key (all.layer d).rules key o.bytes) objects
    (λ o. ap (λ z. is_match z x.bytes o.bytes) rules ∙ match-key (all.layer d).rules key x.bytes laws k o.bytes)))

-- a place of an object
record AtObject (o : Option Object) (l : ℕ) : Type 0 where
  one : Object
  is : o ≡ Some one
  here : one.at ≡ l

at-object : (o : Option Object) (l : ℕ) → Some l ≡ place_in o → AtObject o l
at-object None l h = absurd (none-some l (sym h))
at-object (Some x) l h = record { one = x; is = refl; here = let same : l ≡ x.at = cc in sym same }

-- the object behind the last that has a key is that behind its place
behind-of : (all : Layered) (links : Links) (d : ℕ) (key : List ℕ) (x : Seen ℕ) (l : ℕ) → AreLayers all → IsPath all links d → IsThere all d x → has_key_in all d key x ≡ true → find (has_key_in all d key) (visible_of all links d) ≡ Some x → Some l ≡ place_in (last_of (filter (λ o. is_match (all.layer x.dict).rules x.bytes o.bytes) (all.layer x.dict).objects)) → IsLastWith all links d key (x.dict, l)
behind-of all links d key x l lawful is_path t k h e =
    let test = has_key_in all d key in
    let xs = visible_of all links d in
    let w = at-object (last_of (filter (λ o. is_match (all.layer x.dict).rules x.bytes o.bytes) (all.layer x.dict).objects)) l e in
    let y = seen_in x.dict w.one in
    let last : last_of (filter test xs) ≡ Some y = last-key all links d key x lawful is_path t k h ∙ ap (option_map (seen_in x.dict)) w.is in
    let there = visible-there all links d lawful is_path in
    let ty = all-last (IsThere all d) (filter test xs) y (all_filter (IsThere all d) test xs there) last in
    let ky = all-last (λ o. test o ≡ true) (filter test xs) y (filter_kept test xs) last in
    subst (λ z. IsLastWith all links d key (x.dict, z)) w.here
    (last-same test (is_at (place_of y)) xs y (implies all d key y xs ty ky there) last (at-itself y))

pub behind-key : (all : Layered) (links : Links) (d : ℕ) (key : List ℕ) (p : ℕ × ℕ) (l : ℕ) → AreLayers all → IsPath all links d → Some p ≡ option_map place_of (find (has_key_in all d key) (visible_of all links d)) → ((bytes : List ℕ) → bytes_there p.1 (all.layer p.0).objects ≡ Some bytes → Some l ≡ place_in (last_of (filter (λ o. is_match (all.layer p.0).rules bytes o.bytes) (all.layer p.0).objects))) → IsLastWith all links d key (p.0, l)
behind-key all links d key p l lawful is_path h last =
    let test = has_key_in all d key in
    let w = at-place (find test (visible_of all links d)) p h in
    let f = all-found (IsThere all d) test (visible_of all links d) w.one (visible-there all links d lawful is_path) w.is in
    let dict : w.one.dict ≡ p.0 = ap (λ (q : ℕ × ℕ). q.0) w.here in
    let back : bytes_there w.one.at (all.layer w.one.dict).objects ≡ bytes_there p.1 (all.layer p.0).objects = ap (λ (q : ℕ × ℕ). bytes_there q.1 (all.layer q.0).objects) w.here in
    let e : Some l ≡ place_in (last_of (filter (λ o. is_match (all.layer w.one.dict).rules w.one.bytes o.bytes) (all.layer w.one.dict).objects))
    = subst (λ z. Some l ≡ place_in (last_of (filter (λ o. is_match (all.layer z).rules w.one.bytes o.bytes) (all.layer z).objects))) (sym dict) (last w.one.bytes (sym back ∙ f.0.bytes)) in
    subst (λ z. IsLastWith all links d key (z, l)) dict
    (behind-of all links d key w.one l lawful is_path f.0 f.1 w.is e)

-- an object matches itself
pub match-itself : (rules : Rules) (bytes o : List ℕ) → AreLawful rules → o ≡ bytes → is_match rules bytes o ≡ true
match-itself rules bytes o lawful same =
    ap (is_match rules bytes) same ∙ ap is_eq (tied_itself lawful.order (rules.key bytes))

-- what stands at a place
pub record Bytes (o : Option (List ℕ)) : Type 0 where
  pub bytes : List ℕ
  pub are : o ≡ Some bytes

pub bytes-of : (o : Option (List ℕ)) → IsSome o → Bytes o
bytes-of None h = absurd (true≢false (sym h))
bytes-of (Some x) h = record { bytes = x; are = refl }
