-- The objects of a dictionary around the one at an address.
use Rattle.vc_base.proofs.Common.{◌≡◌, ℕ, ◌<◌, Bool, true, false, cond, eqb, ◌≢◌, List, [], ◌∷◌, ◌++◌, map, length, IsSome, Some, None, filter, Option, option_map, find, sym, refl, ap, ◌∙◌, subst, inl, inr, true≢false, append_assoc, append-nil, arith, length-append, map-append, eq-eqb, ne_eqb, eqb-true, cases_Bool, or_from, or_parts, none-some, same_Some, list_any, AreDistinct, contains}
use Rattle.vc_base.proofs.Quantifiers.{any-map}
use Rattle.vc_dtdisc.specs.Finding.{before_first, behind_last, first_of, last_from, last_of}
use Rattle.vc_dtdisc.specs.Objects.{Object}
use Rattle.vc_paths.specs.Direction.{end_of, neighbour, objects_left, place_beside}
use Rattle.vc_paths.specs.Layers.{bytes_there, place_before, place_behind, place_in, stands_at}
use Rattle.vc_paths.specs.Shown.{IsPlaceIn, from_at, objects_from, objects_up_to, up_to}
use Rattle.vc_paths.proofs.EndLemmas.{before-at, behind-at, last-append, parted}

-- numbers that are distinct stand just once
pub apart-once : (xs : List ℕ) (y : ℕ) (ys : List ℕ) → AreDistinct (xs ++ y ∷ ys) → (contains xs y ≡ false) × (contains ys y ≡ false)
apart-once [] y ys d = (refl, d.0)
apart-once (x ∷ xs) y ys d =
    let w = apart-once xs y ys d.1 in
    let ne : x ≢ y = λ same. true≢false (sym (there xs) ∙ ap (λ z. contains (xs ++ y ∷ ys) z) (sym same) ∙ d.0) in
    (or_from (eqb x y) (contains xs y) (ne_eqb x y ne) w.0, w.1)
  where
    there : (zs : List ℕ) → contains (zs ++ y ∷ ys) y ≡ true
    there [] = rw (eq-eqb y y refl) refl
    there (z ∷ zs) = elim (cases_Bool (eqb z y)) as (λ _. contains (z ∷ zs ++ y ∷ ys) y ≡ true) [
      | inl h ↦ rw h refl
      | inr h ↦ rw h (there zs)
    ]

-- an object among others, at an address of its own
pub record Standing (objects : List Object) (at : ℕ) : Type 0 where
  pub before : List Object
  pub one : Object
  pub behind : List Object
  pub whole : objects ≡ before ++ one ∷ behind
  pub here : one.at ≡ at
  pub first : list_any (stands_at at) before ≡ false
  pub last : list_any (stands_at at) behind ≡ false

map-joined : (xs : List Object) (y : Object) (ys : List Object) → map (λ o. o.at) (xs ++ y ∷ ys) ≡ map (λ o. o.at) xs ++ y.at ∷ map (λ o. o.at) ys
map-joined [] y ys = refl
map-joined (x ∷ xs) y ys = ap (λ z. x.at ∷ z) (map-joined xs y ys)

-- the addresses of two parts and of what stands between them
apart-object : (xs : List Object) (y : Object) (ys : List Object) → AreDistinct (map (λ o. o.at) (xs ++ y ∷ ys)) → (list_any (stands_at y.at) xs ≡ false) × (list_any (stands_at y.at) ys ≡ false)
apart-object xs y ys d =
    let w = apart-once (map (λ o. o.at) xs) y.at (map (λ o. o.at) ys) (subst AreDistinct (map-joined xs y ys) d) in
    (sym (any-map (λ o. o.at) (λ x. eqb x y.at) xs) ∙ w.0, sym (any-map (λ o. o.at) (λ x. eqb x y.at) ys) ∙ w.1)

found-some : (at : ℕ) (objects : List Object) → IsSome (bytes_there at objects) → list_any (stands_at at) objects ≡ true
found-some at [] h = absurd (true≢false (sym h))
found-some at (x ∷ xs) h = elim (cases_Bool (stands_at at x)) as (λ _. list_any (stands_at at) (x ∷ xs) ≡ true) [
  | inl k ↦ rw k refl
  | inr k ↦ rw k (found-some at xs (rw k at h))
]

pub standing-any : (objects : List Object) (at : ℕ) → AreDistinct (map (λ o. o.at) objects) → list_any (stands_at at) objects ≡ true → Standing objects at
standing-any objects at d h =
    let w = parted (stands_at at) objects h in
    let same = eqb-true w.one.at at w.passes in
    let apart = apart-object w.front w.one w.back (subst (λ z. AreDistinct (map (λ o. o.at) z)) w.whole d) in
    record {
      before = w.front;
      one = w.one;
      behind = w.back;
      whole = w.whole;
      here = same;
      first = w.none;
      last = subst (λ z. list_any (stands_at z) w.back ≡ false) same apart.1;
    }

pub standing : (objects : List Object) (at : ℕ) → AreDistinct (map (λ o. o.at) objects) → IsSome (bytes_there at objects) → Standing objects at
standing objects at d h = standing-any objects at d (found-some at objects h)

-- past objects that stand elsewhere
find-past : (at : ℕ) (xs ys : List Object) → list_any (stands_at at) xs ≡ false → find (stands_at at) (xs ++ ys) ≡ find (stands_at at) ys
find-past at [] ys none = refl
find-past at (x ∷ xs) ys none = let w = or_parts (stands_at at x) (list_any (stands_at at) xs) none in rw w.0 (find-past at xs ys w.1)

-- an object among others is the one at its address
pub there-at : (xs : List Object) (y : Object) (ys : List Object) → AreDistinct (map (λ o. o.at) (xs ++ y ∷ ys)) → bytes_there y.at (xs ++ y ∷ ys) ≡ Some y.bytes
there-at xs y ys d =
    let found : find (stands_at y.at) (y ∷ ys) ≡ Some y = rw (eq-eqb y.at y.at refl) refl in
    ap (option_map (λ o. o.bytes)) (find-past y.at xs (y ∷ ys) (apart-object xs y ys d).0 ∙ found)

from-past : (at : ℕ) (xs : List Object) (y : Object) (ys : List Object) → list_any (stands_at at) xs ≡ false → y.at ≡ at → from_at at (xs ++ y ∷ ys) ≡ y ∷ ys
from-past at [] y ys none e = rw (eq-eqb y.at at e) refl
from-past at (x ∷ xs) y ys none e = let w = or_parts (stands_at at x) (list_any (stands_at at) xs) none in rw w.0 (from-past at xs y ys w.1 e)

up_to-past : (at : ℕ) (xs : List Object) (y : Object) (ys : List Object) → list_any (stands_at at) xs ≡ false → y.at ≡ at → up_to at (xs ++ y ∷ ys) ≡ xs ++ y ∷ []
up_to-past at [] y ys none e = rw (eq-eqb y.at at e) refl
up_to-past at (x ∷ xs) y ys none e = let w = or_parts (stands_at at x) (list_any (stands_at at) xs) none in rw w.0 (ap (λ z. x ∷ z) (up_to-past at xs y ys w.1 e))

module _ (objects : List Object) (at : ℕ) (s : Standing objects at) where
  pub there : bytes_there at objects ≡ Some s.one.bytes
  there =
      let found : find (stands_at at) (s.one ∷ s.behind) ≡ Some s.one = rw (eq-eqb s.one.at at s.here) refl in
      ap (λ z. bytes_there at z) s.whole
      ∙ ap (option_map (λ o. o.bytes)) (find-past at s.before (s.one ∷ s.behind) s.first ∙ found)

  pub from-here : objects_from (Some at) objects ≡ s.one ∷ s.behind
  from-here = ap (λ z. from_at at z) s.whole ∙ from-past at s.before s.one s.behind s.first s.here

  pub up_to-here : objects_up_to (Some at) objects ≡ s.before ++ s.one ∷ []
  up_to-here = ap (λ z. up_to at z) s.whole ∙ up_to-past at s.before s.one s.behind s.first s.here

  pub behind-one : behind_last (stands_at at) objects ≡ first_of s.behind
  behind-one = ap (behind_last (stands_at at)) s.whole ∙ behind-at (stands_at at) s.before s.one s.behind (eq-eqb s.one.at at s.here) s.last

  pub before-one : before_first (stands_at at) objects ≡ last_of s.before
  before-one = ap (before_first (stands_at at)) s.whole ∙ before-at (stands_at at) None s.before s.one s.behind (eq-eqb s.one.at at s.here) s.first

  pub behind-here : place_behind at objects ≡ place_in (first_of s.behind)
  behind-here = ap place_in behind-one

  pub before-here : place_before at objects ≡ place_in (last_of s.before)
  before-here = ap place_in before-one

  pub in-front : objects ≡ (s.before ++ s.one ∷ []) ++ s.behind
  in-front = s.whole ∙ sym (append_assoc s.before (s.one ∷ []) s.behind)

-- the objects from the first of a rest on are that rest, and those up to the last of a front are that front
pub from-first : (front rest : List Object) → AreDistinct (map (λ o. o.at) (front ++ rest)) → objects_from (place_in (first_of rest)) (front ++ rest) ≡ rest
from-first front [] d = refl
from-first front (y ∷ ys) d = from-past y.at front y ys (apart-object front y ys d).0 refl

-- a list is empty, or it ends in its last
pub data Ends (xs : List Object) : Type 0 where
  none : xs ≡ [] → Ends xs
  some : (front : List Object) (y : Object) → xs ≡ front ++ y ∷ [] → Ends xs

pub ends : (xs : List Object) → Ends xs
ends [] = none refl
ends (x ∷ xs) = elim (ends xs) as (λ _. Ends (x ∷ xs)) [
  | none e ↦ some [] x (ap (λ z. x ∷ z) e)
  | some front y e ↦ some (x ∷ front) y (ap (λ z. x ∷ z) e)
]

pub up_to-last : (front rest : List Object) → AreDistinct (map (λ o. o.at) (front ++ rest)) → objects_up_to (place_in (last_of front)) (front ++ rest) ≡ front
up_to-last front rest d = elim (ends front) as (λ _. objects_up_to (place_in (last_of front)) (front ++ rest) ≡ front) [
  | none e ↦ rw e refl
  | some less y e ↦
      let joined : front ++ rest ≡ less ++ y ∷ rest = ap (λ z. z ++ rest) e ∙ append_assoc less (y ∷ []) rest in
      ap (λ z. objects_up_to (place_in z) (front ++ rest)) (ap last_of e ∙ last-append None less (y ∷ []))
      ∙ ap (λ z. up_to y.at z) joined
      ∙ up_to-past y.at less y rest (apart-object less y rest (subst (λ z. AreDistinct (map (λ o. o.at) z)) joined d)).0 refl
      ∙ sym e
]

-- the first of a rest, or the last of a front, is the one at its address
pub first-there : (front rest : List Object) (x : Object) → AreDistinct (map (λ o. o.at) (front ++ rest)) → first_of rest ≡ Some x → bytes_there x.at (front ++ rest) ≡ Some x.bytes
first-there front [] x d e = cc
first-there front (y ∷ ys) x d e =
    let same : y ≡ x = cc in
    subst (λ (z : Object). bytes_there z.at (front ++ y ∷ ys) ≡ Some z.bytes) same (there-at front y ys d)

pub last-there : (front rest : List Object) (x : Object) → AreDistinct (map (λ o. o.at) (front ++ rest)) → last_of front ≡ Some x → bytes_there x.at (front ++ rest) ≡ Some x.bytes
last-there front rest x d e = elim (ends front) as (λ _. bytes_there x.at (front ++ rest) ≡ Some x.bytes) [
  | none k ↦ absurd (none-some x (ap last_of (sym k) ∙ e))
  | some less y k ↦
      let joined : front ++ rest ≡ less ++ y ∷ rest = ap (λ z. z ++ rest) k ∙ append_assoc less (y ∷ []) rest in
      let last : Some y ≡ Some x = sym (ap last_of k ∙ last-append None less (y ∷ [])) ∙ e in
      let same : y ≡ x = cc in
      subst (λ (z : Object). bytes_there z.at (front ++ rest) ≡ Some z.bytes) same
      (ap (bytes_there y.at) joined ∙ there-at less y rest (subst (λ z. AreDistinct (map (λ o. o.at) z)) joined d))
]

-- an object of a list stands at a place
there-first : (front : List Object) (y : Object) (rest : List Object) → IsSome (bytes_there y.at (front ++ y ∷ rest))
there-first [] y rest = rw (eq-eqb y.at y.at refl) refl
there-first (x ∷ xs) y rest = elim (cases_Bool (stands_at y.at x)) as (λ _. IsSome (bytes_there y.at (x ∷ xs ++ y ∷ rest))) [
  | inl h ↦ rw h refl
  | inr h ↦ rw h (there-first xs y rest)
]

pub place-first : (front rest : List Object) → IsPlaceIn (front ++ rest) (place_in (first_of rest))
place-first front [] = λ a e. absurd (none_some a e)
  where
    none_some : (a : ℕ) → ◌≡◌ {A = Option ℕ} None (Some a) → ⊥
    none_some a e = cc
place-first front (y ∷ ys) = λ a e. subst (λ z. IsSome (bytes_there z (front ++ y ∷ ys))) (same_Some y.at a e) (there-first front y ys)

pub place-last : (front rest : List Object) → IsPlaceIn (front ++ rest) (place_in (last_of front))
place-last front rest = elim (ends front) as (λ _. IsPlaceIn (front ++ rest) (place_in (last_of front))) [
  | none e ↦ λ a h. absurd (none_some a (ap (λ z. place_in (last_of z)) (sym e) ∙ h))
  | some less y e ↦ λ a h.
      let joined : front ++ rest ≡ less ++ y ∷ rest = ap (λ z. z ++ rest) e ∙ append_assoc less (y ∷ []) rest in
      let same = same_Some y.at a (ap place_in (sym (last-append None less (y ∷ []))) ∙ ap (λ z. place_in (last_of z)) (sym e) ∙ h) in
      subst (λ z. IsSome (bytes_there z (front ++ rest))) same (subst (λ z. IsSome (bytes_there y.at z)) (sym joined) (there-first less y rest))
]
  where
    none_some : (a : ℕ) → ◌≡◌ {A = Option ℕ} None (Some a) → ⊥
    none_some a e = cc

-- what a walk has left behind the object at which it is
abbrev pub rest_of : Bool → {objects : List Object} {at : ℕ} → Standing objects at → List Object
rest_of false s = s.behind
rest_of true s = s.before

-- a list with one more where a walk begins
abbrev pub with_end : {A : Type 0} → Bool → List A → A → List A
with_end false xs y = y ∷ xs
with_end true xs y = xs ++ y ∷ []

-- of those that pass a test the walk comes first to this one, where it does
pub end-kept : {A : Type 0} (back : Bool) (p : A → Bool) (xs : List A) (y : A) → end_of back (filter p (with_end back xs y)) ≡ cond (p y) (Some y) (end_of back (filter p xs))
end-kept false p xs y = elim (cases_Bool (p y)) as (λ _. first_of (filter p (y ∷ xs)) ≡ cond (p y) (Some y) (first_of (filter p xs))) [
  | inl t ↦ rw t refl
  | inr t ↦ rw t refl
]
end-kept {A = A} true p xs y = last-kept None xs
  where
    last-kept : (before : Option A) (zs : List A) → last_from before (filter p (zs ++ y ∷ [])) ≡ cond (p y) (Some y) (last_from before (filter p zs))
    last-kept before [] = elim (cases_Bool (p y)) as (λ _. last_from before (filter p (y ∷ [])) ≡ cond (p y) (Some y) before) [
      | inl t ↦ rw t refl
      | inr t ↦ rw t refl
    ]
    last-kept before (z ∷ zs) = elim (cases_Bool (p z)) as (λ _. last_from before (filter p ((z ∷ zs) ++ y ∷ [])) ≡ cond (p y) (Some y) (last_from before (filter p (z ∷ zs)))) [
      | inl t ↦ rw t (last-kept (Some z) zs)
      | inr t ↦ rw t (last-kept before zs)
    ]

pub map-with_end : {A B : Type 0} (back : Bool) (f : A → B) (xs : List A) (y : A) → map f (with_end back xs y) ≡ with_end back (map f xs) (f y)
map-with_end false f xs y = refl
map-with_end true f xs y = map-append f xs (y ∷ [])

more_with_end : {A : Type 0} (back : Bool) (xs : List A) (y : A) → length xs < length (with_end back xs y)
more_with_end false xs y = omega arith
more_with_end true xs y = let more = length-append xs (y ∷ []) in omega arith

-- where the walk is, the object there and the rest are left, and at its neighbour the rest is
pub left-here : (back : Bool) {objects : List Object} {at : ℕ} (s : Standing objects at) → objects_left back (Some at) objects ≡ with_end back (rest_of back s) s.one
left-here false {objects} {at} s = from-here objects at s
left-here true {objects} {at} s = up_to-here objects at s

pub neighbour-here : (back : Bool) {objects : List Object} {at : ℕ} (s : Standing objects at) → neighbour back (stands_at at) objects ≡ end_of back (rest_of back s)
neighbour-here false {objects} {at} s = behind-one objects at s
neighbour-here true {objects} {at} s = before-one objects at s

module _ {objects : List Object} (apart : AreDistinct (map (λ o. o.at) objects)) where
  pub left-end : (back : Bool) {next : Option ℕ} → next ≡ place_in (end_of back objects) → objects_left back next objects ≡ objects
  left-end false e = ap (λ z. objects_from z objects) e ∙ from-first [] objects apart
  left-end true e =
      ap (λ z. objects_up_to z objects) e
      ∙ ap (objects_up_to (place_in (last_of objects))) (sym (append-nil objects))
      ∙ up_to-last objects [] (subst (λ z. AreDistinct (map (λ o. o.at) z)) (sym (append-nil objects)) apart)

  module _ {at : ℕ} (s : Standing objects at) where
    pub left-beside : (back : Bool) {next : Option ℕ} → next ≡ place_beside back at objects → objects_left back next objects ≡ rest_of back s
    left-beside false e =
        ap (λ z. objects_from z objects) (e ∙ behind-here objects at s)
        ∙ ap (objects_from (place_in (first_of s.behind))) (in-front objects at s)
        ∙ from-first (s.before ++ s.one ∷ []) s.behind (subst (λ z. AreDistinct (map (λ o. o.at) z)) (in-front objects at s) apart)
    left-beside true e =
        ap (λ z. objects_up_to z objects) (e ∙ before-here objects at s)
        ∙ ap (objects_up_to (place_in (last_of s.before))) s.whole
        ∙ up_to-last s.before (s.one ∷ s.behind) (subst (λ z. AreDistinct (map (λ o. o.at) z)) s.whole apart)

    pub fewer-left : (back : Bool) {next : Option ℕ} → next ≡ place_beside back at objects → length (objects_left back next objects) < length (objects_left back (Some at) objects)
    fewer-left back e = rw (left-beside back e, left-here back s) (more_with_end back (rest_of back s) s.one)

    pub beside-there : (back : Bool) (x : Object) → end_of back (rest_of back s) ≡ Some x → bytes_there x.at objects ≡ Some x.bytes
    beside-there false x e = ap (bytes_there x.at) (in-front objects at s) ∙ first-there (s.before ++ s.one ∷ []) s.behind x (subst (λ z. AreDistinct (map (λ o. o.at) z)) (in-front objects at s) apart) e
    beside-there true x e = ap (bytes_there x.at) s.whole ∙ last-there s.before (s.one ∷ s.behind) x (subst (λ z. AreDistinct (map (λ o. o.at) z)) s.whole apart) e

pub end-there : (objects : List Object) → AreDistinct (map (λ o. o.at) objects) → (back : Bool) (x : Object) → end_of back objects ≡ Some x → bytes_there x.at objects ≡ Some x.bytes
end-there objects apart false x e = first-there [] objects x apart e
end-there objects apart true x e = ap (bytes_there x.at) (sym (append-nil objects)) ∙ last-there objects [] x (subst (λ z. AreDistinct (map (λ o. o.at) z)) (sym (append-nil objects)) apart) e

pub place-beside : (back : Bool) {objects : List Object} {at : ℕ} (s : Standing objects at) {next : Option ℕ} → next ≡ place_beside back at objects → IsPlaceIn objects next
place-beside false {objects} {at} s e =
    subst (IsPlaceIn objects) (sym (e ∙ behind-here objects at s))
    (subst (λ z. IsPlaceIn z (place_in (first_of s.behind))) (sym (in-front objects at s)) (place-first (s.before ++ s.one ∷ []) s.behind))
place-beside true {objects} {at} s e =
    subst (IsPlaceIn objects) (sym (e ∙ before-here objects at s))
    (subst (λ z. IsPlaceIn z (place_in (last_of s.before))) (sym s.whole) (place-last s.before (s.one ∷ s.behind)))

pub place-end : (back : Bool) (objects : List Object) {next : Option ℕ} → next ≡ place_in (end_of back objects) → IsPlaceIn objects next
place-end false objects e = subst (IsPlaceIn objects) (sym e) (place-first [] objects)
place-end true objects e = subst (IsPlaceIn objects) (sym e) (subst (λ z. IsPlaceIn z (place_in (last_of objects))) (append-nil objects) (place-last objects []))
