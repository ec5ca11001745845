-- The places of a layer's objects against the holders of its dictionary.
use Rattle.vc_base.proofs.Common.{◌≡◌, ℕ, Bool, true, false, not, List, [], ◌∷◌, map, filter, find, is_ge, is_gt, is_some, IsSome, ◌==◌, Some, None, Ordering, Less, Equal, Greater, sym, refl, ap, ◌∙◌, subst, same_Some, inl, inr, eqb_tells, list_any, filter_agree, Blocks, AreDistinct, contains, first_in, last_in, next_in, previous_in}
use Rattle.std.specs.Ordering.{is_lt}
use Rattle.vc_base.proofs.Lists.{filter-map}
use Rattle.vc_base.proofs.Quantifiers.{any-map}
use Rattle.vc_dtdisc.specs.Finding.{before_first, first_of, last_of}
use Rattle.vc_dtdisc.specs.Finds.{find_key, object_at}
use Rattle.vc_dtdisc.specs.Objects.{Object, bytes_of, is_match}
use Rattle.vc_dtdisc.proofs.AddressLemmas.{before_first-previous_in, last_of-last_in}
use Rattle.vc_dtdisc.proofs.FindingLemmas.{before_first-map, first_of-map, last_of-map}
use Rattle.vc_dtdisc.proofs.ObjectsLemmas.{first_with-map}
use Rattle.vc_objects.specs.Parts.{object_of}
use Rattle.vc_objects.proofs.Mapped.{address-mapped, first-mapped}
use Rattle.vc_paths.proofs.StackedLemmas.{find-filter}
use Rattle.vc_paths.specs.Layers.{Layer, bytes_there, place_before, place_behind, place_in, place_with, stands_at}
use Rattle.vc_algebra.specs.Sides.{holder_like, last_place_like, sought_holder, sought_place}
use Rattle.vc_algebra.specs.declared.side.Side.{Side}
use Rattle.vc_algebra.specs.declared.side.Side.TheVariants.{Above, AtLeast, Below, Level}

-- what isn't less
ge-not-lt : (o : Ordering) → not (is_lt o) ≡ is_ge o
ge-not-lt Less = refl
ge-not-lt Equal = refl
ge-not-lt Greater = refl

module _ (b : Blocks) where
  pub first-place : (xs : List ℕ) → place_in (first_of (map (object_of b) xs)) ≡ first_in xs
  first-place xs = ap place_in (first-mapped b xs) ∙ address-mapped b (first_in xs)

  pub last-place : (xs : List ℕ) → place_in (last_of (map (object_of b) xs)) ≡ last_in xs
  last-place xs = ap place_in (last_of-map (object_of b) xs) ∙ address-mapped b (last_of xs) ∙ last_of-last_in xs

  any-there : (at : ℕ) (xs : List ℕ) → list_any (stands_at at) (map (object_of b) xs) ≡ contains xs at
  any-there at xs = any-map (object_of b) (stands_at at) xs

  pub behind-place : (at : ℕ) (xs : List ℕ) → AreDistinct xs → place_behind at (map (object_of b) xs) ≡ next_in at xs
  behind-place at [] d = refl
  behind-place at (x ∷ xs) d = elim (eqb_tells x at) as (λ _. place_behind at (map (object_of b) (x ∷ xs)) ≡ next_in at (x ∷ xs)) [
    | inl same ↦ rw (same.0, any-there at xs, subst (λ z. contains xs z ≡ false) same.1 d.0) (first-place xs)
    | inr apart ↦ rw apart.0 (behind-place at xs d.1)
  ]

  pub before-place : (at : ℕ) (xs : List ℕ) → place_before at (map (object_of b) xs) ≡ previous_in None at xs
  before-place at xs =
      ap place_in (before_first-map (object_of b) (stands_at at) xs)
      ∙ address-mapped b (before_first (λ x. x == at) xs) ∙ before_first-previous_in None at xs

  -- the first and the last of a layer that pass a test
  first-passing : (l : Layer) (test : Object → Bool) (xs : List ℕ) → l.objects ≡ map (object_of b) xs → place_in (first_of (filter test l.objects)) ≡ find (λ x. test (object_of b x)) xs
  first-passing l test xs objects =
      ap (λ os. place_in (first_of (filter test os))) objects
      ∙ ap (λ os. place_in (first_of os)) (filter-map (object_of b) test xs)
      ∙ ap place_in (first_of-map (object_of b) (filter (λ x. test (object_of b x)) xs))
      ∙ address-mapped b (first_of (filter (λ x. test (object_of b x)) xs))
      ∙ sym (find-filter (λ x. test (object_of b x)) xs)

  pub last-passing : (l : Layer) (test : Object → Bool) (xs : List ℕ) → l.objects ≡ map (object_of b) xs → place_in (last_of (filter test l.objects)) ≡ last_of (filter (λ x. test (object_of b x)) xs)
  last-passing l test xs objects =
      ap (λ os. place_in (last_of (filter test os))) objects
      ∙ ap (λ os. place_in (last_of os)) (filter-map (object_of b) test xs)
      ∙ ap place_in (last_of-map (object_of b) (filter (λ x. test (object_of b x)) xs))
      ∙ address-mapped b (last_of (filter (λ x. test (object_of b x)) xs))

  -- what is sought by a key
  pub place-stands : (side : Side) (l : Layer) (key xs : List ℕ) → l.objects ≡ map (object_of b) xs → sought_place side l key ≡ sought_holder side l.rules b key xs
  place-stands Below l key xs objects = last-passing l (λ o. is_lt (l.rules.compare (l.rules.key o.bytes) key)) xs objects
  place-stands Level l key xs objects =
      ap (place_with l.rules key) objects
      ∙ ap place_in (first_with-map (object_of b) bytes_of l.rules key xs) ∙ address-mapped b (find_key l.rules b key xs)
  place-stands AtLeast l key xs objects =
      let stands = λ (o : Object). l.rules.compare (l.rules.key o.bytes) key in
      ap (λ os. place_in (first_of os)) (filter_agree (λ o. not (is_lt (stands o))) (λ o. is_ge (stands o)) (λ o. ge-not-lt (stands o)) l.objects)
      ∙ first-passing l (λ o. is_ge (stands o)) xs objects
  place-stands Above l key xs objects = first-passing l (λ o. is_gt (l.rules.compare (l.rules.key o.bytes) key)) xs objects

  -- the object at a holder's address
  pub bytes-here : (at : ℕ) (xs : List ℕ) → contains xs at ≡ true → bytes_there at (map (object_of b) xs) ≡ Some (object_at b at)
  bytes-here at [] h = cc
  bytes-here at (x ∷ xs) h = elim (eqb_tells x at) as (λ _. bytes_there at (map (object_of b) (x ∷ xs)) ≡ Some (object_at b at)) [
    | inl same ↦ rw same.0 (ap (λ z. Some (object_at b z)) same.1)
    | inr apart ↦ rw apart.0 (bytes-here at xs (rw apart.0 at h))
  ]

  -- where one stands, there is a holder
  pub holder-here : (at : ℕ) (xs : List ℕ) → IsSome (bytes_there at (map (object_of b) xs)) → contains xs at ≡ true
  holder-here at [] h = cc
  holder-here at (x ∷ xs) h = elim (eqb_tells x at) as (λ _. contains (x ∷ xs) at ≡ true) [
    | inl same ↦ rw same.0 refl
    | inr apart ↦ rw apart.0 (holder-here at xs (rw apart.0 at h))
  ]

  -- the last that matches one
  pub last-stands : (at : ℕ) (l : Layer) (bytes xs : List ℕ) → l.objects ≡ map (object_of b) xs → bytes_there at l.objects ≡ Some bytes → last_place_like l bytes ≡ holder_like l.rules b at xs
  last-stands at l bytes xs objects there =
      let here : bytes_there at (map (object_of b) xs) ≡ Some bytes = subst (λ os. bytes_there at os ≡ Some bytes) objects there in
      let within = holder-here at xs (ap is_some here) in
      let same : object_at b at ≡ bytes = same_Some (object_at b at) bytes (sym (bytes-here at xs within) ∙ here) in
      last-passing l (λ o. is_match l.rules bytes o.bytes) xs objects
      ∙ ap (λ z. last_of (filter (λ x. is_match l.rules z (object_at b x)) xs)) (sym same)
