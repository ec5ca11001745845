-- A walk along the objects of a dictionary, to the next one that isn't hidden.
use Rattle.vc_base.proofs.Common.{◌≡◌, ℕ, ◌<◌, Bool, true, false, cond, not, List, map, length, is_some, IsSome, Some, None, Option, option_map, sym, refl, ap, ◌∙◌, subst, AreDistinct}
use Rattle.vc_dtdisc.specs.Finding.{first_of, last_of}
use Rattle.vc_dtdisc.specs.Objects.{Object}
use Rattle.vc_paths.specs.Direction.{end_of, objects_left, place_beside}
use Rattle.vc_paths.specs.Layers.{AreLayers, Layered, bytes_there, place_in, Same, Layer}
use Rattle.vc_paths.specs.Links.{Links}
use Rattle.vc_paths.specs.Path.{IsAlike}
use Rattle.vc_paths.specs.Shown.{IsPlaceIn, is_covered, objects_from, objects_up_to, places, unhidden_objects}
use Rattle.vc_paths.proofs.EndLemmas.{end-map}
use Rattle.vc_paths.proofs.PlaceLemmas.{Standing, end-kept, fewer-left, left-beside, left-here, place-beside, rest_of, standing, there}
use Rattle.vc_paths.proofs.StayLemmas.{covered-kept, same-over}

-- an object that stood at a place stands there still
pub place-kept : {all now : Layered} (e a : ℕ) → Same all now → IsSome (bytes_there a (all.layer e).objects) → IsSome (bytes_there a (now.layer e).objects)
place-kept e a same h = subst (λ (z : ℕ → Layer). IsSome (bytes_there a (z e).objects)) (sym same.layers) h

-- a walk at an object of e: what stood around it when the walk began, that all dictionaries stayed, and whether it is hidden
pub record Stop (all now : Layered) (links : Links) (d e a : ℕ) (at : Option ℕ) (hidden : Bool) : Type 0 where
  pub is : at ≡ Some a
  pub same : Same all now
  pub apart : AreDistinct (map (λ o. o.at) (all.layer e).objects)
  pub around : Standing (all.layer e).objects a
  pub answer : is_covered all links d e around.one.bytes ≡ hidden

-- so it is where a test of the object was told that
pub stop-at : {all before now : Layered} {links : Links} {d e a : ℕ} {at : Option ℕ} {hidden : Bool}
    → AreLayers all → IsAlike all d e → IsPlaceIn (all.layer e).objects at → at ≡ Some a → Same all before
    → ((bytes : List ℕ) → bytes_there a (before.layer e).objects ≡ Some bytes → hidden ≡ is_covered before links d e bytes) → Same before now
    → Stop all now links d e a at hidden
stop-at {all} {before} {now} {links} {d} {e} {a} laws like place is same told kept =
    let apart = laws.distinct e like.there in
    let s = standing (all.layer e).objects a apart (place a is) in
    record {
      is = is;
      same = same-over same kept;
      apart = apart;
      around = s;
      answer = sym (told s.one.bytes (ap (λ (z : ℕ → Layer). bytes_there a (z e).objects) same.layers ∙ there (all.layer e).objects a s)
          ∙ covered-kept links d e s.one.bytes same);
    }

module _ {all now : Layered} {links : Links} {d e a : ℕ} {at : Option ℕ} {hidden : Bool} (w : Stop all now links d e a at hidden) where
  abbrev objects : List Object
  objects = (all.layer e).objects

  abbrev around : Standing objects a
  around = w.around

  abbrev shows : List Object → List Object
  shows = unhidden_objects all links d e

  -- what is shown of what is left: the object, or where it is hidden that of the rest
  shown-here : (back : Bool) → end_of back (shows (objects_left back at objects)) ≡ cond (not hidden) (Some around.one) (end_of back (shows (rest_of back around)))
  shown-here back =
      ap (λ z. end_of back (shows z)) (ap (λ z. objects_left back z objects) w.is ∙ left-here back around)
      ∙ end-kept back (λ o. not (is_covered all links d e o.bytes)) (rest_of back around) around.one
      ∙ ap (λ z. cond (not z) (Some around.one) (end_of back (shows (rest_of back around)))) w.answer

  pub there-still : IsSome (bytes_there a (now.layer e).objects)
  there-still = place-kept e a w.same (ap is_some (there objects a around))

  -- it isn't hidden
  pub end-seen : (back : Bool) → hidden ≡ false → Some a ≡ place_in (end_of back (shows (objects_left back at objects)))
  end-seen back h = ap (λ z. Some z) (sym around.here) ∙ ap place_in (sym (shown-here back ∙ ap (λ z. cond (not z) (Some around.one) (end_of back (shows (rest_of back around)))) h))

  -- the walk goes on to its neighbour
  module _ (back : Bool) {next : Option ℕ} (on : next ≡ place_beside back a (now.layer e).objects) where
    beside-it : next ≡ place_beside back a objects
    beside-it = on ∙ ap (λ (z : ℕ → Layer). place_beside back a (z e).objects) w.same.layers

    pub next-place : IsPlaceIn objects next
    next-place = place-beside back around beside-it

    pub fewer-next : length (objects_left back next objects) < length (objects_left back at objects)
    fewer-next = subst (λ z. length (objects_left back next objects) < length (objects_left back z objects)) (sym w.is) (fewer-left w.apart around back beside-it)

    pub end-past : hidden ≡ true → end_of back (shows (objects_left back at objects)) ≡ end_of back (shows (objects_left back next objects))
    end-past h =
        shown-here back
        ∙ ap (λ z. cond (not z) (Some around.one) (end_of back (shows (rest_of back around)))) h
        ∙ ap (λ z. end_of back (shows z)) (sym (left-beside w.apart around back beside-it))

-- without a place there is none
pub end-none : (back : Bool) (all : Layered) (links : Links) (d e : ℕ) {at : Option ℕ} → at ≡ None → None ≡ place_in (end_of back (unhidden_objects all links d e (objects_left back at (all.layer e).objects)))
end-none false all links d e is = ap (λ z. place_in (first_of (unhidden_objects all links d e (objects_from z (all.layer e).objects)))) (sym is)
end-none true all links d e is = ap (λ z. place_in (last_of (unhidden_objects all links d e (objects_up_to z (all.layer e).objects)))) (sym is)

-- the places of what is found
place-told : (e : ℕ) (o : Option Object) → option_map {U = ℕ × ℕ} (λ a. (e, a)) (place_in o) ≡ option_map {U = ℕ × ℕ} (λ x. (e, x.at)) o
place-told e None = refl
place-told e (Some x) = refl

pub end-place : (back : Bool) (e : ℕ) (xs : List Object) → option_map {U = ℕ × ℕ} (λ a. (e, a)) (place_in (end_of back xs)) ≡ end_of back (places e xs)
end-place back e xs = place-told e (end_of back xs) ∙ sym (end-map {B = ℕ × ℕ} back (λ x. (e, x.at)) xs)
