-- A walk behind an object of a dictionary that keeps the last one that matches it.
use Rattle.vc_base.proofs.Common.{◌≡◌, ℕ, ◌<◌, List, length, if◌then◌else◌, IsSome, Some, None, filter, Option, sym, ap, subst}
use Rattle.vc_dtdisc.specs.Finding.{last_of}
use Rattle.vc_dtdisc.specs.Objects.{is_match}
use Rattle.vc_paths.specs.Layers.{AreLayers, Layer, Layered, bytes_there, place_behind, place_in}
use Rattle.vc_paths.specs.Shown.{IsPlaceIn, objects_from}
use Rattle.vc_paths.proofs.MatchLemmas.{IsLastHere, bytes-of, last-end, last-next, last-start, match-itself, place-behind, shorter-behind}

-- up to a place or to the end, the last that matches the object at a place is this one
pub record IsLastUpTo (layer : Layer) (at last : ℕ) (next : Option ℕ) : Type 0 where
  pub place : IsPlaceIn layer.objects next
  pub here : (bytes : List ℕ) → bytes_there at layer.objects ≡ Some bytes
      → IsLastHere layer.objects (λ o. is_match layer.rules bytes o.bytes) last next

module _ {all : Layered} {e : ℕ} (lawful : AreLayers all) (dict : all.Has e) where
  abbrev layer : Layer
  layer = all.layer e

  pub IsLastUpTo-start : (at : ℕ) {next : Option ℕ} → IsSome (bytes_there at (all.layer e).objects) → next ≡ place_behind at (all.layer e).objects → IsLastUpTo (all.layer e) at at next
  IsLastUpTo-start at there is =
      subst (IsLastUpTo layer at at) (sym is) (record {
        place = place-behind layer.objects at (lawful.distinct e dict) there;
        here = λ bytes h.
            last-start layer.objects (λ o. is_match layer.rules bytes o.bytes) at bytes (lawful.distinct e dict) h
            (λ o same. match-itself layer.rules bytes o.bytes (lawful.lawful e dict) same);
      })

  -- past one more, which is kept where it matches
  pub IsLastUpTo-further : (at last other kept : ℕ) {here next : Option ℕ} → here ≡ Some other → IsLastUpTo (all.layer e) at last here
      → ((x y : List ℕ) → bytes_there at (all.layer e).objects ≡ Some x → bytes_there other (all.layer e).objects ≡ Some y → kept ≡ (if is_match (all.layer e).rules x y then other else last))
      → next ≡ place_behind other (all.layer e).objects → IsLastUpTo (all.layer e) at kept next
  IsLastUpTo-further at last other kept is w keeps on =
      let there = w.place other is in
      let y = bytes-of (bytes_there other layer.objects) there in
      subst (IsLastUpTo layer at kept) (sym on) (record {
        place = place-behind layer.objects other (lawful.distinct e dict) there;
        here = λ x h.
            subst (λ z. IsLastHere layer.objects (λ o. is_match layer.rules x o.bytes) z (place_behind other layer.objects)) (sym (keeps x y.bytes h y.are))
            (last-next layer.objects (λ o. is_match layer.rules x o.bytes) last other y.bytes
            (is_match layer.rules x y.bytes) (lawful.distinct e dict) y.are (λ o same. ap (is_match layer.rules x) same) (subst (IsLastHere layer.objects (λ o. is_match layer.rules x o.bytes) last) is (w.here x h)));
      })

  pub IsLastUpTo-shorter : (at last other : ℕ) {here next : Option ℕ} → here ≡ Some other → IsLastUpTo (all.layer e) at last here → next ≡ place_behind other (all.layer e).objects
      → length (objects_from next (all.layer e).objects) < length (objects_from here (all.layer e).objects)
  IsLastUpTo-shorter at last other {here} {next} is w on =
      subst (λ z. length (objects_from next layer.objects) < length (objects_from z layer.objects)) (sym is)
      (subst (λ z. length (objects_from z layer.objects) < length (objects_from (Some other) layer.objects)) (sym on)
      (shorter-behind layer.objects other (lawful.distinct e dict) (w.place other is)))

-- behind the last of all
pub IsLastUpTo-end : (layer : Layer) (at last : ℕ) {next : Option ℕ} → next ≡ None → IsLastUpTo layer at last next → (bytes : List ℕ) → bytes_there at layer.objects ≡ Some bytes
    → Some last ≡ place_in (last_of (filter (λ o. is_match layer.rules bytes o.bytes) layer.objects))
IsLastUpTo-end layer at last is w bytes h =
    last-end layer.objects (λ o. is_match layer.rules bytes o.bytes) last (subst (IsLastHere layer.objects (λ o. is_match layer.rules bytes o.bytes) last) is (w.here bytes h))
