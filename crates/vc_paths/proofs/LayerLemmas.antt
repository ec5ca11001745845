-- A walk along the objects of one layer, onward or back.
use Rattle.vc_base.proofs.Common.{◌≡◌, ℕ, ◌<◌, Bool, true, false, cond, List, map, length, is_some, Some, None, filter, Option, option_map, sym, refl, ap, ◌∙◌, subst, number_of}
use Rattle.vc_base.specs.declared.addr.Addr.{Addr}
use Rattle.vc_dtdisc.specs.Objects.{Object}
use Rattle.vc_paths.specs.Direction.{end_of, neighbour, objects_left, place_beside}
use Rattle.vc_paths.specs.Layers.{AreLayers, Layered, bytes_there, place_in, stands_at}
use Rattle.vc_paths.specs.Ordered.{IsStanding, StandsInLike, place_in_dict, object_at, object_there}
use Rattle.vc_paths.specs.Path.{objects_of, seen_in}
use Rattle.vc_paths.specs.Visible.{Seen}
use Rattle.vc_paths.proofs.PlaceLemmas.{Standing, beside-there, end-kept, end-there, fewer-left, left-beside, left-end, left-here, map-with_end, neighbour-here, rest_of, standing, there}

-- the object of a layer at an address
pub object_one : (all : Layered) (e : ℕ) (at : Addr) (s : Standing (all.layer e).objects at.0) → object_there all (e, at) ≡ Some (seen_in e s.one)
object_one all e at s =
    ap (option_map (λ (bytes : List ℕ). seen_in e (record { at = at.0; bytes = bytes }))) (there (all.layer e).objects at.0 s)
    ∙ ap (λ z. Some (seen_in e (record { at = z; bytes = s.one.bytes }))) (sym s.here)

-- a place beside one that stands in the layer, or at an end
pub record Shows (all : Layered) (e : ℕ) (next : Option Addr) (o : Option Object) : Type 0 where
  pub stands : IsStanding all e (place_in_dict e next)
  pub object : object_at all (place_in_dict e next) ≡ option_map (seen_in e) o

-- the place of an object that is the one at its address
pub shows : (all : Layered) (e : ℕ) (next : Option Addr) (o : Option Object) → all.Has e → option_map number_of next ≡ place_in o → ((x : Object) → o ≡ Some x → bytes_there x.at (all.layer e).objects ≡ Some x.bytes) → Shows all e next o
shows all e None None h n found = record { stands = tt; object = refl }
shows all e None (Some x) h n found = cc
shows all e (Some at) None h n found = cc
shows all e (Some at) (Some x) h n found =
    let same : x.at ≡ at.0 = cc in
    let here : bytes_there at.0 (all.layer e).objects ≡ Some x.bytes = subst (λ z. bytes_there z (all.layer e).objects ≡ Some x.bytes) same (found x refl) in
    record {
      stands = record { there = h; kind = refl; object = ap is_some here };
      object = ap (option_map (λ (bytes : List ℕ). seen_in e (record { at = at.0; bytes = bytes }))) here
          ∙ ap (λ z. Some (seen_in e (record { at = z; bytes = x.bytes }))) (sym same);
    }

-- on the way through a layer, what is left has the same end of what passes
pub record Along (back : Bool) (all : Layered) (e : ℕ) (p : Seen ℕ → Bool) (next : Option Addr) : Type 0 where
  pub stands : IsStanding all e (place_in_dict e next)
  pub same : end_of back (filter p (map (seen_in e) (objects_left back (option_map number_of next) (all.layer e).objects))) ≡ end_of back (filter p (objects_of all e))

pub along_start : (back : Bool) (all : Layered) (e : ℕ) (p : Seen ℕ → Bool) (next : Option Addr) → AreLayers all → all.Has e → option_map number_of next ≡ place_in (end_of back (all.layer e).objects) → Along back all e p next
along_start back all e p next laws h n =
    let apart = laws.distinct e h in
    record {
      stands = (shows all e next (end_of back (all.layer e).objects) h n (end-there (all.layer e).objects apart back)).stands;
      same = ap (λ z. end_of back (filter p (map (seen_in e) z))) (left-end apart back n);
    }

-- what passes of the objects that are left
left_passing : (back : Bool) (all : Layered) (e : ℕ) (p : Seen ℕ → Bool) (at : Addr) (s : Standing (all.layer e).objects at.0)
    → end_of back (filter p (map (seen_in e) (objects_left back (Some at.0) (all.layer e).objects))) ≡ cond (p (seen_in e s.one)) (Some (seen_in e s.one)) (end_of back (filter p (map (seen_in e) (rest_of back s))))
left_passing back all e p at s =
    ap (λ z. end_of back (filter p z)) (ap (map (seen_in e)) (left-here back s) ∙ map-with_end back (seen_in e) (rest_of back s) s.one)
    ∙ end-kept back p (map (seen_in e) (rest_of back s)) (seen_in e s.one)

-- one that passes
along_passes : (back : Bool) (all : Layered) (e : ℕ) (p : Seen ℕ → Bool) (at : Addr) → AreLayers all → Along back all e p (Some at) → ((y : Seen ℕ) → object_there all (e, at) ≡ Some y → true ≡ p y) → object_there all (e, at) ≡ end_of back (filter p (objects_of all e))
along_passes back all e p at laws w passes =
    let s = standing (all.layer e).objects at.0 (laws.distinct e w.stands.there) w.stands.object in
    let there = object_one all e at s in
    there
    ∙ ap (λ z. cond z (Some (seen_in e s.one)) (end_of back (filter p (map (seen_in e) (rest_of back s))))) (passes (seen_in e s.one) there)
    ∙ sym (left_passing back all e p at s)
    ∙ w.same

-- one that doesn't
along_step : (back : Bool) (all : Layered) (e : ℕ) (p : Seen ℕ → Bool) (at : Addr) (next : Option Addr) → AreLayers all → Along back all e p (Some at) → ((y : Seen ℕ) → object_there all (e, at) ≡ Some y → false ≡ p y) → option_map number_of next ≡ place_beside back at.0 (all.layer e).objects
    → Along back all e p next × (length (objects_left back (option_map number_of next) (all.layer e).objects) < length (objects_left back (Some at.0) (all.layer e).objects))
along_step back all e p at next laws w fails n =
    let apart = laws.distinct e w.stands.there in
    let s = standing (all.layer e).objects at.0 apart w.stands.object in (
      record {
        stands = (shows all e next (end_of back (rest_of back s)) w.stands.there (n ∙ ap place_in (neighbour-here back s)) (beside-there apart s back)).stands;
        same = ap (λ z. end_of back (filter p (map (seen_in e) z))) (left-beside apart s back n)
            ∙ ap (λ z. cond z (Some (seen_in e s.one)) (end_of back (filter p (map (seen_in e) (rest_of back s))))) (fails (seen_in e s.one) (object_one all e at s))
            ∙ sym (left_passing back all e p at s)
            ∙ w.same;
      },
      fewer-left apart s back n,
    )

pub along_here : {back : Bool} {all : Layered} {e : ℕ} {p : Seen ℕ → Bool} {at : Addr} {here : Option Addr} → AreLayers all → here ≡ Some at → Along back all e p here → ((y : Seen ℕ) → object_there all (e, at) ≡ Some y → true ≡ p y) → object_there all (e, at) ≡ end_of back (filter p (objects_of all e))
along_here {back} {all} {e} {p} {at} laws h w passes = along_passes back all e p at laws (subst (λ z. Along back all e p z) h w) passes

pub along_next : {back : Bool} {all : Layered} {e : ℕ} {p : Seen ℕ → Bool} {at : Addr} {here next : Option Addr} → AreLayers all → here ≡ Some at → Along back all e p here → ((y : Seen ℕ) → object_there all (e, at) ≡ Some y → false ≡ p y) → option_map number_of next ≡ place_beside back at.0 (all.layer e).objects
    → Along back all e p next × (length (objects_left back (option_map number_of next) (all.layer e).objects) < length (objects_left back (option_map number_of here) (all.layer e).objects))
along_next {back} {all} {e} {p} {at} {here} {next} laws h w fails n =
    let step = along_step back all e p at next laws (subst (λ z. Along back all e p z) h w) fails n in
    (step.0, subst (λ z. length (objects_left back (option_map number_of next) (all.layer e).objects) < length (objects_left back (option_map number_of z) (all.layer e).objects)) (sym h) step.1)

-- the neighbour of an object of a layer
pub beside_shown : {all : Layered} {d : ℕ} {p : ℕ × Addr} (back : Bool) (next : Option Addr) → AreLayers all → StandsInLike all d p → option_map number_of next ≡ place_beside back p.1.0 (all.layer p.0).objects → Shows all p.0 next (neighbour back (stands_at p.1.0) (all.layer p.0).objects)
beside_shown {all} {d} {p} back next laws stands n =
    let apart = laws.distinct p.0 stands.there in
    let s = standing (all.layer p.0).objects p.1.0 apart stands.object in
    shows all p.0 next (neighbour back (stands_at p.1.0) (all.layer p.0).objects) stands.there n (λ x is. beside-there apart s back x (sym (neighbour-here back s) ∙ is))
