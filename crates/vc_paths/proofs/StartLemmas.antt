-- Where a search along an ordered layer may begin: at its end, or beside the object that it compares with.
use Rattle.vc_base.proofs.Common.{◌≡◌, ℕ, Bool, true, false, List, [], ◌∷◌, ◌++◌, map, if◌then◌else◌, Some, filter, Option, option_map, sym, refl, ap, ◌∙◌, subst, AllByRecursion, number_of, is_ordered}
use Rattle.vc_base.specs.declared.addr.Addr.{Addr}
use Rattle.vc_dtdisc.specs.Objects.{Object, is_greater}
use Rattle.vc_dtdisc.specs.Rules.{Rules}
use Rattle.vc_paths.specs.Direction.{end_of, place_beside}
use Rattle.vc_paths.specs.Layers.{AreLayers, Layered}
use Rattle.vc_paths.specs.Ordered.{StandsInLike, is_before, is_behind, is_past, object_there}
use Rattle.vc_paths.specs.Path.{seen_in}
use Rattle.vc_paths.specs.Visible.{Seen}
use Rattle.vc_paths.proofs.LayerLemmas.{Along, beside_shown, object_one}
use Rattle.vc_paths.proofs.OrderLemmas.{AreOrdered, filter_none, ordered}
use Rattle.vc_paths.proofs.OrderedLemmas.{objects_sorted}
use Rattle.vc_paths.proofs.PlaceLemmas.{Standing, left-beside, rest_of, standing}
use Rattle.vc_paths.proofs.SortedLemmas.{AreSorted, IsUpto, itself}

pub all_middle : (P : Seen ℕ → Type 0) (e : ℕ) (front : List Object) (x : Object) (rest : List Object) → AllByRecursion P (map (seen_in e) (front ++ x ∷ rest)) → P (seen_in e x)
all_middle P e [] x rest h = h.0
all_middle P e (y ∷ ys) x rest h = all_middle P e ys x rest h.1

-- up to an object in order of keys none is greater, and from it on none is less
front_dropped : (rules : Rules) → AreOrdered rules → (e : ℕ) (front : List Object) (x : Object) (rest : List Object) → AreSorted rules (map (seen_in e) (front ++ x ∷ rest)) → filter (is_behind rules (Some (seen_in e x))) (map (seen_in e) (front ++ x ∷ rest)) ≡ filter (is_behind rules (Some (seen_in e x))) (map (seen_in e) rest)
front_dropped rules laws e [] x rest s = rw (itself rules laws (seen_in e x)) refl
front_dropped rules laws e (y ∷ ys) x rest s =
    let upto : is_greater rules y.bytes x.bytes ≡ false = all_middle (IsUpto rules (seen_in e y)) e ys x rest s.0 in
    rw upto (front_dropped rules laws e ys x rest s.1)

rest_dropped : (rules : Rules) → AreOrdered rules → (e : ℕ) (front : List Object) (x : Object) (rest : List Object) → AreSorted rules (map (seen_in e) (front ++ x ∷ rest)) → filter (is_before rules (Some (seen_in e x))) (map (seen_in e) (front ++ x ∷ rest)) ≡ filter (is_before rules (Some (seen_in e x))) (map (seen_in e) front)
rest_dropped rules laws e [] x rest s = rw (itself rules laws (seen_in e x)) (filter_none (is_before rules (Some (seen_in e x))) (map (seen_in e) rest) s.0)
rest_dropped rules laws e (y ∷ ys) x rest s = ap (λ z. if is_greater rules x.bytes y.bytes then seen_in e y ∷ z else z) (rest_dropped rules laws e ys x rest s.1)

-- beside a place of the layer
past_dropped : (back : Bool) (rules : Rules) → AreOrdered rules → (e : ℕ) {objects : List Object} {at : ℕ} (s : Standing objects at) → AreSorted rules (map (seen_in e) objects)
    → filter (is_past back rules (Some (seen_in e s.one))) (map (seen_in e) objects) ≡ filter (is_past back rules (Some (seen_in e s.one))) (map (seen_in e) (rest_of back s))
past_dropped false rules laws e s sorted =
    ap (λ z. filter (is_behind rules (Some (seen_in e s.one))) (map (seen_in e) z)) s.whole
    ∙ front_dropped rules laws e s.before s.one s.behind (subst (λ z. AreSorted rules (map (seen_in e) z)) s.whole sorted)
past_dropped true rules laws e s sorted =
    ap (λ z. filter (is_before rules (Some (seen_in e s.one))) (map (seen_in e) z)) s.whole
    ∙ rest_dropped rules laws e s.before s.one s.behind (subst (λ z. AreSorted rules (map (seen_in e) z)) s.whole sorted)

pub along_own : (back : Bool) (all : Layered) (e : ℕ) (at : Addr) (next : Option Addr) → AreLayers all → all.Has e → is_ordered (all.layer e).method ≡ true → StandsInLike all e (e, at) → option_map number_of next ≡ place_beside back at.0 (all.layer e).objects → Along back all e (is_past back (all.layer e).rules (object_there all (e, at))) next
along_own back all e at next laws h method stands n =
    let rules = (all.layer e).rules in
    let objects = (all.layer e).objects in
    let apart = laws.distinct e h in
    let s = standing objects at.0 apart stands.object in
    let test = is_past back rules (Some (seen_in e s.one)) in
    subst (λ (z : Option (Seen ℕ)). Along back all e (is_past back rules z) next) (sym (object_one all e at s)) (record {
      stands = (beside_shown back next laws stands n).stands;
      same = ap (λ z. end_of back (filter test (map (seen_in e) z))) (left-beside apart s back n)
          ∙ ap (end_of back) (sym (past_dropped back rules (ordered rules (laws.lawful e h).order) e s (objects_sorted rules e objects (laws.sorted e h method))));
    })
