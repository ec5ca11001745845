-- What lies past an object of an ordered layer: where a walk comes to it first, by places and by objects.
use Rattle.vc_base.proofs.Common.{◌≡◌, ℕ, Bool, true, false, not, List, [], ◌∷◌, ◌++◌, map, IsSome, if◌then◌else◌, Some, None, filter, Option, option_map, sym, refl, ap, ◌∙◌, subst, inl, inr, true≢false, cases_Bool, AllByRecursion, number_of}
use Rattle.vc_base.specs.declared.addr.Addr.{Addr}
use Rattle.vc_base.proofs.Lists.{filter-map}
use Rattle.vc_dtdisc.specs.Objects.{Object}
use Rattle.vc_dtdisc.specs.Rules.{Rules}
use Rattle.vc_paths.specs.Direction.{end_of, neighbour, place_beside, place_past}
use Rattle.vc_paths.specs.Layers.{AreLayers, Layered, Same, bytes_there, place_in, stands_at}
use Rattle.vc_paths.specs.Ordered.{CanSeek, IsApart, IsEnd, IsStanding, StandsInLike, if_level, is_level, is_past, nearer, object_at, object_there, place_in_dict}
use Rattle.vc_paths.specs.Path.{objects_of, seen_in}
use Rattle.vc_paths.specs.Visible.{Seen}
use Rattle.vc_paths.proofs.EndLemmas.{end-map}
use Rattle.vc_paths.proofs.LayerLemmas.{Along, Shows, along_here, beside_shown, object_one, shows}
use Rattle.vc_paths.proofs.MatchLemmas.{bytes-of}
use Rattle.vc_paths.proofs.NeighbourLemmas.{all_end}
use Rattle.vc_paths.proofs.OrderLemmas.{AreOrdered, all_filter, ordered}
use Rattle.vc_paths.proofs.OrderedLemmas.{objects_sorted, past_none}
use Rattle.vc_paths.proofs.PlaceLemmas.{Standing, neighbour-here, rest_of, standing}
use Rattle.vc_paths.proofs.SightLemmas.{IsThere, each-there}
use Rattle.vc_paths.proofs.SortedLemmas.{AreSorted, IsUpto}
use Rattle.vc_paths.proofs.StartLemmas.{all_middle, along_own}
use Rattle.vc_paths.proofs.StayLemmas.{object-kept, rules-kept}

-- the object with some bytes at an address of a dictionary
abbrev here : ℕ → Addr → List ℕ → Seen ℕ
here d at bytes = record { dict = d; at = at.0; bytes = bytes }

there_bytes : (d : ℕ) (at : Addr) (o : Option (List ℕ)) (z : Seen ℕ) → option_map (here d at) o ≡ Some z → o ≡ Some z.bytes
there_bytes d at None z e = cc
there_bytes d at (Some b) z e = let same : here d at b ≡ z = cc in ap (λ (y : Seen ℕ). Some y.bytes) same

-- a test by bytes is one of what stands at a place
pub past_at : (back : Bool) (all : Layered) (d of : ℕ) (at other : Addr) (t : Bool) → IsSome (bytes_there at.0 (all.layer of).objects)
    → ((x y : List ℕ) → bytes_there at.0 (all.layer of).objects ≡ Some x → bytes_there other.0 (all.layer d).objects ≡ Some y → t ≡ is_past back (all.layer d).rules (Some (here of at x)) (here d other y))
    → (z : Seen ℕ) → object_there all (d, other) ≡ Some z → t ≡ is_past back (all.layer d).rules (object_there all (of, at)) z
past_at back all d of at other t there h z is =
    let x = bytes-of (bytes_there at.0 (all.layer of).objects) there in
    h x.bytes z.bytes x.are (there_bytes d other (bytes_there other.0 (all.layer d).objects) z is)
    ∙ sym (ap (λ (o : Option (Seen ℕ)). is_past back (all.layer d).rules o z) (ap (option_map (here of at)) x.are))

-- those of a layer that lie past an object, by its bytes
past_kept : (back : Bool) (all : Layered) (d of : ℕ) (at : Addr) (bytes : List ℕ) → bytes_there at.0 (all.layer of).objects ≡ Some bytes
    → end_of back (filter (is_past back (all.layer d).rules (object_there all (of, at))) (objects_of all d))
    ≡ option_map (seen_in d) (end_of back (filter (λ o. is_past back (all.layer d).rules (Some (here of at bytes)) (seen_in d o)) (all.layer d).objects))
past_kept back all d of at bytes h =
    let rules = (all.layer d).rules in
    let objects = (all.layer d).objects in
    ap (λ (o : Option (Seen ℕ)). end_of back (filter (is_past back rules o) (objects_of all d))) (ap (option_map (here of at)) h)
    ∙ ap (end_of back) (filter-map (seen_in d) (is_past back rules (Some (here of at bytes))) objects)
    ∙ end-map back (seen_in d) (filter (λ o. is_past back rules (Some (here of at bytes)) (seen_in d o)) objects)

past_place : (back : Bool) (rules : Rules) (d of : ℕ) (at : Addr) (bytes : List ℕ) (objects : List Object)
    → place_in (end_of back (filter (λ o. is_past back rules (Some (here of at bytes)) (seen_in d o)) objects)) ≡ place_past back rules bytes objects
past_place false rules d of at bytes objects = refl
past_place true rules d of at bytes objects = refl

-- the place that an end holds is that of what lies past
end_place : (back : Bool) (all : Layered) (d : ℕ) (r : Option Addr) (o : Option Object) → IsStanding all d (place_in_dict d r) → object_at all (place_in_dict d r) ≡ option_map (seen_in d) o → option_map number_of r ≡ place_in o
end_place back all d None None s e = refl
end_place back all d None (Some x) s e = cc
end_place back all d (Some at) o s e =
    let b = bytes-of (bytes_there at.0 (all.layer d).objects) s.object in
    one o (sym (ap (option_map (here d at)) b.are) ∙ e)
  where
    one : {b : List ℕ} (o : Option Object) → Some (here d at b) ≡ option_map (seen_in d) o → Some at.0 ≡ place_in o
    one None h = cc
    one {b} (Some x) h = let same : here d at b ≡ seen_in d x = cc in ap (λ (y : Seen ℕ). Some y.at) same

pub end_found : (back : Bool) (all : Layered) (d of : ℕ) (at : Addr) (r : Option Addr) → IsEnd back all d (is_past back (all.layer d).rules (object_there all (of, at))) r
    → (bytes : List ℕ) → bytes_there at.0 (all.layer of).objects ≡ Some bytes → option_map number_of r ≡ place_past back (all.layer d).rules bytes (all.layer d).objects
end_found back all d of at r w bytes h =
    end_place back all d r (end_of back (filter (λ o. is_past back (all.layer d).rules (Some (here of at bytes)) (seen_in d o)) (all.layer d).objects)) w.stands (w.object ∙ past_kept back all d of at bytes h)
    ∙ past_place back (all.layer d).rules d of at bytes (all.layer d).objects

-- behind the last of a layer, and at one that passes
none_left : (back : Bool) (all : Layered) (d : ℕ) (p : Seen ℕ → Bool) → Along back all d p None → IsEnd back all d p None
none_left false all d p w = record { stands = tt; object = w.same }
none_left true all d p w = record { stands = tt; object = w.same }

pub end_none : (back : Bool) {all : Layered} {d : ℕ} {p : Seen ℕ → Bool} {next : Option Addr} → next ≡ None → Along back all d p next → IsEnd back all d p None
end_none back {all} {d} {p} is w = none_left back all d p (subst (λ z. Along back all d p z) is w)

pub end_here : {back : Bool} {all : Layered} {d : ℕ} {p : Seen ℕ → Bool} {at : Addr} {next : Option Addr} → AreLayers all → next ≡ Some at → Along back all d p next → ((y : Seen ℕ) → object_there all (d, at) ≡ Some y → true ≡ p y) → IsEnd back all d p (Some at)
end_here {back} {all} {d} {p} {at} laws is w passes = record { stands = (subst (λ z. Along back all d p z) is w).stands; object = along_here laws is w passes }

-- an element at an end stands at its address
end_stands : (back : Bool) (all : Layered) (e : ℕ) (p : Seen ℕ → Bool) (o : Option Object) → AreLayers all → all.Has e → end_of back (filter p (objects_of all e)) ≡ option_map (seen_in e) o
    → (x : Object) → o ≡ Some x → bytes_there x.at (all.layer e).objects ≡ Some x.bytes
end_stands back all e p o laws has same x is =
    (all_end back (IsThere all e) (filter p (objects_of all e)) (seen_in e x)
    (all_filter (IsThere all e) p (objects_of all e) (each-there all e e [] (all.layer e).objects (record { there = has; method = refl; kind = refl }) refl (laws.distinct e has)))
    (same ∙ ap (option_map (seen_in e)) is)).bytes

-- the end that another layer was asked for
pub end_past : (back : Bool) (all : Layered) (e of : ℕ) (at : Addr) (r : Option Addr) → AreLayers all → CanSeek all e (Some (of, at))
    → ((bytes : List ℕ) → bytes_there at.0 (all.layer of).objects ≡ Some bytes → option_map number_of r ≡ place_past back (all.layer e).rules bytes (all.layer e).objects)
    → IsEnd back all e (is_past back (all.layer e).rules (object_there all (of, at))) r
end_past back all e of at r laws can found =
    let rules = (all.layer e).rules in
    let b = bytes-of (bytes_there at.0 (all.layer of).objects) can.compared.object in
    let p = is_past back rules (object_there all (of, at)) in
    let o = end_of back (filter (λ o. is_past back rules (Some (here of at b.bytes)) (seen_in e o)) (all.layer e).objects) in
    let same = past_kept back all e of at b.bytes b.are in
    let shown : Shows all e r o = shows all e r o can.dict (found b.bytes b.are ∙ sym (past_place back rules e of at b.bytes (all.layer e).objects)) (end_stands back all e p o laws can.dict same) in
    record { stands = shown.stands; object = shown.object ∙ sym same }

-- the end of a layer, where nothing is compared with
pub end_whole : (back : Bool) (all : Layered) (e : ℕ) (r : Option Addr) → AreLayers all → all.Has e → option_map number_of r ≡ place_in (end_of back (all.layer e).objects) → IsEnd back all e (is_past back (all.layer e).rules None) r
end_whole back all e r laws has found =
    let objects = (all.layer e).objects in
    let p = is_past back (all.layer e).rules None in
    let same = ap (end_of back) (past_none back (all.layer e).rules (objects_of all e)) ∙ end-map back (seen_in e) objects in
    let shown : Shows all e r (end_of back objects) = shows all e r (end_of back objects) has found (end_stands back all e p (end_of back objects) laws has same) in
    record { stands = shown.stands; object = shown.object ∙ sym same }

-- of objects in order of keys none of those on the way lies past one on the way back
front_upto : (rules : Rules) (e : ℕ) (front : List Object) (x : Object) (rest : List Object) → AreSorted rules (map (seen_in e) (front ++ x ∷ rest)) → AllByRecursion (λ y. is_past false rules (Some (seen_in e x)) y ≡ false) (map (seen_in e) front)
front_upto rules e [] x rest s = tt
front_upto rules e (y ∷ ys) x rest s = (all_middle (IsUpto rules (seen_in e y)) e ys x rest s.0, front_upto rules e ys x rest s.1)

rest_upto : (rules : Rules) (e : ℕ) (front : List Object) (x : Object) (rest : List Object) → AreSorted rules (map (seen_in e) (front ++ x ∷ rest)) → AllByRecursion (λ y. is_past true rules (Some (seen_in e x)) y ≡ false) (map (seen_in e) rest)
rest_upto rules e [] x rest s = s.0
rest_upto rules e (y ∷ ys) x rest s = rest_upto rules e ys x rest s.1

way_upto : (back : Bool) (rules : Rules) (e : ℕ) {objects : List Object} {at : ℕ} (s : Standing objects at) → AreSorted rules (map (seen_in e) objects) → AllByRecursion (λ y. is_past (not back) rules (Some (seen_in e s.one)) y ≡ false) (map (seen_in e) (rest_of back s))
way_upto false rules e s sorted = rest_upto rules e s.before s.one s.behind (subst (λ z. AreSorted rules (map (seen_in e) z)) s.whole sorted)
way_upto true rules e s sorted = front_upto rules e s.before s.one s.behind (subst (λ z. AreSorted rules (map (seen_in e) z)) s.whole sorted)

-- so one that doesn't match lies past it
apart_past : (back : Bool) (rules : Rules) → AreOrdered rules → (x y : Seen ℕ) → is_past (not back) rules (Some x) y ≡ false → is_level rules x y ≡ false → true ≡ is_past back rules (Some x) y
apart_past false rules laws x y upto apart = elim (cases_Bool (is_past false rules (Some x) y)) as (λ _. true ≡ is_past false rules (Some x) y) [
  | inl t ↦ sym t
  | inr t ↦ absurd (true≢false (sym (laws.tied y.bytes x.bytes t upto) ∙ apart))
]
apart_past true rules laws x y upto apart = elim (cases_Bool (is_past true rules (Some x) y)) as (λ _. true ≡ is_past true rules (Some x) y) [
  | inl t ↦ sym t
  | inr t ↦ absurd (true≢false (sym (laws.tied y.bytes x.bytes upto t) ∙ apart))
]

level_apart : (rules : Rules) (x y : Seen ℕ) → if_level rules (Some x) (Some y) ≡ None → is_level rules x y ≡ false
level_apart rules x y h = elim (cases_Bool (is_level rules x y)) as (λ _. is_level rules x y ≡ false) [
  | inl t ↦ let some : Some y ≡ None = rw t at h in cc
  | inr t ↦ t
]

-- in the layer of the object that is compared with, the neighbour is the end
module _ (back : Bool) {all : Layered} {e : ℕ} {at : Addr} (laws : AreLayers all) (can : CanSeek all e (Some (e, at))) (apart : IsApart back all (Some (e, at))) where
  passes : (next : Addr) → option_map number_of (Some next) ≡ place_beside back at.0 (all.layer e).objects → (y : Seen ℕ) → object_there all (e, next) ≡ Some y → true ≡ is_past back (all.layer e).rules (object_there all (e, at)) y
  passes next n y is =
      let objects = (all.layer e).objects in
      let r = (all.layer e).rules in
      let order = ordered r (laws.lawful e can.dict).order in
      let s = standing objects at.0 (laws.distinct e can.dict) can.compared.object in
      let x = seen_in e s.one in
      let beside : Some y ≡ option_map (seen_in e) (neighbour back (stands_at at.0) objects) = sym is ∙ (beside_shown back (Some next) laws can.compared n).object in
      let one = object_one all e at s in
      let level = level_apart r x y (ap (if_level r (Some x)) beside ∙ ap (λ (o : Option (Seen ℕ)). if_level r o (option_map (seen_in e) (neighbour back (stands_at at.0) objects))) (sym one) ∙ apart) in
      let way = way_upto back r e s (objects_sorted r e objects (laws.sorted e can.dict can.method)) in
      let upto = all_end back (λ z. is_past (not back) r (Some x) z ≡ false) (map (seen_in e) (rest_of back s)) y way
      (end-map back (seen_in e) (rest_of back s) ∙ ap (option_map (seen_in e)) (sym (neighbour-here back s)) ∙ sym beside) in
      apart_past back r order x y upto level
      ∙ ap (λ (o : Option (Seen ℕ)). is_past back r o y) (sym one)

  pub end_own : (next : Option Addr) → option_map number_of next ≡ place_beside back at.0 (all.layer e).objects → IsEnd back all e (is_past back (all.layer e).rules (object_there all (e, at))) next
  end_own None n = end_none back refl (along_own back all e at None laws can.dict can.method can.compared n)
  end_own (Some next) n = end_here laws refl (along_own back all e at (Some next) laws can.dict can.method can.compared n) (passes next n)

-- the end past a place that there may be, by where it is looked for
pub past_own : (back : Bool) {all : Layered} {e f : ℕ} {at : Addr} {other : Option (ℕ × Addr)} → AreLayers all → CanSeek all e other → IsApart back all other → other ≡ Some (f, at) → f ≡ e
    → (next : Option Addr) → option_map number_of next ≡ place_beside back at.0 (all.layer e).objects → IsEnd back all e (is_past back (all.layer e).rules (object_at all other)) next
past_own back {all} {e} {f} {at} laws can apart is same next n =
    subst (λ (o : Option (ℕ × Addr)). CanSeek all e o → IsApart back all o → IsEnd back all e (is_past back (all.layer e).rules (object_at all o)) next) (sym (is ∙ ap (λ z. Some (z, at)) same))
    (λ k a. end_own back laws k a next n) can apart

pub past_other : (back : Bool) {all : Layered} {e f : ℕ} {at : Addr} {other : Option (ℕ × Addr)} → AreLayers all → CanSeek all e other → other ≡ Some (f, at)
    → (r : Option Addr) → ((bytes : List ℕ) → bytes_there at.0 (all.layer f).objects ≡ Some bytes → option_map number_of r ≡ place_past back (all.layer e).rules bytes (all.layer e).objects)
    → IsEnd back all e (is_past back (all.layer e).rules (object_at all other)) r
past_other back {all} {e} {f} {at} laws can is r found =
    subst (λ (o : Option (ℕ × Addr)). CanSeek all e o → IsEnd back all e (is_past back (all.layer e).rules (object_at all o)) r) (sym is) (λ k. end_past back all e f at r laws k found) can

pub past_all : (back : Bool) {all : Layered} {e : ℕ} {other : Option (ℕ × Addr)} → AreLayers all → all.Has e → other ≡ None → (r : Option Addr) → option_map number_of r ≡ place_in (end_of back (all.layer e).objects)
    → IsEnd back all e (is_past back (all.layer e).rules (object_at all other)) r
past_all back {all} {e} laws has is r found =
    subst (λ (o : Option (ℕ × Addr)). IsEnd back all e (is_past back (all.layer e).rules (object_at all o)) r) (sym is) (end_whole back all e r laws has found)

-- the nearer of the best place so far and an end, by what a test says once the layer was asked
pub nearer_end : (back : Bool) {old new : Layered} {e : ℕ} {at : Addr} (best : Option (ℕ × Addr)) (t : Bool) {test : Seen ℕ → Bool} → Same old new → IsEnd back old e test (Some at)
    → ((y : Seen ℕ) → object_there new (e, at) ≡ Some y → t ≡ is_past (not back) (new.layer e).rules (object_at new best) y)
    → (if t then object_there old (e, at) else object_at old best) ≡ nearer back (old.layer e).rules (object_at old best) (end_of back (filter test (objects_of old e)))
nearer_end back {old} {new} {e} {at} best t same w h =
    let rules = (old.layer e).rules in
    let b = bytes-of (bytes_there at.0 (old.layer e).objects) w.stands.object in
    let y = here e at b.bytes in
    let there : object_there old (e, at) ≡ Some y = ap (option_map (here e at)) b.are in
    let by : t ≡ is_past (not back) rules (object_at old best) y =
    h y (object-kept (Some (e, at)) same ∙ there) ∙ ap (λ r. is_past (not back) r (object_at new best) y) (rules-kept e same) ∙ ap (λ (o : Option (Seen ℕ)). is_past (not back) rules o y) (object-kept best same) in
    ap (λ (z : Option (Seen ℕ)). if t then z else object_at old best) there
    ∙ ap (λ z. if z then Some y else object_at old best) by
    ∙ ap (nearer back rules (object_at old best)) (sym there ∙ w.object)

-- a neighbour that was tried and doesn't match
pub beside_apart : (back : Bool) {all : Layered} {d : ℕ} {p : ℕ × Addr} (next : Option Addr) → AreLayers all → StandsInLike all d p → option_map number_of next ≡ place_beside back p.1.0 (all.layer p.0).objects
    → None ≡ if_level (all.layer p.0).rules (object_there all p) (object_at all (place_in_dict p.0 next)) → IsApart back all (Some p)
beside_apart back {all} {d} {p} next laws stands n none =
    ap (if_level (all.layer p.0).rules (object_there all p)) (sym (beside_shown back next laws stands n).object) ∙ sym none
