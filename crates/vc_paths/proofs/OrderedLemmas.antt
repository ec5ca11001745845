-- The layers of a path in order of keys: what goes down them keeps the nearest of their ends.
use Rattle.vc_base.proofs.Common.{◌≡◌, ℕ, Bool, true, false, List, [], ◌∷◌, map, is_some, Some, None, filter, Option, option_map, sym, refl, ap, ◌∙◌, subst, true≢false, AllByRecursion, is_ordered}
use Rattle.vc_base.specs.declared.addr.Addr.{Addr}
use Rattle.vc_base.proofs.Quantifiers.{all-map}
use Rattle.vc_dtdisc.specs.Objects.{IsSorted, Object, bytes_of, is_greater, is_match, placed_each}
use Rattle.vc_dtdisc.specs.Rules.{Rules}
use Rattle.vc_paths.specs.Direction.{end_of}
use Rattle.vc_paths.specs.Layers.{AreLayers, Layered, Same, bytes_there}
use Rattle.vc_paths.specs.Links.{ArePaths, Links, below, path}
use Rattle.vc_paths.specs.Ordered.{IsStanding, is_past, nearer, object_at}
use Rattle.vc_paths.specs.Path.{Answers, IsAlike, IsPath, objects_of, place_of, seen_in, visible_of}
use Rattle.vc_paths.specs.Shown.{IsOnPath, down}
use Rattle.vc_paths.specs.Visible.{Seen, seen_bytes, stacked_objects}
use Rattle.vc_paths.proofs.DownLemmas.{down-on, on-head, on-next, on-start}
use Rattle.vc_paths.proofs.LastLemmas.{end_passing}
use Rattle.vc_paths.proofs.LeastLemmas.{nearest_of}
use Rattle.vc_paths.proofs.OrderLemmas.{AreOrdered, all_none, down as less, ordered, up}
use Rattle.vc_paths.proofs.SeekLemmas.{alike-rules, path-first}
use Rattle.vc_paths.proofs.SortedLemmas.{AreSorted, IsUpto}
use Rattle.vc_paths.proofs.StayLemmas.{object-kept, objects-kept, on-kept, rules-kept, standing-kept, visible-kept}

pub objects_sorted : (rules : Rules) (e : ℕ) (xs : List Object) → IsSorted bytes_of rules xs → AreSorted rules (map (seen_in e) xs)
objects_sorted rules e [] s = tt
objects_sorted rules e (x ∷ xs) s = (
  all-map (IsUpto rules (seen_in e x)) (seen_in e) xs (all_none (λ y. is_greater rules x.bytes y.bytes) xs s.0),
  objects_sorted rules e xs s.1,
)

pub layer_sorted : (all : Layered) (d e : ℕ) → AreLayers all → all.Has d → is_ordered (all.layer d).method ≡ true → IsAlike all d e → AreSorted (all.layer d).rules (objects_of all e)
layer_sorted all d e laws h method alike =
    let sorted = laws.sorted e alike.there (ap is_ordered alike.method ∙ method) in
    objects_sorted (all.layer d).rules e (all.layer e).objects (subst (λ z. IsSorted bytes_of z (all.layer e).objects) (alike-rules all d e laws h alike) sorted)

pub layers_sorted : (all : Layered) (d : ℕ) (es : List ℕ) → AreLayers all → all.Has d → is_ordered (all.layer d).method ≡ true → AllByRecursion (IsAlike all d) es → AllByRecursion (AreSorted (all.layer d).rules) (map (objects_of all) es)
layers_sorted all d [] laws h method alike = tt
layers_sorted all d (e ∷ es) laws h method alike = (layer_sorted all d e laws h method alike.0, layers_sorted all d es laws h method alike.1)

pub visible_ordered : (all : Layered) (links : Links) (d : ℕ) → is_ordered (all.layer d).method ≡ true → visible_of all links d ≡ placed_each seen_bytes (all.layer d).rules [] (stacked_objects (all.layer d).rules [] (map (objects_of all) (path links d)))
visible_ordered all links d method = rw method refl

-- matching objects both lie past another one
pub past_shared : (back : Bool) (rules : Rules) → AreOrdered rules → (x : Option (Seen ℕ)) (o u : Seen ℕ) → is_match rules o.bytes u.bytes ≡ true → is_past back rules x o ≡ true → is_past back rules x u ≡ true
past_shared back rules laws None o u m h = refl
past_shared false rules laws (Some x) o u m h = up rules o.bytes u.bytes x.bytes laws h (laws.right u.bytes o.bytes m)
past_shared true rules laws (Some x) o u m h = less rules x.bytes u.bytes o.bytes laws h (laws.left u.bytes o.bytes m)

-- each object lies past none
pub past_none : (back : Bool) (rules : Rules) (xs : List (Seen ℕ)) → filter (is_past back rules None) xs ≡ xs
past_none back rules [] = refl
past_none back rules (x ∷ xs) = ap (λ z. x ∷ z) (past_none back rules xs)

-- an object that stands is the one at its place
answers_there : (d : ℕ) (at : Addr) (o : Option (List ℕ)) → is_some o ≡ true → Some (d, at.0) ≡ option_map place_of (option_map (λ (bytes : List ℕ). seen_in d (record { at = at.0; bytes = bytes })) o)
answers_there d at None h = absurd (true≢false (sym h))
answers_there d at (Some b) h = refl

pub answers_at : (all : Layered) (d : ℕ) (p : Option (ℕ × Addr)) → IsStanding all d p → Answers p (object_at all p)
answers_at all d None s = refl
answers_at all d (Some p) s = answers_there p.0 p.1 (bytes_there p.1.0 (all.layer p.0).objects) s.object

-- where it stands beside another dictionary of the kind
pub stands_along : {all : Layered} {d e : ℕ} (p : Option (ℕ × Addr)) → IsAlike all d e → IsStanding all d p → IsStanding all e p
stands_along None alike s = tt
stands_along (Some p) alike s = record { there = s.there; kind = s.kind ∙ sym alike.kind; object = s.object }

stands_back : {all : Layered} {d e : ℕ} (p : Option (ℕ × Addr)) → IsAlike all d e → IsStanding all e p → IsStanding all d p
stands_back None alike s = tt
stands_back (Some p) alike s = record { there = s.there; kind = s.kind ∙ alike.kind; object = s.object }

-- the nearest so far
pub record Nearest (back : Bool) (all : Layered) (links : Links) (d : ℕ) (other : Option (Seen ℕ)) (best : Option (ℕ × Addr)) (next : Option ℕ) : Type 0 where
  pub on : IsOnPath all links d next
  pub stands : IsStanding all d best
  pub same : nearest_of back (all.layer d).rules (object_at all best) (map (filter (is_past back (all.layer d).rules other)) (map (objects_of all) (down links next)))
      ≡ end_of back (filter (is_past back (all.layer d).rules other) (visible_of all links d))

pub nearest_start : {back : Bool} {all : Layered} {links : Links} {d : ℕ} {other : Option (Seen ℕ)} → AreLayers all → IsPath all links d → is_ordered (all.layer d).method ≡ true → Nearest back all links d other None (Some d)
unfolding down
nearest_start {back} {all} {links} {d} {other} laws path' method =
    let rules = (all.layer d).rules in
    let h = (path-first all links d path').there in
    let order = ordered rules (laws.lawful d h).order in
    record {
      on = on-start path';
      stands = tt;
      same = sym (
          ap (λ z. end_of back (filter (is_past back rules other) z)) (visible_ordered all links d method)
          ∙ end_passing back rules order (is_past back rules other) (map (objects_of all) (path links d)) (past_shared back rules order other) (layers_sorted all d (path links d) laws h method path'.alike)
          );
    }

pub nearest_next : {back : Bool} {all : Layered} {links : Links} {d e : ℕ} {other : Option (Seen ℕ)} {best better : Option (ℕ × Addr)} {here next : Option ℕ} → AreLayers all → IsPath all links d → ArePaths links → here ≡ Some e → next ≡ below links e
    → Nearest back all links d other best here → IsStanding all e better → object_at all better ≡ nearer back (all.layer e).rules (object_at all best) (end_of back (filter (is_past back (all.layer e).rules other) (objects_of all e)))
    → Nearest back all links d other better next
nearest_next {back} {all} {links} {d} {e} {other} {best} {better} {here} {next} laws path' paths is on s stands object =
    let alike = on-head paths is s.on in
    let rules = (all.layer d).rules in
    let rest = λ (es : List ℕ). map (filter (is_past back rules other)) (map (objects_of all) es) in
    record {
      on = on-next paths is on s.on;
      stands = stands_back better alike stands;
      same =
          ap (λ z. nearest_of back rules z (rest (down links next))) (object
          ∙ ap (λ r. nearer back r (object_at all best) (end_of back (filter (is_past back r other) (objects_of all e)))) (alike-rules all d e laws (path-first all links d path').there alike))
          ∙ sym (ap (λ z. nearest_of back rules (object_at all best) (rest z)) (down-on paths is on))
          ∙ s.same;
    }

pub nearest_end : {back : Bool} {all : Layered} {links : Links} {d : ℕ} {other : Option (Seen ℕ)} {best : Option (ℕ × Addr)} {next : Option ℕ} → next ≡ None → Nearest back all links d other best next → Answers best (end_of back (filter (is_past back (all.layer d).rules other) (visible_of all links d)))
unfolding down
nearest_end {back} {all} {links} {d} {other} {best} is s =
    let done = subst (λ z. Nearest back all links d other best z) is s in
    subst (λ z. Answers best z) done.same (answers_at all d best done.stands)

-- it stays so where each layer is as it was, and what it says then holds of what was before
pub nearest_kept : {back : Bool} {old new : Layered} {links : Links} {d : ℕ} (other : Option (ℕ × Addr)) {best : Option (ℕ × Addr)} {next : Option ℕ} → Same old new → Nearest back old links d (object_at old other) best next → Nearest back new links d (object_at new other) best next
nearest_kept {back} {old} {new} {links} {d} other {best} {next} s n = record {
  on = on-kept s n.on;
  stands = standing-kept d best s n.stands;
  same =
      ap (λ z. nearest_of back z (object_at new best) (map (filter (is_past back z (object_at new other))) (map (objects_of new) (down links next)))) (rules-kept d s)
      ∙ ap (λ (z : Option (Seen ℕ)). nearest_of back (old.layer d).rules z (map (filter (is_past back (old.layer d).rules (object_at new other))) (map (objects_of new) (down links next)))) (object-kept best s)
      ∙ ap (λ (z : Option (Seen ℕ)). nearest_of back (old.layer d).rules (object_at old best) (map (filter (is_past back (old.layer d).rules z)) (map (objects_of new) (down links next)))) (object-kept other s)
      ∙ ap (λ z. nearest_of back (old.layer d).rules (object_at old best) (map (filter (is_past back (old.layer d).rules (object_at old other))) (map z (down links next)))) (objects-kept s)
      ∙ n.same
      ∙ ap (λ z. end_of back (filter (is_past back (old.layer d).rules (object_at old other)) z)) (sym (visible-kept links d s))
      ∙ ap (λ (z : Option (Seen ℕ)). end_of back (filter (is_past back (old.layer d).rules z) (visible_of new links d))) (sym (object-kept other s))
      ∙ ap (λ z. end_of back (filter (is_past back z (object_at new other)) (visible_of new links d))) (sym (rules-kept d s));
}

pub nearest_before : (back : Bool) {old new : Layered} (links : Links) (d : ℕ) (other best : Option (ℕ × Addr)) → Same old new
    → Answers best (end_of back (filter (is_past back (new.layer d).rules (object_at new other)) (visible_of new links d))) → Answers best (end_of back (filter (is_past back (old.layer d).rules (object_at old other)) (visible_of old links d)))
nearest_before back {old} {new} links d other best s h =
    subst (λ z. Answers best (end_of back (filter (is_past back z (object_at old other)) (visible_of old links d)))) (rules-kept d s)
    (subst (λ (z : Option (Seen ℕ)). Answers best (end_of back (filter (is_past back (new.layer d).rules z) (visible_of old links d)))) (object-kept other s)
    (subst (λ z. Answers best (end_of back (filter (is_past back (new.layer d).rules (object_at new other)) z))) (visible-kept links d s) h))
