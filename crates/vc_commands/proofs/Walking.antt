-- A walk along what is seen through a dictionary, and the objects at the places that are answered.
use Rattle.vc_base.proofs.Common.{◌≡◌, ℕ, ◌+◌, ◌<◌, Bool, true, false, not, ◌&&◌, List, [], ◌∷◌, ◌++◌, map, length, IfSome, if◌then◌else◌, IsSome, Some, None, Option, option_map, find, sym, refl, ap, ◌∙◌, subst, append_assoc, append-nil, arith, length-append, length-map, map-append, AllByRecursion, list_any}
use Rattle.vc_base.specs.declared.addr.Addr.{Addr}
use Rattle.vc_base.proofs.Quantifiers.{all-middle, any-middle}
use Rattle.vc_dtdisc.specs.Finding.{before_first_from, behind_last, first_of, last_from}
use Rattle.vc_dtdisc.specs.Objects.{has_key}
use Rattle.vc_dtdisc.specs.Rules.{Rules}
use Rattle.vc_paths.specs.Layers.{AreLayers, Layer, Layered, Same, bytes_there}
use Rattle.vc_paths.specs.Links.{ArePaths, Links}
use Rattle.vc_paths.specs.Ordered.{IsStanding, object_at}
use Rattle.vc_paths.specs.Path.{Answers, IsPath, IsVisible, is_at, numbers_of, place_of, visible_of}
use Rattle.vc_paths.specs.Visible.{Seen, seen_bytes}
use Rattle.vc_paths.proofs.EndLemmas.{behind-at}
use Rattle.vc_paths.proofs.SightLemmas.{IsThere, at-itself, visible-there}
use Rattle.vc_script.specs.declared.command.Command.{Command}
use Rattle.vc_script.specs.declared.command.Command.TheVariants.{Search, MatchKey, First, Last, Next, Prev, Walk}
use Rattle.vc_script.specs.declared.refusal.Refusal.TheVariants.{Size}
use Rattle.vc_script.specs.declared.reply.Reply.TheVariants.{Refused}
use Rattle.vc_commands.specs.Looking.{found_by_command, found_reply, is_askable, look_answer, look_found, look_reply}
use Rattle.vc_commands.proofs.Apart.{AreApart, apart-behind, visible-apart}

-- what holds of each holds of one that is found
module _ {A : Type 0} (P : A → Type 0) where
  either : (b : Bool) (x y : Option A) → IfSome x P → IfSome y P → IfSome (if b then x else y) P
  either true x y p q = p
  either false x y p q = q

  find-each : (test : A → Bool) (xs : List A) → AllByRecursion P xs → IfSome (find test xs) P
  find-each test [] h = tt
  find-each test (x ∷ xs) h = either (test x) (Some x) (find test xs) h.0 (find-each test xs h.1)

  first-each : (xs : List A) → AllByRecursion P xs → IfSome (first_of xs) P
  first-each [] h = tt
  first-each (x ∷ xs) h = h.0

  last-each : (o : Option A) (xs : List A) → IfSome o P → AllByRecursion P xs → IfSome (last_from o xs) P
  last-each o [] b h = b
  last-each o (x ∷ xs) b h = last-each (Some x) xs h.0 h.1

  behind-each : (test : A → Bool) (xs : List A) → AllByRecursion P xs → IfSome (behind_last test xs) P
  behind-each test [] h = tt
  behind-each test (x ∷ xs) h =
      either (test x && not (list_any test xs)) (first_of xs) (behind_last test xs) (first-each xs h.1) (behind-each test xs h.1)

  before-each : (o : Option A) (test : A → Bool) (xs : List A) → IfSome o P → AllByRecursion P xs → IfSome (before_first_from o test xs) P
  before-each o test [] b h = tt
  before-each o test (x ∷ xs) b h =
      either (test x) o (before_first_from (Some x) test xs) b (before-each (Some x) test xs h.0 h.1)

pub found-each : {N : Type 0} (P : Seen N → Type 0) (rules : Rules) (command : Command) (xs : List (Seen N)) → AllByRecursion P xs → IfSome (found_by_command rules command xs) P
found-each P rules (Search d bytes) xs h = find-each P (λ o. has_key rules (rules.key bytes) o.bytes) xs h
found-each P rules (MatchKey d key) xs h = find-each P (λ o. has_key rules key o.bytes) xs h
found-each P rules (First d) xs h = first-each P xs h
found-each P rules (Last d) xs h = last-each P None xs tt h
found-each P rules (Next d bytes) xs h = behind-each P (λ o. has_key rules (rules.key bytes) o.bytes) xs h
found-each P rules (Prev d bytes) xs h = before-each P None (λ o. has_key rules (rules.key bytes) o.bytes) xs tt h
found-each P rules command xs h = tt

-- the object at a place that is answered is the one that is meant
pub record IsMeant (all : Layered) (d : ℕ) (found : Option (ℕ × Addr)) (o : Option (Seen ℕ)) : Type 0 where
  pub stands : IsStanding all d found
  pub object : object_at all found ≡ o

none-some : {A : Type 0} (x : A) → None ≡ Some x → ⊥
none-some x h = cc

some-same : (a b : ℕ × ℕ) → Some a ≡ Some b → a ≡ b
some-same a b e = cc

meant : (all : Layered) (d : ℕ) (found : Option (ℕ × Addr)) (o : Option (Seen ℕ)) → IfSome o (IsThere all d) → Answers found o → IsMeant all d found o
meant all d None None there h = record { stands = tt; object = refl }
meant all d None (Some x) there h = absurd (none-some (place_of x) h)
meant all d (Some p) None there h = absurd (none-some (numbers_of p) (sym h))
meant all d (Some p) (Some x) there h =
    let place = some-same (numbers_of p) (place_of x) h in
    let dict = ap (λ z. z.0) place in
    let at = ap (λ z. z.1) place in
    let bytes : bytes_there p.1.0 (all.layer p.0).objects ≡ Some x.bytes =
    ap (λ z. bytes_there z (all.layer p.0).objects) at ∙ ap (λ z. bytes_there x.at (all.layer z).objects) dict ∙ there.bytes in
    record {
      stands = record {
        there = subst all.Has (sym dict) there.alike.there;
        kind = ap (λ z. (all.layer z).kind) dict ∙ there.alike.kind;
        object = subst IsSome (sym bytes) refl;
      };
      object = ap (option_map (λ b. record { dict = p.0; at = p.1.0; bytes = b })) bytes ∙ one p.0 p.1.0 x dict at;
    }
  where
    one : (e a : ℕ) (x : Seen ℕ) → e ≡ x.dict → a ≡ x.at → Some (record { dict = e; at = a; bytes = x.bytes }) ≡ Some x
    one e a x dict at = rw (dict, at) refl

pub meant-found : (all : Layered) (links : Links) (d : ℕ) (rules : Rules) (command : Command) (found : Option (ℕ × Addr)) → AreLayers all → IsPath all links d
    → Answers found (found_by_command rules command (visible_of all links d)) → IsMeant all d found (found_by_command rules command (visible_of all links d))
meant-found all links d rules command found lawful p h =
    meant all d found (found_by_command rules command (visible_of all links d))
    (found-each (IsThere all d) rules command (visible_of all links d) (visible-there all links d lawful p)) h

-- so it is in dictionaries that stayed
pub meant-kept : {old new : Layered} (d : ℕ) (found : Option (ℕ × Addr)) (o : Option (Seen ℕ)) → Same old new → IsMeant old d found o → IsMeant new d found o
meant-kept d None o s m = record { stands = tt; object = m.object }
meant-kept d (Some p) o s m = record {
  stands = record {
    there = s.has p.0 m.stands.there;
    kind = ap (λ (z : ℕ → Layer). (z p.0).kind) s.layers ∙ m.stands.kind ∙ sym (ap (λ (z : ℕ → Layer). (z d).kind) s.layers);
    object = subst (λ (z : ℕ → Layer). IsSome (bytes_there p.1.0 (z p.0).objects)) (sym s.layers) m.stands.object;
  };
  object =
      ap (λ (z : ℕ → Layer). option_map (λ b. record { dict = p.0; at = p.1.0; bytes = b }) (bytes_there p.1.0 (z p.0).objects)) s.layers ∙ m.object;
}

-- what may be asked, and is no walk, is answered by what is found
answer-found : {N : Type 0} (rules : Rules) (command : Command) (xs : List (Seen N)) → ((d : List ℕ) → command ≡ Walk d → ⊥) → look_answer rules command xs ≡ found_reply (found_by_command rules command xs)
answer-found rules (Walk d) xs n = absurd (n d refl)
answer-found rules command xs n = refl

pub reply-found : {N : Type 0} (rules : Rules) (command : Command) (xs : List (Seen N)) → is_askable command ≡ true → ((d : List ℕ) → command ≡ Walk d → ⊥) → look_reply rules command xs ≡ found_reply (found_by_command rules command xs)
reply-found rules command xs asked n =
    ap (λ z. if z then look_answer rules command xs else Refused Size) asked ∙ answer-found rules command xs n

pub found-asked : {N : Type 0} (rules : Rules) (command : Command) (xs : List (Seen N)) → is_askable command ≡ true → look_found rules command xs ≡ found_by_command rules command xs
found-asked rules command xs asked = ap (λ z. if z then found_by_command rules command xs else None) asked

-- the items so far and the objects from here on are what is seen
pub record Walked (all : Layered) (links : Links) (d : ℕ) (at : Option (ℕ × Addr)) (items : List (List ℕ)) : Type 0 where
  pub front : List (Seen ℕ)
  pub back : List (Seen ℕ)
  pub whole : visible_of all links d ≡ front ++ back
  pub told : items ≡ map seen_bytes front
  pub here : Answers at (first_of back)

pub walked-start : (all : Layered) (links : Links) (d : ℕ) (at : Option (ℕ × Addr)) (items : List (List ℕ)) → items ≡ [] → Answers at (first_of (visible_of all links d)) → Walked all links d at items
walked-start all links d at items e h = record { front = []; back = visible_of all links d; whole = refl; told = e; here = h }

-- the object at a place of the walk
pub record IsHere (all : Layered) (links : Links) (d : ℕ) (p : ℕ × Addr) (items : List (List ℕ)) : Type 0 where
  pub front : List (Seen ℕ)
  pub one : Seen ℕ
  pub back : List (Seen ℕ)
  pub whole : visible_of all links d ≡ front ++ one ∷ back
  pub told : items ≡ map seen_bytes front
  pub place : numbers_of p ≡ place_of one
  pub meant : IsMeant all d (Some p) (Some one)

here-of : (all : Layered) (links : Links) (d : ℕ) (p : ℕ × Addr) (items : List (List ℕ)) (front back : List (Seen ℕ)) → AreLayers all → IsPath all links d
    → visible_of all links d ≡ front ++ back → items ≡ map seen_bytes front → Answers (Some p) (first_of back) → IsHere all links d p items
here-of all links d p items front [] lawful on whole told h = absurd (none-some (numbers_of p) (sym h))
here-of all links d p items front (x ∷ back) lawful on whole told h =
    let there = all-middle (IsThere all d) front x back (subst (AllByRecursion (IsThere all d)) whole (visible-there all links d lawful on)) in
    record {
      front = front;
      one = x;
      back = back;
      whole = whole;
      told = told;
      place = some-same (numbers_of p) (place_of x) h;
      meant = meant all d (Some p) (Some x) there h;
    }

pub walked-here : (all : Layered) (links : Links) (d : ℕ) (at : Option (ℕ × Addr)) (p : ℕ × Addr) (items : List (List ℕ)) → AreLayers all → IsPath all links d → at ≡ Some p → Walked all links d at items → IsHere all links d p items
walked-here all links d at p items lawful on is w =
    here-of all links d p items w.front w.back lawful on w.whole w.told (subst (λ z. Answers z (first_of w.back)) is w.here)

pub here-visible : (all : Layered) (links : Links) (d : ℕ) (p : ℕ × Addr) (items : List (List ℕ)) → IsHere all links d p items → IsVisible all links d (numbers_of p)
here-visible all links d p items w =
    subst (λ z. list_any (is_at z) (visible_of all links d) ≡ true) (sym w.place)
    (ap (list_any (is_at (place_of w.one))) w.whole ∙ any-middle (is_at (place_of w.one)) w.front w.one w.back (at-itself w.one))

-- one more is told
pub walked-on : (all : Layered) (links : Links) (d : ℕ) (p : ℕ × Addr) (at : Option (ℕ × Addr)) (items more : List (List ℕ)) (bytes : List ℕ) → AreLayers all → ArePaths links → IsPath all links d
    → IsHere all links d p items → bytes_there p.1.0 (all.layer p.0).objects ≡ Some bytes → more ≡ items ++ bytes ∷ []
    → Answers at (behind_last (is_at (numbers_of p)) (visible_of all links d)) → Walked all links d at more
walked-on all links d p at items more bytes lawful links_lawful on w there e h =
    let x = w.one in
    let told : Some (record { dict = p.0; at = p.1.0; bytes = bytes }) ≡ Some x = sym (ap (option_map (λ b. record { dict = p.0; at = p.1.0; bytes = b })) there) ∙ w.meant.object in
    let same : bytes ≡ x.bytes = cc in
    let apart = apart-behind w.front x w.back (subst AreApart w.whole (visible-apart all links d lawful links_lawful on)) in
    record {
      front = w.front ++ x ∷ [];
      back = w.back;
      whole = w.whole ∙ sym (append_assoc w.front (x ∷ []) w.back);
      told = e ∙ ap (λ z. z ++ bytes ∷ []) w.told ∙ ap (λ z. map seen_bytes w.front ++ z ∷ []) same ∙ sym (map-append seen_bytes w.front (x ∷ []));
      here = h
          ∙ ap (λ z. option_map place_of (behind_last (is_at z) (visible_of all links d))) w.place
          ∙ ap (λ z. option_map place_of (behind_last (is_at (place_of x)) z)) w.whole
          ∙ ap (option_map place_of) (behind-at (is_at (place_of x)) w.front x w.back (at-itself x) apart);
    }

-- fewer are left
pub left-before : (all : Layered) (links : Links) (d : ℕ) (p : ℕ × Addr) (items : List (List ℕ)) → IsHere all links d p items → length items < length (visible_of all links d)
left-before all links d p items w =
    let some : length items ≡ length w.front = ap length w.told ∙ length-map w.front seen_bytes in
    let more : length (visible_of all links d) ≡ length w.front + length (w.one ∷ w.back) = ap length w.whole ∙ length-append w.front (w.one ∷ w.back) in
    omega arith

-- at the end all is told
rest-none : (back : List (Seen ℕ)) → Answers None (first_of back) → back ≡ []
rest-none [] h = refl
rest-none (x ∷ xs) h = absurd (none-some (place_of x) h)

pub walked-end : (all : Layered) (links : Links) (d : ℕ) (at : Option (ℕ × Addr)) (items : List (List ℕ)) → at ≡ None → Walked all links d at items → items ≡ map seen_bytes (visible_of all links d)
walked-end all links d at items is w =
    let none = rest-none w.back (subst (λ z. Answers z (first_of w.back)) is w.here) in
    w.told ∙ ap (map seen_bytes) (sym (append-nil w.front) ∙ ap (λ z. w.front ++ z) (sym none) ∙ sym w.whole)
