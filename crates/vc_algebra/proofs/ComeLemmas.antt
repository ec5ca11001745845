-- What is still to come of an operation on two dictionaries, and how it becomes less.
use Rattle.vc_base.proofs.Common.{◌≡◌, ℕ, ◌+◌, ◌<◌, Bool, true, false, List, [], ◌∷◌, ◌++◌, length, take, drop, if◌then◌else◌, IfSome, Some, None, Option, option_map, sym, refl, ap, ◌∙◌, subst, inl, inr, true≢false, cases_Bool, arith, none-some, same_Some, AllByRecursion, list_any, is_ordered}
use Rattle.vc_base.specs.declared.addr.Addr.{Addr}
use Rattle.vc_dtdisc.specs.Finding.{behind_last, first_of}
use Rattle.vc_dtdisc.specs.Rules.{Rules}
use Rattle.vc_paths.specs.Layers.{AreLayers, Layer, Layered, Same}
use Rattle.vc_paths.specs.Links.{Links}
use Rattle.vc_paths.specs.Ordered.{IsStanding, object_at}
use Rattle.vc_paths.specs.Path.{Answers, IsPathBy, IsVisible, is_at, numbers_of, place_of, visible_of}
use Rattle.vc_paths.specs.Visible.{Seen}
use Rattle.vc_paths.proofs.SeekLemmas.{path-first}
use Rattle.vc_paths.proofs.SightLemmas.{IsThere, visible-there}
use Rattle.vc_paths.proofs.StayLemmas.{path-kept, seen-kept}
use Rattle.vc_algebra.specs.Algebra.{by_op}
use Rattle.vc_algebra.specs.ToCome.{Begins, IsMerge, IsOfSame, Passes, comes, from_place, from_there, left_of, right_of, seen_to_come, takes_left, turn_of}
use Rattle.vc_algebra.specs.declared.merge.Merge.{Merge}
use Rattle.vc_algebra.specs.declared.op.Op.{Op}
use Rattle.vc_algebra.specs.declared.turn.Turn.{Turn}
use Rattle.vc_algebra.specs.declared.turn.Turn.TheVariants.{Left, Right}
use Rattle.vc_algebra.proofs.MergeLemmas.{no-turn, pass-none, pass-one}
use Rattle.vc_algebra.proofs.OwnLemmas.{all-seen, at-place, first-in, from-behind, from-first, visible-own}
use Rattle.vc_algebra.proofs.RangeLemmas.{behind-in, none-place, stands_as, visible_sorted}
use Rattle.vc_paths.proofs.SortedLemmas.{AreSorted}

-- layers of which each is a dictionary
abbrev bare : (ℕ → Layer) → Layered
bare layer = record { Has = λ d. Unit {0}; layer = layer }

-- a place that is answered is seen where the object is
seen-answer : (r : Option (ℕ × Addr)) (o : Option (Seen ℕ)) (xs : List (Seen ℕ)) → ((y : Seen ℕ) → o ≡ Some y → list_any (is_at (place_of y)) xs ≡ true) → Answers r o → IfSome r (λ p. list_any (is_at (numbers_of p)) xs ≡ true)
seen-answer None o xs h a = tt
seen-answer (Some q) None xs h a = absurd (none-place (numbers_of q) (sym a))
seen-answer (Some q) (Some y) xs h a = subst (λ z. list_any (is_at z) xs ≡ true) (sym (same_Some (numbers_of q) (place_of y) a)) (h y refl)

pub seen-first : (r : Option (ℕ × Addr)) (xs : List (Seen ℕ)) → Answers r (first_of xs) → IfSome r (λ p. list_any (is_at (numbers_of p)) xs ≡ true)
seen-first r xs a = seen-answer r (first_of xs) xs (λ y e. first-in (λ z. list_any (is_at (place_of z)) xs ≡ true) xs y (all-seen xs) e) a

pub seen-behind : (p : ℕ × ℕ) (r : Option (ℕ × Addr)) (xs : List (Seen ℕ)) → Answers r (behind_last (is_at p) xs) → IfSome r (λ p. list_any (is_at (numbers_of p)) xs ≡ true)
seen-behind p r xs a = seen-answer r (behind_last (is_at p) xs) xs (λ y e. behind-in (λ z. list_any (is_at (place_of z)) xs ≡ true) (is_at p) xs y (all-seen xs) e) a

-- what is left behind a place
pub passed-rest : (all : Layered) (links : Links) (d : ℕ) (place r : Option (ℕ × Addr)) (from : ℕ × Addr) → AreLayers all → IsPathBy true all links d → place ≡ Some from → IfSome place (λ p. IsVisible all links d (numbers_of p)) → Answers r (behind_last (is_at (numbers_of from)) (visible_of all links d))
    → from_place r (visible_of all links d) ≡ drop 1 (from_place place (visible_of all links d))
passed-rest all links d place r from laws path' is seen a =
    subst (λ (z : Option (ℕ × Addr)). IfSome z (λ p. IsVisible all links d (numbers_of p)) → from_place r (visible_of all links d) ≡ drop 1 (from_place z (visible_of all links d))) (sym is)
    (λ s. from-behind (numbers_of from) r (visible_of all links d) (visible-own all links d laws path'.path path'.method) s a) seen

-- the object at a place that is seen is the first that is left
record FoundAt (all : Layered) (d : ℕ) (p : ℕ × ℕ) (xs : List (Seen ℕ)) : Type 0 where
  one : Seen ℕ
  first : first_of (from_there p xs) ≡ Some one
  at : is_at p one ≡ true
  there : IsThere all d one

found-at : (all : Layered) (d : ℕ) (p : ℕ × ℕ) (xs : List (Seen ℕ)) → AllByRecursion (IsThere all d) xs → list_any (is_at p) xs ≡ true → FoundAt all d p xs
found-at all d p [] h any = absurd (true≢false (sym any))
found-at all d p (x ∷ xs) h any = elim (cases_Bool (is_at p x)) as (λ _. FoundAt all d p (x ∷ xs)) [
  | inl t ↦ record { one = x; first = rw t refl; at = t; there = h.0 }
  | inr t ↦
      let rest = found-at all d p xs h.1 (rw t at any) in
      record { one = rest.one; first = rw t rest.first; at = rest.at; there = rest.there }
]

pub record IsHead (all : Layered) (d : ℕ) (r : Option (ℕ × Addr)) (xs : List (Seen ℕ)) : Type 0 where
  pub stands : IsStanding all d r
  pub object : object_at all r ≡ first_of (from_place r xs)
  pub answer : Answers r (first_of (from_place r xs))

pub is-head : (all : Layered) (d e : ℕ) (r : Option (ℕ × Addr)) (xs : List (Seen ℕ)) → AllByRecursion (IsThere all e) xs → (all.layer e).kind ≡ (all.layer d).kind → IfSome r (λ p. list_any (is_at (numbers_of p)) xs ≡ true) → IsHead all d r xs
is-head all d e None xs h kinds seen = record { stands = tt; object = refl; answer = refl }
is-head all d e (Some p) xs h kinds seen =
    let f = found-at all e (numbers_of p) xs h seen in
    let same = at-place (numbers_of p) f.one f.at in
    let s = stands_as (Some p) (Some f.one) (λ x is. subst (IsThere all e) (same_Some f.one x is) f.there) (ap (λ z. Some z) same) in
    record {
      stands = record {
        there = s.stands.there;
        kind = ap (λ (z : ℕ × ℕ). (all.layer z.0).kind) same ∙ f.there.alike.kind ∙ kinds;
        object = s.stands.object;
      };
      object = s.object ∙ sym f.first;
      answer = ap (λ z. Some z) same ∙ ap (option_map place_of) (sym f.first);
    }

pub left-head : {all : Layered} {links : Links} (m : Merge) → AreLayers all → IsMerge all links m → IsHead all m.d m.left (visible_of all links m.d)
left-head {all} {links} m laws s = is-head all m.d m.d m.left (visible_of all links m.d) (visible-there all links m.d laws s.first.path) refl s.left

pub right-head : {all : Layered} {links : Links} (m : Merge) → AreLayers all → IsMerge all links m → IsHead all m.d m.right (visible_of all links m.e)
right-head {all} {links} m laws s = is-head all m.d m.e m.right (visible_of all links m.e) (visible-there all links m.e laws s.second.path) s.kinds s.right

-- one is passed
pub pass-left : {all : Layered} {links : Links} (m : Merge) (r : Option (ℕ × Addr)) → AreLayers all → IsMerge all links m → from_place r (visible_of all links m.d) ≡ drop 1 (left_of all links m) → IfSome r (λ p. IsVisible all links m.d (numbers_of p))
    → Passes all links true m (record { d = m.d; e = m.e; op = m.op; left = r; right = m.right }) m.left
pass-left m r laws s rest seen = record {
  place = (left-head m laws s).answer;
  first = rest;
  second = refl;
  stands = (left-head m laws s).stands;
  merge = record { first = s.first; second = s.second; kinds = s.kinds; left = seen; right = s.right };
  same = record { first = refl; second = refl; op = refl };
}

pub pass-right : {all : Layered} {links : Links} (m : Merge) (r : Option (ℕ × Addr)) → AreLayers all → IsMerge all links m → from_place r (visible_of all links m.e) ≡ drop 1 (right_of all links m) → IfSome r (λ p. IsVisible all links m.e (numbers_of p))
    → Passes all links false m (record { d = m.d; e = m.e; op = m.op; left = m.left; right = r }) m.right
pass-right m r laws s rest seen = record {
  place = (right-head m laws s).answer;
  first = refl;
  second = rest;
  stands = (right-head m laws s).stands;
  merge = record { first = s.first; second = s.second; kinds = s.kinds; left = s.left; right = seen };
  same = record { first = refl; second = refl; op = refl };
}

-- it stays so where each layer is as it was
pub by-kept : {old new : Layered} {links : Links} (d : ℕ) → Same old new → IsPathBy true old links d → IsPathBy true new links d
by-kept {old} {new} {links} d s p = record { path = path-kept links d s p.path; method = subst (λ (z : ℕ → Layer). is_ordered (z d).method ≡ true) (sym s.layers) p.method }

pub seen-on : {old new : Layered} (links : Links) (d : ℕ) (r : Option (ℕ × Addr)) → Same old new → IfSome r (λ p. IsVisible old links d (numbers_of p)) → IfSome r (λ p. IsVisible new links d (numbers_of p))
seen-on links d None s h = tt
seen-on links d (Some p) s h = seen-kept links d (numbers_of p) s h

pub merge-kept : {old new : Layered} (links : Links) (m : Merge) → Same old new → IsMerge old links m → IsMerge new links m
merge-kept links m s h = record {
  first = by-kept m.d s h.first;
  second = by-kept m.e s h.second;
  kinds = subst (λ (z : ℕ → Layer). (z m.e).kind ≡ (z m.d).kind) (sym s.layers) h.kinds;
  left = seen-on links m.d m.left s h.left;
  right = seen-on links m.e m.right s h.right;
}

pub come-kept : {old new : Layered} (links : Links) (m : Merge) → Same old new → seen_to_come new links m ≡ seen_to_come old links m
come-kept links m s = ap (λ (z : ℕ → Layer). seen_to_come (bare z) links m) s.layers

pub left-kept : {old new : Layered} (links : Links) (m : Merge) → Same old new → left_of new links m ≡ left_of old links m
left-kept links m s = ap (λ (z : ℕ → Layer). left_of (bare z) links m) s.layers

pub right-kept : {old new : Layered} (links : Links) (m : Merge) → Same old new → right_of new links m ≡ right_of old links m
right-kept links m s = ap (λ (z : ℕ → Layer). right_of (bare z) links m) s.layers

-- an operation begins with all of it to come
pub begin : {all mid new : Layered} {links : Links} (d e : ℕ) (op : Op) (left right : Option (ℕ × Addr)) → IsPathBy true all links d → IsPathBy true all links e → (all.layer d).kind ≡ (all.layer e).kind → Same all mid → Same all new
    → Answers left (first_of (visible_of all links d)) → Answers right (first_of (visible_of mid links e)) → Begins new links d e op (record { d = d; e = e; op = op; left = left; right = right })
begin {all} {mid} {new} {links} d e op left right p q kinds same s a b =
    let m : Merge = record { d = d; e = e; op = op; left = left; right = right } in
    let b' : Answers right (first_of (visible_of all links e)) = subst (λ (z : ℕ → Layer). Answers right (first_of (visible_of (bare z) links e))) same.layers b in
    let rules = (all.layer d).rules in
    let whole : seen_to_come all links m ≡ by_op op rules (visible_of all links d) (visible_of all links e) =
    ap (λ z. by_op op rules z (from_place right (visible_of all links e))) (from-first left (visible_of all links d) a) ∙ ap (by_op op rules (visible_of all links d)) (from-first right (visible_of all links e) b') in
    record {
      merge = merge-kept links m s (record { first = p; second = q; kinds = sym kinds; left = seen-first left (visible_of all links d) a; right = seen-first right (visible_of all links e) b' });
      first = refl;
      second = refl;
      operation = refl;
      whole = subst (λ (z : ℕ → Layer). seen_to_come (bare z) links m ≡ by_op op (z d).rules (visible_of (bare z) links d) (visible_of (bare z) links e)) (sym s.layers) whole;
    }

-- which object is passed there is
taken : (op : Op) (rules : Rules) (xs ys : List (Seen ℕ)) (turn : Turn) → turn_of rules (first_of xs) (first_of ys) ≡ Some turn → (x : Seen ℕ) × (first_of (if takes_left op turn then xs else ys) ≡ Some x)
taken op rules [] [] turn e = absurd (no-turn turn e)
taken op rules (x ∷ xs) [] turn e = subst (λ z. (y : Seen ℕ) × (first_of (if takes_left op z then x ∷ xs else []) ≡ Some y)) (same_Some Left turn e) (x, refl)
taken op rules [] (y ∷ ys) turn e = subst (λ z. (x : Seen ℕ) × (first_of (if takes_left op z then [] else y ∷ ys) ≡ Some x)) (same_Some Right turn e) (y, refl)
taken op rules (x ∷ xs) (y ∷ ys) turn e = elim (cases_Bool (takes_left op turn)) as (λ _. (z : Seen ℕ) × (first_of (if takes_left op turn then x ∷ xs else y ∷ ys) ≡ Some z)) [
  | inl t ↦ (x, rw t refl)
  | inr t ↦ (y, rw t refl)
]

front-first : (xs rest : List (Seen ℕ)) (x : Seen ℕ) → first_of xs ≡ Some x → (first_of (take 1 xs ++ rest) ≡ first_of xs) × (drop 1 (take 1 xs ++ rest) ≡ rest)
front-first [] rest x e = absurd (none-some x e)
front-first (y ∷ ys) rest x e = (refl, refl)

fewer : (t : Bool) (xs ys : List (Seen ℕ)) (x : Seen ℕ) → first_of (if t then xs else ys) ≡ Some x → length (if t then drop 1 xs else xs) + length (if t then ys else drop 1 ys) < length xs + length ys
fewer true [] ys x e = absurd (none-some x e)
fewer true (z ∷ zs) ys x e = omega arith
fewer false xs [] x e = absurd (none-some x e)
fewer false xs (z ∷ zs) x e = omega arith

-- what is left is sorted
from-sorted : (rules : Rules) (r : Option (ℕ × Addr)) (xs : List (Seen ℕ)) → AreSorted rules xs → AreSorted rules (from_place r xs)
from-sorted rules None xs s = tt
from-sorted rules (Some p) [] s = tt
from-sorted rules (Some p) (x ∷ xs) s = elim (cases_Bool (is_at (numbers_of p) x)) as (λ _. AreSorted rules (from_place (Some p) (x ∷ xs))) [
  | inl t ↦ rw t s
  | inr t ↦ rw t (from-sorted rules (Some p) xs s.1)
]

left-sorted : {all : Layered} {links : Links} (m : Merge) → AreLayers all → IsMerge all links m → AreSorted (all.layer m.d).rules (left_of all links m)
left-sorted {all} {links} m laws s = from-sorted (all.layer m.d).rules m.left (visible_of all links m.d) (visible_sorted all links m.d laws s.first.path s.first.method)

right-sorted : {all : Layered} {links : Links} (m : Merge) → AreLayers all → IsMerge all links m → AreSorted (all.layer m.d).rules (right_of all links m)
right-sorted {all} {links} m laws s =
    let rules : (all.layer m.e).rules ≡ (all.layer m.d).rules = laws.kinds m.e m.d (path-first all links m.e s.second.path).there (path-first all links m.d s.first.path).there s.kinds in
    from-sorted (all.layer m.d).rules m.right (visible_of all links m.e) (subst (λ z. AreSorted z (visible_of all links m.e)) rules (visible_sorted all links m.e laws s.second.path s.second.method))

-- one step of an operation, by whose turn it is
pub record IsStep (all : Layered) (links : Links) (m new : Merge) (place : Option (ℕ × Addr)) (answered : Bool) : Type 0 where
  pub comes : answered ≡ true → Answers place (first_of (seen_to_come all links m)) × (seen_to_come all links new ≡ drop 1 (seen_to_come all links m))
  pub goes : answered ≡ false → seen_to_come all links new ≡ seen_to_come all links m
  pub fewer : length (left_of all links new) + length (right_of all links new) < length (left_of all links m) + length (right_of all links m)

pub step : {all : Layered} {links : Links} (m new : Merge) (turn : Turn) (result : Option Turn) (left answered : Bool) (place : Option (ℕ × Addr)) → AreLayers all → IsMerge all links m
    → result ≡ turn_of (all.layer m.d).rules (object_at all m.left) (object_at all m.right) → result ≡ Some turn → left ≡ takes_left m.op turn → answered ≡ comes m.op turn → Passes all links left m new place → IsStep all links m new place answered
step {all} {links} m new turn result left answered place laws s told is l c passes' =
    let rules = (all.layer m.d).rules in
    let xs = left_of all links m in
    let ys = right_of all links m in
    let order = (laws.lawful m.d (path-first all links m.d s.first.path).there).order in
    let p = subst (λ t. Passes all links t m new place) l passes' in
    let turns : turn_of rules (first_of xs) (first_of ys) ≡ Some turn =
    sym (ap (λ (z : Option (Seen ℕ)). turn_of rules z (object_at all m.right)) (left-head m laws s).object ∙ ap (turn_of rules (first_of xs)) (right-head m laws s).object) ∙ sym told ∙ is in
    let t = takes_left m.op turn in
    let one = taken m.op rules xs ys turn turns in
    let after : seen_to_come all links new ≡ by_op m.op rules (if t then drop 1 xs else xs) (if t then ys else drop 1 ys) =
    ap (λ z. by_op z (all.layer new.d).rules (left_of all links new) (right_of all links new)) p.same.op
    ∙ ap (λ z. by_op m.op (all.layer z).rules (left_of all links new) (right_of all links new)) p.same.first
    ∙ ap (λ z. by_op m.op rules z (right_of all links new)) p.first
    ∙ ap (by_op m.op rules (if t then drop 1 xs else xs)) p.second in
    let front = λ (b : Bool). if b then take 1 (if t then xs else ys) else [] in
    let before : seen_to_come all links m ≡ front answered ++ seen_to_come all links new =
    pass-one m.op rules order xs ys turn (left-sorted m laws s) (right-sorted m laws s) turns
    ∙ ap (λ z. front z ++ by_op m.op rules (if t then drop 1 xs else xs) (if t then ys else drop 1 ys)) (sym c)
    ∙ ap (λ z. front answered ++ z) (sym after) in
    let firsts = front-first (if t then xs else ys) (seen_to_come all links new) one.0 one.1 in
    record {
      comes = λ yes.
          let whole : seen_to_come all links m ≡ take 1 (if t then xs else ys) ++ seen_to_come all links new = before ∙ ap (λ z. front z ++ seen_to_come all links new) yes in (
            subst (Answers place) (sym (ap first_of whole ∙ firsts.0)) p.place,
            sym (ap (drop 1) whole ∙ firsts.1),
          );
      goes = λ no. sym (before ∙ ap (λ z. front z ++ seen_to_come all links new) no);
      fewer = subst (λ z. z < length xs + length ys) (sym (ap (λ z. length z + length (right_of all links new)) p.first ∙ ap (λ z. length (if t then drop 1 xs else xs) + length z) p.second)) (fewer t xs ys one.0 one.1);
    }

-- where it is nobody's turn nothing is to come
pub finished : {all : Layered} {links : Links} (m : Merge) (result : Option Turn) → AreLayers all → IsMerge all links m → result ≡ turn_of (all.layer m.d).rules (object_at all m.left) (object_at all m.right) → result ≡ None → seen_to_come all links m ≡ []
finished {all} {links} m result laws s told is =
    let rules = (all.layer m.d).rules in
    let xs = left_of all links m in
    pass-none m.op rules xs (right_of all links m)
    (sym (ap (λ (z : Option (Seen ℕ)). turn_of rules z (object_at all m.right)) (left-head m laws s).object ∙ ap (turn_of rules (first_of xs)) (right-head m laws s).object) ∙ sym told ∙ is)

-- over two steps
pub same-merge : {a b c : Merge} → IsOfSame a b → IsOfSame b c → IsOfSame a c
same-merge s t = record { first = t.first ∙ s.first; second = t.second ∙ s.second; op = t.op ∙ s.op }

pub fewer-kept : {old new : Layered} (links : Links) (m : Merge) (n : ℕ) → Same old new → length (left_of old links m) + length (right_of old links m) < n → length (left_of new links m) + length (right_of new links m) < n
fewer-kept {old} {new} links m n s h =
    subst (λ z. z < n) (sym (ap (λ z. length z + length (right_of new links m)) (left-kept links m s) ∙ ap (λ z. length (left_of old links m) + length z) (right-kept links m s))) h
