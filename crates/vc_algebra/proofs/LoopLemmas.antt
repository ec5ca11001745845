-- Loops over a range and over an operation end: what is still to come gets less with each answer.
use Rattle.vc_base.proofs.Common.{◌≡◌, ℕ, ◌<◌, ◌≤◌, true, not, ◌&&◌, List, [], ◌∷◌, drop, length, Some, None, Option, option_map, sym, refl, ap, ◌∙◌, subst, inl, inr, true≢false, cases_Bool, same_Some, length-drop, arith, AllByRecursion, list_any, is_ordered, IsTotalOrder}
use Rattle.vc_base.specs.declared.addr.Addr.{Addr}
use Rattle.vc_base.proofs.Quantifiers.{all-weaken}
use Rattle.vc_dtdisc.specs.Finding.{behind_last, first_of}
use Rattle.vc_dtdisc.specs.Rules.{Rules}
use Rattle.vc_paths.specs.Layers.{AreLayers, Layer, Layered, Same, bytes_there}
use Rattle.vc_paths.specs.Links.{Links}
use Rattle.vc_paths.specs.Path.{Answers, IsPath, IsPathBy, IsVisible, is_at, numbers_of, place_of, visible_of}
use Rattle.vc_paths.specs.Visible.{Seen, is_hidden}
use Rattle.vc_paths.proofs.OrderLemmas.{all_filter}
use Rattle.vc_paths.proofs.SeekLemmas.{path-first}
use Rattle.vc_paths.proofs.SightLemmas.{IsThere, visible-there}
use Rattle.vc_paths.proofs.SortedLemmas.{all_sorted}
use Rattle.vc_paths.proofs.StayLemmas.{visible-kept}
use Rattle.vc_algebra.specs.Algebra.{by_op, if_upto, is_from, is_over, minus, range}
use Rattle.vc_algebra.specs.Runs.{HaveOwn, IsMergeNext, IsRangeFirst, IsRangeNext}
use Rattle.vc_algebra.specs.ToCome.{IsMerge, from_place, from_there, left_of, right_of, seen_to_come}
use Rattle.vc_algebra.specs.declared.merge.Merge.{Merge}
use Rattle.vc_algebra.specs.declared.op.Op.{Op}
use Rattle.vc_algebra.specs.declared.op.Op.TheVariants.{Union, Meet, Minus}
use Rattle.vc_algebra.proofs.OwnLemmas.{from-behind, visible-own}
use Rattle.vc_algebra.proofs.RangeLemmas.{none-place, visible_sorted}
use Rattle.vc_algebra.proofs.RunLemmas.{rest_behind, step-first, step-on}

-- from a place that is seen on there is something
some-there : (p : ℕ × ℕ) (xs : List (Seen ℕ)) → list_any (is_at p) xs ≡ true → 1 ≤ length (from_there p xs)
some-there p [] h = absurd (true≢false (sym h))
some-there p (x ∷ xs) h = elim (cases_Bool (is_at p x)) as (λ _. 1 ≤ length (from_there p (x ∷ xs))) [
  | inl here ↦ rw here (omega arith)
  | inr past ↦ rw past (some-there p xs (rw past at h))
]

module _ (p : ℕ × Addr) (xs : List (Seen ℕ)) (own : HaveOwn xs) (seen : list_any (is_at (numbers_of p)) xs ≡ true) where
  none-less : (r : Option (ℕ × Addr)) → option_map numbers_of r ≡ None → length (from_place r xs) < length (from_place (Some p) xs)
  none-less None a = some-there (numbers_of p) xs seen
  none-less (Some q) a = absurd (none-place (numbers_of q) (sym a))

  behind-less : (r : Option (ℕ × Addr)) → Answers r (behind_last (is_at (numbers_of p)) xs) → length (from_place r xs) < length (from_place (Some p) xs)
  behind-less r a =
      let rest : length (from_place r xs) ≡ length (drop 1 (from_there (numbers_of p) xs)) = ap length (from-behind (numbers_of p) r xs own seen a) in
      let some = some-there (numbers_of p) xs seen in
      let less = length-drop 1 (from_there (numbers_of p) xs) in
      omega arith

  upto-less : (rules : Rules) (high : Option (List ℕ)) (r : Option (ℕ × Addr)) (o : Option (Seen ℕ)) → behind_last (is_at (numbers_of p)) xs ≡ o → Answers r (if_upto rules high o) → length (from_place r xs) < length (from_place (Some p) xs)
  upto-less rules high r None is a = none-less r a
  upto-less rules high r (Some o) is a = elim (cases_Bool (is_over rules high o)) as (λ _. length (from_place r xs) < length (from_place (Some p) xs)) [
    | inl over ↦ none-less r (rw over at a)
    | inr under ↦ behind-less r (subst (Answers r) (sym is) (rw under at a))
  ]

-- of a range
pub range-less : {old new : Layered} (links : Links) (d : ℕ) (from : ℕ × Addr) (high : Option (List ℕ)) (answer : Option (ℕ × Addr)) → AreLayers old → Same old new → IsPathBy true old links d → IsVisible old links d (numbers_of from)
    → IsRangeNext old links d from high answer → length (from_place answer (visible_of new links d)) < length (from_place (Some from) (visible_of old links d))
range-less {old} {new} links d from high answer laws same path seen next =
    subst (λ xs. length (from_place answer xs) < length (from_place (Some from) (visible_of old links d))) (sym (visible-kept links d same))
    (upto-less from (visible_of old links d) (visible-own old links d laws path.path path.method) seen (old.layer d).rules high answer (behind_last (is_at (numbers_of from)) (visible_of old links d)) refl next)

-- and of an operation
pub merge-less : {old new : Layered} {links : Links} {m n : Merge} {p : ℕ × Addr} → IsMergeNext links old new m n (Some p) → length (seen_to_come new links n) < length (seen_to_come old links m)
merge-less {old} {new} {links} {m} {n} {p} next =
    let rest : length (seen_to_come new links n) ≡ length (drop 1 (seen_to_come old links m)) = ap length next.rest in
    let less = length-drop 1 (seen_to_come old links m) in
    let some = some-first (seen_to_come old links m) next.place in
    omega arith
  where
    some-first : (xs : List (Seen ℕ)) → Answers (Some p) (first_of xs) → 1 ≤ length xs
    some-first [] a = absurd (none-place (numbers_of p) (sym a))
    some-first (x ∷ xs) a = omega arith

-- layers of which each is a dictionary
abbrev bare : (ℕ → Layer) → Layered
bare layer = record { Has = λ d. Unit {0}; layer = layer }

-- an object stands at its place
abbrev pub StandsThere : Layered → Seen ℕ → Type 0
StandsThere all o = bytes_there o.at (all.layer o.dict).objects ≡ Some o.bytes

all-from : (P : Seen ℕ → Type 0) (p : ℕ × ℕ) (xs : List (Seen ℕ)) → AllByRecursion P xs → AllByRecursion P (from_there p xs)
all-from P p [] h = tt
all-from P p (x ∷ xs) h = elim (cases_Bool (is_at p x)) as (λ _. AllByRecursion P (from_there p (x ∷ xs))) [
  | inl here ↦ rw here h
  | inr past ↦ rw past (all-from P p xs h.1)
]

all-place : (P : Seen ℕ → Type 0) (r : Option (ℕ × Addr)) (xs : List (Seen ℕ)) → AllByRecursion P xs → AllByRecursion P (from_place r xs)
all-place P None xs h = tt
all-place P (Some p) xs h = all-from P (numbers_of p) xs h

all-by : (P : Seen ℕ → Type 0) (op : Op) (rules : Rules) (xs ys : List (Seen ℕ)) → AllByRecursion P xs → AllByRecursion P ys → AllByRecursion P (by_op op rules xs ys)
all-by P Union rules xs ys h k = all_sorted rules P xs (minus rules ys xs) h (all_filter P (λ o. not (is_hidden rules xs o)) ys k)
all-by P Meet rules xs ys h k = all_filter P (is_hidden rules ys) xs h
all-by P Minus rules xs ys h k = all_filter P (λ o. not (is_hidden rules ys o)) xs h

visible-stands : (all : Layered) (links : Links) (d : ℕ) → AreLayers all → IsPath all links d → AllByRecursion (StandsThere all) (visible_of all links d)
visible-stands all links d laws p = all-weaken (IsThere all d) (StandsThere all) (visible_of all links d) (λ o there. there.bytes) (visible-there all links d laws p)

-- what is answered is the first of a list, and the rest is left
pub record Shows (list left : List (Seen ℕ)) (bytes : List ℕ) : Type 0 where
  pub object : Seen ℕ
  pub first : list ≡ object ∷ left
  pub same : object.bytes ≡ bytes

shows : (all : Layered) (p : ℕ × Addr) (bytes : List ℕ) (xs ys : List (Seen ℕ)) → Answers (Some p) (first_of xs) → ys ≡ drop 1 xs → AllByRecursion (StandsThere all) xs → bytes_there p.1.0 (all.layer p.0).objects ≡ Some bytes → Shows xs ys bytes
shows all p bytes [] ys a rest there at = absurd (none-place (numbers_of p) (sym a))
shows all p bytes (x ∷ xs) ys a rest there at =
    let place : numbers_of p ≡ place_of x = same_Some (numbers_of p) (place_of x) a in
    record {
      object = x;
      first = ap (λ z. x ∷ z) (sym rest);
      same = same_Some x.bytes bytes (sym there.0 ∙ sym (ap (λ (q : ℕ × ℕ). bytes_there q.1 (all.layer q.0).objects) place) ∙ at);
    }

none-first : (xs : List (Seen ℕ)) → Answers None (first_of xs) → xs ≡ []
none-first [] a = refl
none-first (x ∷ xs) a = absurd (none-place (place_of x) a)

-- of an operation
pub come-stands : (all : Layered) (links : Links) (m : Merge) → AreLayers all → IsMerge all links m → AllByRecursion (StandsThere all) (seen_to_come all links m)
come-stands all links m laws is =
    all-by (StandsThere all) m.op (all.layer m.d).rules (left_of all links m) (right_of all links m)
    (all-place (StandsThere all) m.left (visible_of all links m.d) (visible-stands all links m.d laws is.first.path))
    (all-place (StandsThere all) m.right (visible_of all links m.e) (visible-stands all links m.e laws is.second.path))

pub merge-shows : {old new : Layered} (links : Links) (m n : Merge) (p : ℕ × Addr) (bytes : List ℕ) → AreLayers old → IsMerge old links m → Same old new → IsMergeNext links old new m n (Some p) → bytes_there p.1.0 (new.layer p.0).objects ≡ Some bytes → Shows (seen_to_come old links m) (seen_to_come new links n) bytes
merge-shows {old} {new} links m n p bytes laws is same next at =
    shows old p bytes (seen_to_come old links m) (seen_to_come new links n) next.place next.rest (come-stands old links m laws is)
    (subst (λ (z : ℕ → Layer). bytes_there p.1.0 (z p.0).objects ≡ Some bytes) same.layers at)

pub merge-ends : {old new : Layered} (links : Links) (m n : Merge) → IsMergeNext links old new m n None → seen_to_come old links m ≡ []
merge-ends {old} {new} links m n next = none-first (seen_to_come old links m) next.place

-- what is left of a range, from the place of its next object on
pub record RangeLeft (all : Layered) (links : Links) (d : ℕ) (high : Option (List ℕ)) (next : Option (ℕ × Addr)) (left : List (Seen ℕ)) : Type 0 where
  pub place : Answers next (first_of left)
  pub rest : rest_behind (all.layer d).rules high (visible_of all links d) next ≡ drop 1 left
  pub there : AllByRecursion (StandsThere all) left

module _ (all : Layered) (links : Links) (d : ℕ) (low high : Option (List ℕ)) (laws : AreLayers all) (path' : IsPathBy true all links d) where
  abbrev rules : Rules
  rules = (all.layer d).rules

  abbrev xs : List (Seen ℕ)
  xs = visible_of all links d

  order : IsTotalOrder rules.compare
  order = (laws.lawful d (path-first all links d path'.path).there).order

  pub range-begins : (r : Option (ℕ × Addr)) → IsRangeFirst all links d low high r → RangeLeft all links d high r (range rules low high xs)
  range-begins r first = record {
    place = first;
    rest = step-first rules order low high xs r (visible-own all links d laws path'.path path'.method) (visible_sorted all links d laws path'.path path'.method) first;
    there = all_filter (StandsThere all) (λ o. is_from rules low o && not (is_over rules high o)) xs (visible-stands all links d laws path'.path);
  }

  all-drop : (P : Seen ℕ → Type 0) (ys : List (Seen ℕ)) → AllByRecursion P ys → AllByRecursion P (drop 1 ys)
  all-drop P [] h = tt
  all-drop P (y ∷ ys) h = h.1

  pub range-goes_on : (from : ℕ × Addr) (r : Option (ℕ × Addr)) (left : List (Seen ℕ)) → IsVisible all links d (numbers_of from) → IsRangeNext all links d from high r → RangeLeft all links d high (Some from) left → RangeLeft all links d high r (drop 1 left)
  range-goes_on from r left seen next is =
      let s = step-on rules order high xs from r (visible-own all links d laws path'.path path'.method) (visible_sorted all links d laws path'.path path'.method) seen next in
      record {
        place = subst (λ ys. Answers r (first_of ys)) is.rest s.place;
        rest = s.rest ∙ ap (drop 1) is.rest;
        there = all-drop (StandsThere all) left is.there;
      }

pub range-shows : (all : Layered) (links : Links) (d : ℕ) (high : Option (List ℕ)) (p : ℕ × Addr) (left : List (Seen ℕ)) (bytes : List ℕ) → RangeLeft all links d high (Some p) left → bytes_there p.1.0 (all.layer p.0).objects ≡ Some bytes → Shows left (drop 1 left) bytes
range-shows all links d high p left bytes is at = shows all p bytes left (drop 1 left) is.place refl is.there at

pub range-ends : (all : Layered) (links : Links) (d : ℕ) (high : Option (List ℕ)) (left : List (Seen ℕ)) → RangeLeft all links d high None left → left ≡ []
range-ends all links d high left is = none-first left is.place

-- the same, told of layers before calls that left them
pub next-before : {old new : Layered} (links : Links) (d : ℕ) (from : ℕ × Addr) (high : Option (List ℕ)) (r : Option (ℕ × Addr)) → Same old new → IsRangeNext new links d from high r → IsRangeNext old links d from high r
next-before links d from high r s h = subst (λ (z : ℕ → Layer). IsRangeNext (bare z) links d from high r) s.layers h

pub bytes-before : {old new : Layered} (p : ℕ × Addr) (bytes : List ℕ) → Same old new → bytes_there p.1.0 (new.layer p.0).objects ≡ Some bytes → bytes_there p.1.0 (old.layer p.0).objects ≡ Some bytes
bytes-before p bytes s at = subst (λ (z : ℕ → Layer). bytes_there p.1.0 (z p.0).objects ≡ Some bytes) s.layers at

pub visible-before : {old new : Layered} (links : Links) (d : ℕ) (p : ℕ × ℕ) → Same old new → IsVisible new links d p → IsVisible old links d p
visible-before links d p s h = subst (λ xs. list_any (is_at p) xs ≡ true) (visible-kept links d s) h

pub path-before : {old new : Layered} (links : Links) (d : ℕ) → Same old new → IsPath old links d → IsPathBy true new links d → IsPathBy true old links d
path-before links d s p q = record { path = p; method = subst (λ (z : ℕ → Layer). is_ordered (z d).method ≡ true) s.layers q.method }
