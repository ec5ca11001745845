-- What calls one after another list, where each answers the first of what is left.
use Rattle.vc_base.proofs.Common.{◌≡◌, ℕ, ◌<◌, Bool, true, false, not, ◌&&◌, List, [], ◌∷◌, map, length, take, drop, IfSome, Some, None, Option, sym, refl, ap, ◌∙◌, subst, inl, inr, true≢false, cases_Bool, arith, same_Some, AllByRecursion, list_any, IsTotalOrder}
use Rattle.vc_base.specs.declared.addr.Addr.{Addr}
use Rattle.vc_base.proofs.Quantifiers.{all-weaken}
use Rattle.vc_dtdisc.specs.Finding.{behind_last, first_of}
use Rattle.vc_dtdisc.specs.Rules.{Rules}
use Rattle.vc_paths.specs.Layers.{AreLayers, Layer, Layered}
use Rattle.vc_paths.specs.Links.{Links}
use Rattle.vc_paths.specs.Path.{Answers, IsPathBy, is_at, numbers_of, place_of, visible_of}
use Rattle.vc_paths.specs.Visible.{Seen}
use Rattle.vc_paths.proofs.OrderLemmas.{all_filter, any_none}
use Rattle.vc_paths.proofs.SeekLemmas.{path-first}
use Rattle.vc_paths.proofs.SortedLemmas.{AreSorted, IsUpto}
use Rattle.vc_algebra.specs.Algebra.{by_op, if_upto, is_from, is_over, range}
use Rattle.vc_algebra.specs.Runs.{AreListed, AreMergeNexts, AreRangeNexts, HaveOwn, IsElsewhere, IsRangeFirst, has_none, until_none}
use Rattle.vc_algebra.specs.ToCome.{Begins, from_place, from_there, seen_to_come}
use Rattle.vc_algebra.specs.declared.merge.Merge.{Merge}
use Rattle.vc_algebra.specs.declared.op.Op.{Op}
use Rattle.vc_algebra.proofs.MergeLemmas.{filter-by}
use Rattle.vc_algebra.proofs.OwnLemmas.{at-place, first-in, from-behind, from-first, from-past, visible-own}
use Rattle.vc_algebra.proofs.RangeLemmas.{from_up, no-range, none-place, over_up, visible_sorted}
use Rattle.vc_algebra.proofs.SeenLemmas.{first-seen, next-seen}

-- each answer is the first of what is left
Drains : List (Seen ℕ) → List (Option (ℕ × Addr)) → Type 0
Drains xs [] = Unit {0}
Drains xs (a ∷ more) = Answers a (first_of xs) × Drains (drop 1 xs) more

drained-front : (xs : List (Seen ℕ)) (answers : List (Option (ℕ × Addr))) → Drains xs answers → map numbers_of (until_none answers) ≡ take (length (until_none answers)) (map place_of xs)
unfolding Drains
drained-front xs [] h = refl
drained-front xs (None ∷ more) h = refl
drained-front [] (Some q ∷ more) h = absurd (none-place (numbers_of q) (sym h.0))
drained-front (x ∷ xs) (Some q ∷ more) h =
    ap (λ z. z ∷ map numbers_of (until_none more)) (same_Some (numbers_of q) (place_of x) h.0)
    ∙ ap (λ z. place_of x ∷ z) (drained-front xs more h.1)

drained-whole : (xs : List (Seen ℕ)) (answers : List (Option (ℕ × Addr))) → Drains xs answers → has_none answers ≡ true → map numbers_of (until_none answers) ≡ map place_of xs
unfolding Drains
drained-whole xs [] h n = absurd (true≢false (sym n))
drained-whole [] (None ∷ more) h n = refl
drained-whole (x ∷ xs) (None ∷ more) h n = absurd (none-place (place_of x) h.0)
drained-whole [] (Some q ∷ more) h n = absurd (none-place (numbers_of q) (sym h.0))
drained-whole (x ∷ xs) (Some q ∷ more) h n =
    ap (λ z. z ∷ map numbers_of (until_none more)) (same_Some (numbers_of q) (place_of x) h.0)
    ∙ ap (λ z. place_of x ∷ z) (drained-whole xs more h.1 n)

drained-ends : (xs : List (Seen ℕ)) (answers : List (Option (ℕ × Addr))) → Drains xs answers → length xs < length answers → has_none answers ≡ true
unfolding Drains
drained-ends xs [] h n = absurd (omega arith)
drained-ends xs (None ∷ more) h n = refl
drained-ends [] (Some q ∷ more) h n = absurd (none-place (numbers_of q) (sym h.0))
drained-ends (x ∷ xs) (Some q ∷ more) h n = drained-ends xs more h.1 (omega arith)

drained-none : (answers : List (Option (ℕ × Addr))) → Drains [] answers → AllByRecursion (λ answer. answer ≡ None) answers
unfolding Drains
drained-none [] h = tt
drained-none (None ∷ more) h = (refl, drained-none more h.1)
drained-none (Some q ∷ more) h = absurd (none-place (numbers_of q) (sym h.0))

drained-behind : (xs : List (Seen ℕ)) (answers : List (Option (ℕ × Addr))) → Drains xs answers → AllByRecursion (λ answer. answer ≡ None) (drop (length (until_none answers)) answers)
unfolding Drains
drained-behind xs [] h = tt
drained-behind [] (None ∷ more) h = drained-none (None ∷ more) h
drained-behind (x ∷ xs) (None ∷ more) h = absurd (none-place (place_of x) h.0)
drained-behind [] (Some q ∷ more) h = absurd (none-place (numbers_of q) (sym h.0))
drained-behind (x ∷ xs) (Some q ∷ more) h = drained-behind xs more h.1

drained : (xs : List (Seen ℕ)) (answers : List (Option (ℕ × Addr))) → Drains xs answers → AreListed xs answers
drained xs answers h = record {
  front = drained-front xs answers h;
  whole = drained-whole xs answers h;
  ends = drained-ends xs answers h;
  behind = drained-behind xs answers h;
}

-- an operation, call after call
merge-drains : {L : Type 0} (layered : L → Layered) (links : Links) (layers : L) (m : Merge) (xs : List (Seen ℕ)) (answers : List (Option (ℕ × Addr))) → seen_to_come (layered layers) links m ≡ xs → AreMergeNexts layered links layers m answers → Drains xs answers
unfolding Drains
merge-drains layered links layers m xs [] e h = tt
merge-drains layered links layers m xs (a ∷ more) e h = (
  subst (λ z. Answers a (first_of z)) e h.2.place,
  merge-drains layered links h.0 h.1 (drop 1 xs) more (h.2.rest ∙ ap (drop 1) e) h.3,
)

pub operation-listed : {L : Type 0} (layered : L → Layered) (links : Links) (d e : ℕ) (op : Op) (layers : L) (m : Merge) (answers : List (Option (ℕ × Addr))) → Begins (layered layers) links d e op m → AreMergeNexts layered links layers m answers
    → AreListed (by_op op ((layered layers).layer d).rules (visible_of (layered layers) links d) (visible_of (layered layers) links e)) answers
operation-listed layered links d e op layers m answers begins calls =
    let all = layered layers in
    let xs = by_op op (all.layer d).rules (visible_of all links d) (visible_of all links e) in
    drained xs answers (merge-drains layered links layers m xs answers begins.whole calls)

-- what is left of a range behind a place
pub rest_behind : Rules → Option (List ℕ) → List (Seen ℕ) → Option (ℕ × Addr) → List (Seen ℕ)
rest_behind rules high xs None = []
rest_behind rules high xs (Some p) = range rules None high (drop 1 (from_there (numbers_of p) xs))

behind-is : (p : ℕ × ℕ) (xs : List (Seen ℕ)) → HaveOwn xs → list_any (is_at p) xs ≡ true → behind_last (is_at p) xs ≡ first_of (drop 1 (from_there p xs))
behind-is p [] own any = absurd (true≢false (sym any))
behind-is p (x ∷ xs) own any = elim (cases_Bool (is_at p x)) as (λ _. behind_last (is_at p) (x ∷ xs) ≡ first_of (drop 1 (from_there p (x ∷ xs)))) [
  | inl t ↦
      let none : list_any (is_at p) xs ≡ false = any_none (is_at p) xs (subst (λ z. AllByRecursion (λ y. is_at z y ≡ false) xs) (sym (at-place p x t)) own.0) in
      rw (t, none) refl
  | inr t ↦
      let more : list_any (is_at p) xs ≡ true = rw t at any in
      rw t (behind-is p xs own.1 more)
]

sorted-from : (rules : Rules) (p : ℕ × ℕ) (xs : List (Seen ℕ)) → AreSorted rules xs → AreSorted rules (drop 1 (from_there p xs))
sorted-from rules p [] s = tt
sorted-from rules p (x ∷ xs) s = elim (cases_Bool (is_at p x)) as (λ _. AreSorted rules (drop 1 (from_there p (x ∷ xs)))) [
  | inl t ↦ rw t s.1
  | inr t ↦ rw t (sorted-from rules p xs s.1)
]

-- behind one that is above the bound there is nothing of the range
over-none : (rules : Rules) → IsTotalOrder rules.compare → (low high : Option (List ℕ)) (x : Seen ℕ) (xs : List (Seen ℕ)) → AreSorted rules (x ∷ xs) → is_over rules high x ≡ true → range rules low high (x ∷ xs) ≡ []
over-none rules order low high x xs s over =
    no-range rules low high (x ∷ xs) (over, all-weaken (IsUpto rules x) (λ y. is_over rules high y ≡ true) xs (λ y u. over_up rules order high x y over u) s.0)

-- a call that answers the first of what is left of a range leaves the rest
pub record Leaves (rules : Rules) (high : Option (List ℕ)) (xs : List (Seen ℕ)) (r : Option (ℕ × Addr)) (left : List (Seen ℕ)) : Type 0 where
  pub place : Answers r (first_of left)
  pub rest : rest_behind rules high xs r ≡ drop 1 left

step-within : (rules : Rules) → IsTotalOrder rules.compare → (high : Option (List ℕ)) (xs post : List (Seen ℕ)) (r : Option (ℕ × Addr)) → AreSorted rules post → (Answers r (first_of post) → from_place r xs ≡ post) → Answers r (if_upto rules high (first_of post))
    → Leaves rules high xs r (range rules None high post)
unfolding rest_behind
step-within rules order high xs [] None s from a = record { place = refl; rest = refl }
step-within rules order high xs [] (Some q) s from a = absurd (none-place (numbers_of q) (sym a))
step-within rules order high xs (y ∷ ys) r s from a = elim (cases_Bool (is_over rules high y)) as (λ _. Leaves rules high xs r (range rules None high (y ∷ ys))) [
  | inl t ↦
      let none = over-none rules order None high y ys s t in
      subst (Leaves rules high xs r) (sym none) (ended r (rw t at a))
  | inr t ↦
      let found : Answers r (Some y) = rw t at a in
      let kept : range rules None high (y ∷ ys) ≡ y ∷ range rules None high ys = rw t refl in
      subst (Leaves rules high xs r) (sym kept) (record { place = found; rest = on r found (from found) })
]
  where
    ended : (r : Option (ℕ × Addr)) → Answers r None → Leaves rules high xs r []
    ended None a = record { place = refl; rest = refl }
    ended (Some q) a = absurd (none-place (numbers_of q) (sym a))

    on : (r : Option (ℕ × Addr)) → Answers r (Some y) → from_place r xs ≡ y ∷ ys → rest_behind rules high xs r ≡ range rules None high ys
    on None a e = absurd (none-place (place_of y) a)
    on (Some q) a e = ap (λ z. range rules None high (drop 1 z)) e

pub step-on : (rules : Rules) → IsTotalOrder rules.compare → (high : Option (List ℕ)) (xs : List (Seen ℕ)) (p : ℕ × Addr) (r : Option (ℕ × Addr)) → HaveOwn xs → AreSorted rules xs → list_any (is_at (numbers_of p)) xs ≡ true → Answers r (if_upto rules high (behind_last (is_at (numbers_of p)) xs))
    → Leaves rules high xs r (rest_behind rules high xs (Some p))
unfolding rest_behind
step-on rules order high xs p r own s any a =
    let at = numbers_of p in
    let behind = behind-is at xs own any in
    step-within rules order high xs (drop 1 (from_there at xs)) r (sorted-from rules at xs s)
    (λ first. from-behind at r xs own any (subst (Answers r) (sym behind) first))
    (subst (λ z. Answers r (if_upto rules high z)) behind a)

-- the first call of a range
range-low : (rules : Rules) (low high : Option (List ℕ)) (xs : List (Seen ℕ)) → AllByRecursion (λ x. is_from rules low x ≡ true) xs → range rules None high xs ≡ range rules low high xs
range-low rules low high xs h =
    filter-by (λ o. is_from rules None o && not (is_over rules high o)) (λ o. is_from rules low o && not (is_over rules high o)) xs
    (all-weaken (λ x. is_from rules low x ≡ true) (λ o. (is_from rules None o && not (is_over rules high o)) ≡ (is_from rules low o && not (is_over rules high o))) xs
    (λ x t. ap (λ z. z && not (is_over rules high x)) (sym t)) h)

none-left : (rules : Rules) (high : Option (List ℕ)) (xs : List (Seen ℕ)) (r : Option (ℕ × Addr)) → Answers r None → rest_behind rules high xs r ≡ []
unfolding rest_behind
none-left rules high xs None a = refl
none-left rules high xs (Some q) a = absurd (none-place (numbers_of q) (sym a))

first-left : (rules : Rules) (high : Option (List ℕ)) (x : Seen ℕ) (xs : List (Seen ℕ)) (r : Option (ℕ × Addr)) → Answers r (Some x) → rest_behind rules high (x ∷ xs) r ≡ range rules None high xs
unfolding rest_behind
first-left rules high x xs None a = absurd (none-place (place_of x) a)
first-left rules high x xs (Some q) a = ap (λ z. range rules None high (drop 1 z)) (from-first (Some q) (x ∷ xs) a)

past-left : (rules : Rules) (high : Option (List ℕ)) (x : Seen ℕ) (xs : List (Seen ℕ)) (r : Option (ℕ × Addr)) (o : Option (Seen ℕ)) → Answers r o → ((y : Seen ℕ) → o ≡ Some y → IsElsewhere x y) → rest_behind rules high (x ∷ xs) r ≡ rest_behind rules high xs r
unfolding rest_behind
past-left rules high x xs None o a apart = refl
past-left rules high x xs (Some q) o a apart = ap (λ z. range rules None high (drop 1 z)) (from-past (Some q) o x xs a apart)

pub step-first : (rules : Rules) → IsTotalOrder rules.compare → (low high : Option (List ℕ)) (xs : List (Seen ℕ)) (r : Option (ℕ × Addr)) → HaveOwn xs → AreSorted rules xs → Answers r (first_of (range rules low high xs)) → rest_behind rules high xs r ≡ drop 1 (range rules low high xs)
step-first rules order low high [] r own s a = none-left rules high [] r a
step-first rules order low high (x ∷ xs) r own s a = elim (cases_Bool (is_from rules low x)) as (λ _. rest_behind rules high (x ∷ xs) r ≡ drop 1 (range rules low high (x ∷ xs))) [
  | inl t ↦ elim (cases_Bool (is_over rules high x)) as (λ _. rest_behind rules high (x ∷ xs) r ≡ drop 1 (range rules low high (x ∷ xs))) [
    | inl w ↦
        let none = over-none rules order low high x xs s w in
        none-left rules high (x ∷ xs) r (subst (λ z. Answers r (first_of z)) none a) ∙ sym (ap (drop 1) none)
    | inr w ↦
        let kept : range rules low high (x ∷ xs) ≡ x ∷ range rules low high xs = rw (t, w) refl in
        let found : Answers r (Some x) = subst (λ z. Answers r (first_of z)) kept a in
        first-left rules high x xs r found
        ∙ range-low rules low high xs (all-weaken (IsUpto rules x) (λ y. is_from rules low y ≡ true) xs (λ y u. from_up rules order low x y u t) s.0)
        ∙ sym (ap (drop 1) kept)
  ]
  | inr t ↦
      let passed : range rules low high (x ∷ xs) ≡ range rules low high xs = rw t refl in
      let found : Answers r (first_of (range rules low high xs)) = subst (λ z. Answers r (first_of z)) passed a in
      let test : Seen ℕ → Bool = λ o. is_from rules low o && not (is_over rules high o) in
      past-left rules high x xs r (first_of (range rules low high xs)) found (λ y e. first-in (IsElsewhere x) (range rules low high xs) y (all_filter (IsElsewhere x) test xs own.0) e)
      ∙ step-first rules order low high xs r own.1 s.1 found
      ∙ sym (ap (drop 1) passed)
]

-- layers of which each is a dictionary
abbrev bare : (ℕ → Layer) → Layered
bare layer = record { Has = λ d. Unit {0}; layer = layer }

-- a range, call after call
range-drains : {L : Type 0} (layered : L → Layered) (layer : ℕ → Layer) (links : Links) (d : ℕ) (high : Option (List ℕ)) → IsTotalOrder (layer d).rules.compare → HaveOwn (visible_of (bare layer) links d) → AreSorted (layer d).rules (visible_of (bare layer) links d)
    → (layers : L) (last : Option (ℕ × Addr)) (answers : List (Option (ℕ × Addr))) → (layered layers).layer ≡ layer → IfSome last (λ p. list_any (is_at (numbers_of p)) (visible_of (bare layer) links d) ≡ true) → AreRangeNexts layered links d high layers last answers
    → Drains (rest_behind (layer d).rules high (visible_of (bare layer) links d) last) answers
unfolding Drains
range-drains layered layer links d high order own sorted layers last [] e seen h = tt
range-drains layered layer links d high order own sorted layers last (a ∷ more) e seen h =
    let rules = (layer d).rules in
    let xs = visible_of (bare layer) links d in
    let from = h.0 in
    let any = subst (λ z. IfSome z (λ p. list_any (is_at (numbers_of p)) xs ≡ true)) h.1 seen in
    let answer : Answers a (if_upto rules high (behind_last (is_at (numbers_of from)) xs)) =
    subst (λ (z : ℕ → Layer). Answers a (if_upto (z d).rules high (behind_last (is_at (numbers_of from)) (visible_of (bare z) links d)))) e h.2 in
    let s = step-on rules order high xs from a own sorted any answer in
    let rest = range-drains layered layer links d high order own sorted h.3 a more (h.4.layers ∙ e) (next-seen a (numbers_of from) rules high xs answer) h.5 in
    subst (λ z. Drains (rest_behind rules high xs z) (a ∷ more)) (sym h.1) (s.place, subst (λ z. Drains z more) s.rest rest)

pub range-listed : {L : Type 0} (layered : L → Layered) (links : Links) (d : ℕ) (low high : Option (List ℕ)) (layers : L) (first : Option (ℕ × Addr)) (more : List (Option (ℕ × Addr))) → AreLayers (layered layers) → IsPathBy true (layered layers) links d
    → IsRangeFirst (layered layers) links d low high first → AreRangeNexts layered links d high layers first more → AreListed (range ((layered layers).layer d).rules low high (visible_of (layered layers) links d)) (first ∷ more)
unfolding Drains
range-listed layered links d low high layers first more laws path' begins calls =
    let all = layered layers in
    let rules = (all.layer d).rules in
    let xs = visible_of all links d in
    let order = (laws.lawful d (path-first all links d path'.path).there).order in
    let own = visible-own all links d laws path'.path path'.method in
    let sorted = visible_sorted all links d laws path'.path path'.method in
    let test : Seen ℕ → Bool = λ o. is_from rules low o && not (is_over rules high o) in
    let rest = range-drains layered all.layer links d high order own sorted layers first more refl (first-seen first test xs begins) calls in
    drained (range rules low high xs) (first ∷ more) (begins, subst (λ z. Drains z more) (step-first rules order low high xs first own sorted begins) rest)
