-- What an operation on two sorted lists makes, by their first objects: of the nine cases each passes one of them.
use Rattle.vc_base.proofs.Common.{◌≡◌, ℕ, Bool, true, false, not, ◌||◌, List, [], ◌∷◌, ◌++◌, take, drop, if◌then◌else◌, Some, None, filter, is_eq, is_gt, Ordering, Less, Equal, Greater, sym, refl, ap, ◌∙◌, subst, inl, inr, true≢false, cases_Bool, same_Some, AllByRecursion, IsTotalOrder, ordering_reverse}
use Rattle.vc_base.proofs.Quantifiers.{all-weaken}
use Rattle.vc_dtdisc.specs.Finding.{first_of}
use Rattle.vc_dtdisc.specs.Objects.{is_greater, is_match, placed_among, placed_each}
use Rattle.vc_dtdisc.specs.Rules.{Rules}
use Rattle.vc_paths.specs.Visible.{Seen, is_hidden, seen_bytes}
use Rattle.vc_paths.proofs.BesideLemmas.{all_behind_one}
use Rattle.vc_paths.proofs.OrderLemmas.{AreOrdered, all_filter, any_none, ordered}
use Rattle.vc_paths.proofs.SortedLemmas.{AreSorted, IsUpto}
use Rattle.vc_algebra.specs.Algebra.{by_op, meet, minus, union}
use Rattle.vc_algebra.specs.ToCome.{comes, takes_left, turn_by, turn_of}
use Rattle.vc_algebra.specs.declared.op.Op.{Op}
use Rattle.vc_algebra.specs.declared.op.Op.TheVariants.{Union, Meet, Minus}
use Rattle.vc_algebra.specs.declared.turn.Turn.{Turn}
use Rattle.vc_algebra.specs.declared.turn.Turn.TheVariants.{Left, Both, Right}

-- an object is less than each of these
abbrev IsBelow : Rules → Seen ℕ → List (Seen ℕ) → Type 0
IsBelow rules x ys = AllByRecursion (λ y. is_greater rules y.bytes x.bytes ≡ true) ys

-- so it matches none
apart-below : (rules : Rules) → AreOrdered rules → (x y : Seen ℕ) → is_greater rules y.bytes x.bytes ≡ true → is_match rules x.bytes y.bytes ≡ false
apart-below rules laws x y h = elim (cases_Bool (is_match rules x.bytes y.bytes)) as (λ _. is_match rules x.bytes y.bytes ≡ false) [
  | inl m ↦ absurd (true≢false (sym h ∙ laws.left y.bytes x.bytes m))
  | inr m ↦ m
]

apart-above : (rules : Rules) → AreOrdered rules → (x y : Seen ℕ) → is_greater rules y.bytes x.bytes ≡ true → is_match rules y.bytes x.bytes ≡ false
apart-above rules laws x y h = elim (cases_Bool (is_match rules y.bytes x.bytes)) as (λ _. is_match rules y.bytes x.bytes ≡ false) [
  | inl m ↦ absurd (true≢false (sym h ∙ laws.right x.bytes y.bytes m))
  | inr m ↦ m
]

below-seen : (rules : Rules) → AreOrdered rules → (x : Seen ℕ) (ys : List (Seen ℕ)) → IsBelow rules x ys → is_hidden rules ys x ≡ false
below-seen rules laws x ys h =
    any_none (λ u. is_match rules x.bytes u.bytes) ys (all-weaken (λ y. is_greater rules y.bytes x.bytes ≡ true) (λ y. is_match rules x.bytes y.bytes ≡ false) ys (λ y g. apart-below rules laws x y g) h)

-- and hides none of them
below-hides : (rules : Rules) → AreOrdered rules → (x : Seen ℕ) (xs ys : List (Seen ℕ)) → IsBelow rules x ys → AllByRecursion (λ o. is_hidden rules (x ∷ xs) o ≡ is_hidden rules xs o) ys
below-hides rules laws x xs ys h = all-weaken (λ y. is_greater rules y.bytes x.bytes ≡ true) (λ o. is_hidden rules (x ∷ xs) o ≡ is_hidden rules xs o) ys (λ o g. ap (λ t. t || is_hidden rules xs o) (apart-above rules laws x o g)) h

pub filter-by : (p q : Seen ℕ → Bool) (xs : List (Seen ℕ)) → AllByRecursion (λ o. p o ≡ q o) xs → filter p xs ≡ filter q xs
filter-by p q [] h = refl
filter-by p q (x ∷ xs) h = elim (cases_Bool (q x)) as (λ _. filter p (x ∷ xs) ≡ filter q (x ∷ xs)) [
  | inl t ↦ let u : p x ≡ true = h.0 ∙ t in rw (u, t) (ap (λ z. x ∷ z) (filter-by p q xs h.1))
  | inr t ↦ let u : p x ≡ false = h.0 ∙ t in rw (u, t) (filter-by p q xs h.1)
]

meet-past : (rules : Rules) → AreOrdered rules → (y : Seen ℕ) (ys xs : List (Seen ℕ)) → IsBelow rules y xs → meet rules xs (y ∷ ys) ≡ meet rules xs ys
meet-past rules laws y ys xs h = filter-by (is_hidden rules (y ∷ ys)) (is_hidden rules ys) xs (below-hides rules laws y ys xs h)

minus-past : (rules : Rules) → AreOrdered rules → (y : Seen ℕ) (ys xs : List (Seen ℕ)) → IsBelow rules y xs → minus rules xs (y ∷ ys) ≡ minus rules xs ys
minus-past rules laws y ys xs h =
    filter-by (λ o. not (is_hidden rules (y ∷ ys) o)) (λ o. not (is_hidden rules ys o)) xs
    (all-weaken (λ o. is_hidden rules (y ∷ ys) o ≡ is_hidden rules ys o) (λ o. not (is_hidden rules (y ∷ ys) o) ≡ not (is_hidden rules ys o)) xs (λ o e. ap not e) (below-hides rules laws y ys xs h))

-- what is placed behind a first one, and before all
each-behind : (rules : Rules) (x : Seen ℕ) (done zs : List (Seen ℕ)) → AllByRecursion (λ z. is_greater rules x.bytes z.bytes ≡ false) zs → placed_each seen_bytes rules (x ∷ done) zs ≡ x ∷ placed_each seen_bytes rules done zs
each-behind rules x done [] h = refl
each-behind rules x done (z ∷ zs) h =
    let one : placed_among seen_bytes rules z (x ∷ done) ≡ x ∷ placed_among seen_bytes rules z done = rw h.0 refl in
    ap (λ os. placed_each seen_bytes rules os zs) one ∙ each-behind rules x (placed_among seen_bytes rules z done) zs h.1

placed-before : (rules : Rules) (y : Seen ℕ) (xs : List (Seen ℕ)) → IsBelow rules y xs → placed_among seen_bytes rules y xs ≡ y ∷ xs
placed-before rules y [] h = refl
placed-before rules y (x ∷ xs) h = rw h.0 refl

union-left : (rules : Rules) → AreOrdered rules → (x : Seen ℕ) (xs ys : List (Seen ℕ)) → IsBelow rules x ys → union rules (x ∷ xs) ys ≡ x ∷ union rules xs ys
union-left rules laws x xs ys h =
    let more = minus rules ys xs in
    let behind = all_filter (λ z. is_greater rules x.bytes z.bytes ≡ false) (λ o. not (is_hidden rules xs o)) ys (all-weaken (λ y. is_greater rules y.bytes x.bytes ≡ true) (λ z. is_greater rules x.bytes z.bytes ≡ false) ys (λ z g. laws.one z.bytes x.bytes g) h) in
    ap (placed_each seen_bytes rules (x ∷ xs)) (minus-past rules laws x xs ys h) ∙ each-behind rules x xs more behind

union-both : (rules : Rules) (x y : Seen ℕ) (xs ys : List (Seen ℕ)) → is_match rules y.bytes x.bytes ≡ true → union rules (x ∷ xs) (y ∷ ys) ≡ union rules (x ∷ xs) ys
union-both rules x y xs ys m = ap (placed_each seen_bytes rules (x ∷ xs)) dropped
  where
    dropped : minus rules (y ∷ ys) (x ∷ xs) ≡ minus rules ys (x ∷ xs)
    dropped = rw m refl

union-right : (rules : Rules) → AreOrdered rules → (y : Seen ℕ) (xs ys : List (Seen ℕ)) → IsBelow rules y xs → AllByRecursion (IsUpto rules y) ys → union rules xs (y ∷ ys) ≡ y ∷ union rules xs ys
union-right rules laws y xs ys h s =
    let more = minus rules ys xs in
    let kept : minus rules (y ∷ ys) xs ≡ y ∷ more = rw (below-seen rules laws y xs h) refl in
    ap (placed_each seen_bytes rules xs) kept
    ∙ ap (λ z. placed_each seen_bytes rules z more) (placed-before rules y xs h)
    ∙ each-behind rules y xs more (all_filter (IsUpto rules y) (λ o. not (is_hidden rules xs o)) ys s)

-- what an operation makes, where the first object of one of the lists is passed
abbrev Passed : Op → Turn → Rules → List (Seen ℕ) → List (Seen ℕ) → Type 0
Passed op turn rules xs ys = by_op op rules xs ys
    ≡ (if comes op turn then take 1 (if takes_left op turn then xs else ys) else []) ++ by_op op rules (if takes_left op turn then drop 1 xs else xs) (if takes_left op turn then ys else drop 1 ys)

less-left : (op : Op) (rules : Rules) → AreOrdered rules → (x : Seen ℕ) (xs ys : List (Seen ℕ)) → IsBelow rules x ys → Passed op Left rules (x ∷ xs) ys
less-left Union rules laws x xs ys h = union-left rules laws x xs ys h
less-left Meet rules laws x xs ys h = rw (below-seen rules laws x ys h) refl
less-left Minus rules laws x xs ys h = rw (below-seen rules laws x ys h) refl

match-both : (op : Op) (rules : Rules) (x y : Seen ℕ) (xs ys : List (Seen ℕ)) → is_match rules x.bytes y.bytes ≡ true → is_match rules y.bytes x.bytes ≡ true → Passed op Both rules (x ∷ xs) (y ∷ ys)
match-both Union rules x y xs ys m n = union-both rules x y xs ys n
match-both Meet rules x y xs ys m n = rw m refl
match-both Minus rules x y xs ys m n = rw m refl

less-right : (op : Op) (rules : Rules) → AreOrdered rules → (y : Seen ℕ) (xs ys : List (Seen ℕ)) → IsBelow rules y xs → AllByRecursion (IsUpto rules y) ys → Passed op Right rules xs (y ∷ ys)
less-right Union rules laws y xs ys h s = union-right rules laws y xs ys h s
less-right Meet rules laws y xs ys h s = meet-past rules laws y ys xs h
less-right Minus rules laws y xs ys h s = minus-past rules laws y ys xs h

-- by how the two first objects stand to each other
by-turn : (op : Op) (rules : Rules) → IsTotalOrder rules.compare → (x y : Seen ℕ) (xs ys : List (Seen ℕ)) (o : Ordering) → rules.compare (rules.key x.bytes) (rules.key y.bytes) ≡ o → AreSorted rules (x ∷ xs) → AreSorted rules (y ∷ ys) → Passed op (turn_by o) rules (x ∷ xs) (y ∷ ys)
by-turn op rules order x y xs ys Less e s t =
    let laws = ordered rules order in
    let above : is_greater rules y.bytes x.bytes ≡ true = ap is_gt (order.antisymm (rules.key y.bytes) (rules.key x.bytes) ∙ ap ordering_reverse e) in
    less-left op rules laws x xs (y ∷ ys) (all_behind_one rules laws x y ys above t)
by-turn op rules order x y xs ys Equal e s t =
    let back : rules.compare (rules.key y.bytes) (rules.key x.bytes) ≡ Equal = order.antisymm (rules.key y.bytes) (rules.key x.bytes) ∙ ap ordering_reverse e in
    match-both op rules x y xs ys (ap is_eq back) (ap is_eq e)
by-turn op rules order x y xs ys Greater e s t =
    let laws = ordered rules order in
    let above : is_greater rules x.bytes y.bytes ≡ true = ap is_gt e in
    less-right op rules laws y (x ∷ xs) ys (all_behind_one rules laws y x xs above s) t.0

pub no-turn : (turn : Turn) → None ≡ Some turn → ⊥
no-turn turn e = cc

pub pass-one : (op : Op) (rules : Rules) → IsTotalOrder rules.compare → (xs ys : List (Seen ℕ)) (turn : Turn) → AreSorted rules xs → AreSorted rules ys → turn_of rules (first_of xs) (first_of ys) ≡ Some turn → Passed op turn rules xs ys
pass-one op rules order [] [] turn s t e = absurd (no-turn turn e)
pass-one op rules order (x ∷ xs) [] turn s t e = subst (λ z. Passed op z rules (x ∷ xs) []) (same_Some Left turn e) (less-left op rules (ordered rules order) x xs [] tt)
pass-one op rules order [] (y ∷ ys) turn s t e = subst (λ z. Passed op z rules [] (y ∷ ys)) (same_Some Right turn e) (less-right op rules (ordered rules order) y [] ys tt t.0)
pass-one op rules order (x ∷ xs) (y ∷ ys) turn s t e =
    subst (λ z. Passed op z rules (x ∷ xs) (y ∷ ys)) (same_Some (turn_by (rules.compare (rules.key x.bytes) (rules.key y.bytes))) turn e)
    (by-turn op rules order x y xs ys (rules.compare (rules.key x.bytes) (rules.key y.bytes)) refl s t)

-- where nothing is left nothing comes
pub pass-none : (op : Op) (rules : Rules) (xs ys : List (Seen ℕ)) → turn_of rules (first_of xs) (first_of ys) ≡ None → by_op op rules xs ys ≡ []
pass-none Union rules [] [] e = refl
pass-none Meet rules [] [] e = refl
pass-none Minus rules [] [] e = refl
pass-none op rules (x ∷ xs) [] e = absurd (no-turn Left (sym e))
pass-none op rules [] (y ∷ ys) e = absurd (no-turn Right (sym e))
pass-none op rules (x ∷ xs) (y ∷ ys) e = absurd (no-turn (turn_by (rules.compare (rules.key x.bytes) (rules.key y.bytes))) (sym e))
