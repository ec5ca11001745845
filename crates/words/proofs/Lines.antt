-- A walk over the objects of a set, one after another, which puts the line of each.
use Rattle.vc_base.proofs.Common.{◌≡◌, ℕ, ◌+◌, ◌-◌, ◌<◌, ◌==◌, Bool, true, false, List, [], ◌∷◌, ◌++◌, Option, Some, None, length, take, flat_map, get_or, nat_lt, slice_get, if◌then◌else◌, sym, refl, ap, ◌∙◌, none-some, ⊎_elim, true≢false, ne_eqb, arith, add-one, ltb-false, take_all, append-nil}
use Rattle.std.proofs.Math.Seq.{take-suc}
use Rattle.std.proofs.lemmas.Grind.{flat_map-append}
use Rattle.std.proofs.lemmas.Option.{get_or_from_slice_get, slice_get_cases, slice_get_within}
use Rattle.vc_store.specs.Reading.{first_place, next_place, object_at_index}
use Rattle.words.specs.Counting.{count_line}

-- how many objects stand before the current one, or are there where none is, and how many stand from it on
abbrev pub done_of : ℕ → Option ℕ → ℕ
done_of count None = count
done_of count (Some place) = place

abbrev pub left_of : ℕ → Option ℕ → ℕ
left_of count None = 0
left_of count (Some place) = count - place

-- the lines of those before it
abbrev pub lines_before : Option ℕ → List (List ℕ) → List ℕ
lines_before place objects = flat_map count_line (take (done_of (length objects) place) objects)

first-by : (t : Bool) (n : ℕ) (objects : List (List ℕ)) → t ≡ false → flat_map count_line (take (done_of n (if t then None else Some 0)) objects) ≡ []
first-by true n objects e = absurd (true≢false e)
first-by false n objects e = refl

pub lines-first : (objects : List (List ℕ)) → lines_before (first_place (length objects)) objects ≡ []
lines-first [] = refl
lines-first (x ∷ xs) =
    first-by (length (x ∷ xs) == 0) (length (x ∷ xs)) (x ∷ xs) (ne_eqb (length (x ∷ xs)) 0 (λ e. omega (arith, e)))

-- the next one is behind one more
next-done : (count place : ℕ) → place < count → done_of count (next_place count (Some place)) ≡ place + 1
next-done count place lt = by (nat_lt (place + 1) count) refl
  where
    by : (t : Bool) → nat_lt (place + 1) count ≡ t → done_of count (if t then Some (place + 1) else None) ≡ place + 1
    by true e = refl
    by false e = let least = ltb-false (place + 1) count e in omega (arith, least, lt)

pub next-left : (count place : ℕ) → place < count → left_of count (next_place count (Some place)) < left_of count (Some place)
next-left count place lt = by (nat_lt (place + 1) count) refl
  where
    by : (t : Bool) → nat_lt (place + 1) count ≡ t → left_of count (if t then Some (place + 1) else None) < count - place
    by true e = omega (arith, lt)
    by false e = omega (arith, lt)

pub lines-next : (place : Option ℕ) (objects : List (List ℕ)) (object : List ℕ) → Some object ≡ object_at_index place objects
    → lines_before (next_place (length objects) place) objects ≡ lines_before place objects ++ count_line object
lines-next None objects object e = absurd (none-some object (sym e))
lines-next (Some place) objects object e =
    let here : slice_get objects place ≡ Some object = sym e in
    let lt : place < length objects = slice_get_within objects place object here in
    let is : get_or objects place object ≡ object = get_or_from_slice_get objects place object object here in
    ap (λ n. flat_map count_line (take n objects)) (next-done (length objects) place lt ∙ add-one place)
    ∙ (ap (flat_map count_line) (take-suc objects place object lt ∙ ap (λ o. take place objects ++ o ∷ []) is)
    ∙ (flat_map-append count_line (take place objects) (object ∷ []) ∙ ap (λ xs. flat_map count_line (take place objects) ++ xs) (append-nil (count_line object))))

pub left-next : (place : Option ℕ) (objects : List (List ℕ)) (object : List ℕ) → Some object ≡ object_at_index place objects → left_of (length objects) (next_place (length objects) place) < left_of (length objects) place
left-next None objects object e = absurd (none-some object (sym e))
left-next (Some place) objects object e =
    next-left (length objects) place (slice_get_within objects place object (sym e))

pub lines-last : (place : Option ℕ) (objects : List (List ℕ)) → None ≡ object_at_index place objects → lines_before place objects ≡ flat_map count_line objects
lines-last None objects e = ap (flat_map count_line) (take_all (length objects) objects (omega arith))
lines-last (Some place) objects e =
    ap (flat_map count_line)
    (take_all place objects
    (⊎_elim (λ there. absurd (none-some there.0 (e ∙ there.2))) (λ past. past.0) (slice_get_cases objects place).1))
