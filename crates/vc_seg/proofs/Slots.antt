-- What stands at a number of a shelf after a change of one slot, or with one slot more.
use Rattle.vc_base.proofs.Common.{◌≡◌, ℕ, zero, suc, ◌+◌, ◌-◌, ◌<◌, ◌≤◌, false, eqb, List, [], ◌∷◌, ◌++◌, length, set, slice_get, Some, Option, option_map, refl, ap, ◌∙◌, arith, nat_tests, slice_get-map, Discipline}
use Rattle.std.proofs.lemmas.Option.{gets}
use Rattle.std.proofs.Math.ListN.{length-map}
use Rattle.vc_seg.specs.declared.shelf.ShelfPlace.TheVariants.{Taken}
use Rattle.vc_seg.specs.Shelf.{slots_of, slot_at, standing, place_at}

slice_get-set_same : {X : Type 0} (xs : List X) (i : ℕ) (x : X) → i < length xs → slice_get (set xs i x) i ≡ Some x
slice_get-set_same [] i x within = absurd (omega arith)
slice_get-set_same (y ∷ ys) zero x within = refl
slice_get-set_same (y ∷ ys) (suc i) x within = slice_get-set_same ys i x (omega arith)

slice_get-push : {X : Type 0} (xs : List X) (x : X) → slice_get (xs ++ x ∷ []) (length xs) ≡ Some x
slice_get-push [] x = refl
slice_get-push (y ∷ ys) x = slice_get-push ys x

-- a number other than 0 is that of the slot before it
slot_at-above : (slots : List (Option Discipline)) (n : ℕ) → 0 < n → slot_at slots n ≡ slice_get slots (n - 1)
slot_at-above slots n above = let not_zero : eqb n 0 ≡ false = grind (arith, nat_tests) in rw not_zero refl

-- a number whose discipline was taken is that of a slot
pub number_within : {D : Type 0} (state : D → Discipline) (slots : List (Option D)) (n : ℕ) → place_at (slots_of state slots) n ≡ Taken → n ≤ length slots
number_within state slots n taken = grind (arith, nat_tests, gets, length-map)

pub place_at-set : {D : Type 0} (state : D → Discipline) (slots : List (Option D)) (n : ℕ) (slot : Option D) → 0 < n → n ≤ length slots → place_at (slots_of state (set slots (n - 1) slot)) n ≡ standing (Some (option_map state slot))
place_at-set state slots n slot above within =
    ap standing (slot_at-above _ n above ∙ slice_get-map (option_map state) (set slots (n - 1) slot) (n - 1) ∙ ap (option_map (option_map state)) (slice_get-set_same slots (n - 1) slot (omega arith)))

pub place_at-push : {D : Type 0} (state : D → Discipline) (slots : List (Option D)) (n : ℕ) (slot : Option D) → n ≡ length slots + 1 → place_at (slots_of state (slots ++ slot ∷ [])) n ≡ standing (Some (option_map state slot))
place_at-push state slots n slot last =
    let before : n - 1 ≡ length slots = omega arith in
    let pushed : slice_get (slots ++ slot ∷ []) (n - 1) ≡ Some slot = rw before (slice_get-push slots slot) in
    ap standing (slot_at-above _ n (omega arith) ∙ slice_get-map (option_map state) (slots ++ slot ∷ []) (n - 1) ∙ ap (option_map (option_map state)) pushed)
