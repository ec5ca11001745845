-- Slots of a shelf that get their disciplines back, the last one first.
use Rattle.vc_base.proofs.Common.{◌≡◌, ◌≢◌, ℕ, zero, suc, ◌+◌, ◌-◌, ◌<◌, ◌≤◌, List, [], ◌∷◌, ◌++◌, Option, Some, None, All, length, map, set, take, drop, slice_get, ne_eqb, cond, refl, sym, ap, ◌∙◌, arith, take-append-drop, add-zero, All-head, All-tail, Bool}
use Rattle.vc_model.specs.Discipline.{Discipline}
use Rattle.vc_seg.specs.Shelf.{place_at, standing}
use Rattle.vc_seg.specs.declared.shelf.ShelfPlace.TheVariants.{Taken}
use Rattle.vc_ways.specs.Settled.{AreTaken, with_discs}

abbrev Slots : Type 0
Slots = List (Option Discipline)

pub place-is : (xs : Slots) (n : ℕ) → 1 ≤ n → place_at xs n ≡ standing (slice_get xs (n - 1))
place-is xs n le =
    let some : n ≢ 0 = omega arith in
    ap (λ (b : Bool). standing (cond b None (slice_get xs (n - 1)))) (ne_eqb n 0 some)

-- a slot that is taken is there
within : (xs : Slots) (i : ℕ) → standing (slice_get xs i) ≡ Taken → i < length xs
within [] i e = absurd (cc)
within (x ∷ xs) zero e = omega arith
within (x ∷ xs) (suc i) e = let rest = within xs i e in omega (arith, rest)

-- the last of the first slots, before others
get-last : (xs ys : Slots) (i : ℕ) → i < length xs → slice_get (take (suc i) xs ++ ys) i ≡ slice_get xs i
get-last [] ys i lt = absurd (omega (arith, lt))
get-last (x ∷ xs) ys zero lt = refl
get-last (x ∷ xs) ys (suc i) lt = get-last xs ys i (omega (arith, lt))

set-last : (xs ys : Slots) (i : ℕ) (v : Option Discipline) → i < length xs → set (take (suc i) xs ++ ys) i v ≡ take i xs ++ v ∷ ys
set-last [] ys i v lt = absurd (omega (arith, lt))
set-last (x ∷ xs) ys zero v lt = refl
set-last (x ∷ xs) ys (suc i) v lt = ap (λ zs. x ∷ zs) (set-last xs ys i v (omega (arith, lt)))

-- one more of the first places is still taken, and gets its discipline
module _ (slots : Slots) (most : ℕ) (taken : AreTaken most slots) (n i : ℕ) (is : n ≡ i + 1) (le : n ≤ most) (ds : List Discipline) where
  at-i : n - 1 ≡ i
  at-i = omega (arith, is)

  there : i < length slots
  there = within slots i (ap (λ k. standing (slice_get slots k)) (sym at-i) ∙ (sym (place-is slots n (omega (arith, is))) ∙ taken n (omega (arith, is)) le))

  abbrev rest : Slots
  rest = map Some ds ++ drop (i + 1 + length ds) slots

  one : i + 1 ≡ suc i
  one = omega arith

  pub still-taken : place_at (with_discs (i + 1) ds slots) n ≡ Taken
  still-taken =
      place-is (with_discs (i + 1) ds slots) n (omega (arith, is))
      ∙ (ap (λ k. standing (slice_get (with_discs (i + 1) ds slots) k)) at-i
      ∙ (ap (λ k. standing (slice_get (take k slots ++ rest) i)) one
      ∙ (ap standing (get-last slots rest i there)
      ∙ (ap (λ k. standing (slice_get slots k)) (sym at-i) ∙ (sym (place-is slots n (omega (arith, is))) ∙ taken n (omega (arith, is)) le)))))

  pub one-back : (d : Discipline) → set (with_discs (i + 1) ds slots) (n - 1) (Some d) ≡ with_discs i (d ∷ ds) slots
  one-back d =
      let same : i + 1 + length ds ≡ i + suc (length ds) = omega arith in
      ap (λ k. set (with_discs (i + 1) ds slots) k (Some d)) at-i
      ∙ (ap (λ k. set (take k slots ++ rest) i (Some d)) one
      ∙ (set-last slots rest i (Some d) there
      ∙ ap (λ k. take i slots ++ Some d ∷ (map Some ds ++ drop k slots)) same))

-- at first none is back
pub none-back : (most : ℕ) (slots : Slots) → slots ≡ with_discs most [] slots
none-back most slots = sym (ap (λ k. take most slots ++ drop k slots) (add-zero most) ∙ take-append-drop most slots)

-- what holds of all holds of one between others
pub all-mid : {A B : Type 0} (P : B → Type 0) (f : A → B) (xs : List A) (p : A) (ys : List A) → All P (map f (xs ++ p ∷ ys)) → P (f p)
all-mid P f [] p ys h = All-head P (f p) (map f ys) h
all-mid P f (x ∷ xs) p ys h = all-mid P f xs p ys (All-tail P (f x) (map f (xs ++ p ∷ ys)) h)
