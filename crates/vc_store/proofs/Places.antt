-- At which place an address stands in a list of addresses, and where the ones beside it do.
use Rattle.vc_base.proofs.Common.{◌≡◌, ℕ, suc, ◌<◌, true, false, ◌≢◌, List, [], ◌∷◌, map, length, if◌then◌else◌, ◌==◌, slice_get, Some, None, sym, refl, ap, ◌∙◌, subst, inl, inr, true≢false, none-some, same_Some, arith, eqb_tells, Blocks, AreDistinct, contains, first_in, last_in, next_in, previous_in}
use Rattle.vc_base.specs.Holders.{last_of}
use Rattle.vc_base.proofs.Members.{within-head, within-last, within-tail}
use Rattle.vc_dtdisc.specs.Finds.{object_at}
use Rattle.vc_objects.specs.Parts.{object_of}
use Rattle.vc_objects.specs.Remove.{bytes_of}
use Rattle.vc_store.specs.Contents.{before_address}

-- how many stand before the first that is this address
abbrev pub place : ℕ → List ℕ → ℕ
place at [] = 0
place at (x ∷ xs) = if x == at then 0 else suc (place at xs)

pub place-told : (b : Blocks) (at : ℕ) (xs : List ℕ) → before_address at (map (object_of b) xs) ≡ place at xs
place-told b at [] = refl
place-told b at (x ∷ xs) = ap (λ n. if x == at then 0 else suc n) (place-told b at xs)

place-here : (at : ℕ) (xs : List ℕ) → place at (at ∷ xs) ≡ 0
place-here at xs = elim (eqb_tells at at) as (λ _. place at (at ∷ xs) ≡ 0) [
  | inl same ↦ rw same.0 refl
  | inr apart ↦ absurd (apart.1 refl)
]

place-behind : (x at : ℕ) (xs : List ℕ) → x ≢ at → place at (x ∷ xs) ≡ suc (place at xs)
place-behind x at xs ne = elim (eqb_tells x at) as (λ _. place at (x ∷ xs) ≡ suc (place at xs)) [
  | inl same ↦ absurd (ne same.1)
  | inr apart ↦ rw apart.0 refl
]

-- the first one stands at 0
pub place-first : (xs : List ℕ) (at : ℕ) → first_in xs ≡ Some at → place at xs ≡ 0
place-first [] at e = absurd (none-some at e)
place-first (x ∷ xs) at e = subst (λ a. place a (x ∷ xs) ≡ 0) (same_Some x at e) (place-here x xs)

pub within-first : (xs : List ℕ) (at : ℕ) → first_in xs ≡ Some at → contains xs at ≡ true
within-first [] at e = absurd (none-some at e)
within-first (x ∷ xs) at e = subst (λ a. contains (x ∷ xs) a ≡ true) (same_Some x at e) (within-head x xs)

pub none-first : (xs : List ℕ) → first_in xs ≡ None → length xs ≡ 0
none-first [] e = refl
none-first (x ∷ xs) e = absurd (none-some x (sym e))

-- the one behind another stands at the place behind it
pub within-next : (xs : List ℕ) (at b : ℕ) → next_in at xs ≡ Some b → contains xs b ≡ true
within-next [] at b e = absurd (none-some b e)
within-next (x ∷ xs) at b e = elim (eqb_tells x at) as (λ _. contains (x ∷ xs) b ≡ true) [
  | inl same ↦ within-tail x xs b (within-first xs b (rw same.0 at e))
  | inr apart ↦ within-tail x xs b (within-next xs at b (rw apart.0 at e))
]

pub other-than : (x b : ℕ) (xs : List ℕ) → contains xs x ≡ false → contains xs b ≡ true → x ≢ b
other-than x b xs not_x is e = true≢false (sym is ∙ subst (λ z. contains xs z ≡ false) e not_x)

pub place-next : (xs : List ℕ) (at b : ℕ) → AreDistinct xs → next_in at xs ≡ Some b → place b xs ≡ suc (place at xs)
place-next [] at b d e = absurd (none-some b e)
place-next (x ∷ xs) at b d e = elim (eqb_tells x at) as (λ _. place b (x ∷ xs) ≡ suc (place at (x ∷ xs))) [
  | inl same ↦
      let first : first_in xs ≡ Some b = rw same.0 at e in
      place-behind x b xs (other-than x b xs d.0 (within-first xs b first))
      ∙ (ap (λ n. suc n) (place-first xs b first) ∙ rw same.0 refl)
  | inr apart ↦
      let next : next_in at xs ≡ Some b = rw apart.0 at e in
      place-behind x b xs (other-than x b xs d.0 (within-next xs at b next))
      ∙ (ap (λ n. suc n) (place-next xs at b d.1 next) ∙ rw apart.0 refl)
]

pub place-last : (xs : List ℕ) (at : ℕ) → contains xs at ≡ true → next_in at xs ≡ None → suc (place at xs) ≡ length xs
place-last [] at w e = absurd (true≢false (sym w))
place-last (x ∷ xs) at w e = elim (eqb_tells x at) as (λ _. suc (place at (x ∷ xs)) ≡ length (x ∷ xs)) [
  | inl same ↦
      let none : length xs ≡ 0 = none-first xs (rw same.0 at e) in
      let here : place at (x ∷ xs) ≡ 0 = rw same.0 refl in
      ap (λ n. suc n) (here ∙ sym none)
  | inr apart ↦
      let last = place-last xs at (rw apart.0 at w) (rw apart.0 at e) in
      let here : place at (x ∷ xs) ≡ suc (place at xs) = rw apart.0 refl in
      ap (λ n. suc n) (here ∙ last)
]

-- the last one stands at the last place
place-final : (x : ℕ) (xs : List ℕ) → AreDistinct (x ∷ xs) → suc (place (last_of x xs) (x ∷ xs)) ≡ length (x ∷ xs)
place-final x [] d = ap (λ n. suc n) (place-here x [])
place-final x (y ∷ ys) d =
    ap (λ n. suc n)
    (place-behind x (last_of y ys) (y ∷ ys) (other-than x (last_of y ys) (y ∷ ys) d.0 (within-last y ys)) ∙ place-final y ys d.1)

pub last-placed : (xs : List ℕ) (at : ℕ) → AreDistinct xs → last_in xs ≡ Some at → (contains xs at ≡ true) × (suc (place at xs) ≡ length xs)
last-placed [] at d e = absurd (none-some at e)
last-placed (x ∷ xs) at d e =
    let same = same_Some (last_of x xs) at e in (
      subst (λ a. contains (x ∷ xs) a ≡ true) same (within-last x xs),
      subst (λ a. suc (place a (x ∷ xs)) ≡ length (x ∷ xs)) same (place-final x xs d),
    )

pub none-last : (xs : List ℕ) → last_in xs ≡ None → length xs ≡ 0
none-last [] e = refl
none-last (x ∷ xs) e = absurd (none-some (last_of x xs) (sym e))

-- the one before another stands at the place before it
previous-from : (x : ℕ) (xs : List ℕ) (at b : ℕ) → x ≢ at → AreDistinct (x ∷ xs) → previous_in (Some x) at xs ≡ Some b
    → (contains (x ∷ xs) b ≡ true) × (place at (x ∷ xs) ≡ suc (place b (x ∷ xs)))
previous-from x [] at b ne d e = absurd (none-some b e)
previous-from x (y ∷ ys) at b ne d e = elim (eqb_tells y at) as (λ _. (contains (x ∷ y ∷ ys) b ≡ true) × (place at (x ∷ y ∷ ys) ≡ suc (place b (x ∷ y ∷ ys)))) [
  | inl same ↦
      let before : x ≡ b = same_Some x b (rw same.0 at e) in
      let here : place at (y ∷ ys) ≡ 0 = rw same.0 refl in (
        subst (λ a. contains (x ∷ y ∷ ys) a ≡ true) before (within-head x (y ∷ ys)),
        place-behind x at (y ∷ ys) ne
            ∙ ap (λ n. suc n) (here ∙ sym (subst (λ a. place a (x ∷ y ∷ ys) ≡ 0) before (place-here x (y ∷ ys)))),
      )
  | inr apart ↦
      let rest = previous-from y ys at b apart.1 d.1 (rw apart.0 at e) in (
        within-tail x (y ∷ ys) b rest.0,
        place-behind x at (y ∷ ys) ne
            ∙ ap (λ n. suc n) (rest.1 ∙ sym (place-behind x b (y ∷ ys) (other-than x b (y ∷ ys) d.0 rest.0))),
      )
]

pub previous-placed : (xs : List ℕ) (at b : ℕ) → AreDistinct xs → previous_in None at xs ≡ Some b → (contains xs b ≡ true) × (place at xs ≡ suc (place b xs))
previous-placed [] at b d e = absurd (none-some b e)
previous-placed (x ∷ xs) at b d e = elim (eqb_tells x at) as (λ _. (contains (x ∷ xs) b ≡ true) × (place at (x ∷ xs) ≡ suc (place b (x ∷ xs)))) [
  | inl same ↦ absurd (none-some b (rw same.0 at e))
  | inr apart ↦ previous-from x xs at b apart.1 d (rw apart.0 at e)
]

previous-some : (x : ℕ) (xs : List ℕ) (at : ℕ) → contains xs at ≡ true → previous_in (Some x) at xs ≢ None
previous-some x [] at w e = true≢false (sym w)
previous-some x (y ∷ ys) at w e = elim (eqb_tells y at) as (λ _. ⊥) [
  | inl same ↦ none-some x (sym (rw same.0 at e))
  | inr apart ↦ previous-some y ys at (rw apart.0 at w) (rw apart.0 at e)
]

pub none-previous : (xs : List ℕ) (at : ℕ) → contains xs at ≡ true → previous_in None at xs ≡ None → place at xs ≡ 0
none-previous [] at w e = absurd (true≢false (sym w))
none-previous (x ∷ xs) at w e = elim (eqb_tells x at) as (λ _. place at (x ∷ xs) ≡ 0) [
  | inl same ↦ rw same.0 refl
  | inr apart ↦ absurd (previous-some x xs at (rw apart.0 at w) (rw apart.0 at e))
]

-- it is within the list
pub place-within : (xs : List ℕ) (at : ℕ) → contains xs at ≡ true → place at xs < length xs
place-within [] at w = absurd (true≢false (sym w))
place-within (x ∷ xs) at w = elim (eqb_tells x at) as (λ _. place at (x ∷ xs) < length (x ∷ xs)) [
  | inl same ↦ let here : place at (x ∷ xs) ≡ 0 = rw same.0 refl in omega (arith, here)
  | inr apart ↦
      let here : place at (x ∷ xs) ≡ suc (place at xs) = rw apart.0 refl in
      let rest = place-within xs at (rw apart.0 at w) in
      omega (arith, here, rest)
]

-- the object there
pub object-placed : (b : Blocks) (xs : List ℕ) (at : ℕ) → contains xs at ≡ true → slice_get (bytes_of (map (object_of b) xs)) (place at xs) ≡ Some (object_at b at)
object-placed b [] at w = absurd (true≢false (sym w))
object-placed b (x ∷ xs) at w = elim (eqb_tells x at) as (λ _. slice_get (bytes_of (map (object_of b) (x ∷ xs))) (place at (x ∷ xs)) ≡ Some (object_at b at)) [
  | inl same ↦ rw (same.0, same.1) refl
  | inr apart ↦ rw apart.0 (object-placed b xs at (rw apart.0 at w))
]
