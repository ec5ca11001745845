-- A walk along a list of names that ascend, from one to the next.
use Rattle.vc_base.proofs.Common.{◌≡◌, ℕ, ◌+◌, ◌<◌, ◌≤◌, Bool, true, false, cond, eqb, ◌≢◌, List, [], ◌∷◌, length, Some, None, find, sym, refl, ap, ◌∙◌, subst, ⊎_elim, true≢false, arith, eq-eqb, ne_eqb, eqb-true, cases_Bool, eqb-false, AreDistinct, contains, first_in, next_in, some_address}
use Rattle.vc_gaps.proofs.Common.{AscendFrom, from_on}
use Rattle.vc_base.proofs.Members.{apart-head, apart-tail, within-head, within-tail}
use Rattle.vc_gaps.proofs.Ascending.{ascend-least}

-- an address that is one, and one that is none
some-is : (a x : ℕ) → some_address a ≡ Some x → a ≡ x
some-is a x e =
    ⊎_elim
    (λ (t : eqb a 0 ≡ true). let n : None ≡ Some x = rw t at e in absurd (cc))
    (λ (t : eqb a 0 ≡ false). let n : Some a ≡ Some x = rw t at e in cc)
    (cases_Bool (eqb a 0))

none-is : (a : ℕ) → some_address a ≡ None → a ≡ 0
none-is a e =
    ⊎_elim
    (λ (t : eqb a 0 ≡ true). eqb-true a 0 t)
    (λ (t : eqb a 0 ≡ false). let n : Some a ≡ None = rw t at e in absurd (cc))
    (cases_Bool (eqb a 0))

pub from_on-none : (a : ℕ) (xs : List ℕ) → contains xs a ≡ false → from_on a xs ≡ []
from_on-none a [] h = refl
from_on-none a (x ∷ xs) h = rw (ne_eqb x a (apart-head x xs a h)) (from_on-none a xs (apart-tail x xs a h))

-- from a name on, a list begins with it, and is no longer
pub from_on-length : (a : ℕ) (xs : List ℕ) → length (from_on a xs) ≤ length xs
from_on-length a [] = omega arith
from_on-length a (x ∷ xs) =
    ⊎_elim
    (λ (t : eqb x a ≡ true). rw t (omega arith))
    (λ (t : eqb x a ≡ false). let k = from_on-length a xs in rw t (omega arith))
    (cases_Bool (eqb x a))

from_on-within : (a : ℕ) (xs : List ℕ) → contains xs a ≡ true → contains (from_on a xs) a ≡ true
from_on-within a [] h = h
from_on-within a (x ∷ xs) h =
    ⊎_elim
    (λ (t : eqb x a ≡ true). rw t h)
    (λ (t : eqb x a ≡ false). rw t (from_on-within a xs (rw t at h)))
    (cases_Bool (eqb x a))

ascend-from_on : (key : ℕ → ℕ) (low a : ℕ) (xs : List ℕ) → AscendFrom key low xs → (from : ℕ) × AscendFrom key from (from_on a xs)
ascend-from_on key low a [] h = (0, tt)
ascend-from_on key low a (x ∷ xs) h =
    ⊎_elim
    (λ (t : eqb x a ≡ true). (low, rw t h))
    (λ (t : eqb x a ≡ false). let r = ascend-from_on key (key x + 1) a xs h.1 in (r.0, rw t r.1))
    (cases_Bool (eqb x a))

-- behind a name stands the list from the next one on
pub record IsNext (xs : List ℕ) (a b : ℕ) : Type 0 where
  pub rest : from_on a xs ≡ a ∷ from_on b xs
  pub within : b ≢ 0 → contains xs b ≡ true

next-first : (x b : ℕ) (xs : List ℕ) → x ≢ 0 → contains xs x ≡ false → some_address b ≡ first_in xs → (from_on b (x ∷ xs) ≡ xs) × (b ≢ 0 → contains (x ∷ xs) b ≡ true)
next-first x b [] some apart e =
    let zero = none-is b e in
    (rw (ne_eqb x b (λ q. some (q ∙ zero))) refl, λ ne. absurd (ne zero))
next-first x b (y ∷ ys) some apart e =
    let same : b ≡ y = some-is b y e in
    let other : y ≢ x = apart-head y ys x apart in (
      rw (ne_eqb x b (λ q. other (sym (q ∙ same))), eq-eqb y b (sym same)) refl,
      λ ne. within-tail x (y ∷ ys) b (subst (λ z. contains (y ∷ ys) z ≡ true) (sym same) (within-head y ys)),
    )

pub is_next : (xs : List ℕ) (a b : ℕ) → AreDistinct xs → contains xs 0 ≡ false → contains xs a ≡ true → some_address b ≡ next_in a xs → IsNext xs a b
is_next [] a b d none h e = absurd (true≢false (sym h))
is_next (x ∷ xs) a b d none h e =
    ⊎_elim
    (λ (t : eqb x a ≡ true).
    let same = eqb-true x a t in
    let n = next-first x b xs (apart-head x xs 0 none) d.0 (rw t at e) in
    record { rest = rw t (ap (λ z. z ∷ xs) same ∙ ap (λ ys. a ∷ ys) (sym n.0)); within = n.1 })
    (λ (t : eqb x a ≡ false).
    let r : IsNext xs a b = is_next xs a b d.1 (apart-tail x xs 0 none) (rw t at h) (rw t at e) in
    let other : x ≢ b = λ q.
    ⊎_elim
    (λ (z : eqb b 0 ≡ true). apart-head x xs 0 none (q ∙ eqb-true b 0 z))
    (λ (z : eqb b 0 ≡ false). true≢false (sym (r.within (eqb-false b 0 z)) ∙ ap (contains xs) (sym q) ∙ d.0))
    (cases_Bool (eqb b 0)) in
    record {
      rest = rw (t, ne_eqb x b other) r.rest;
      within = λ ne. within-tail x xs b (r.within ne);
    })
    (cases_Bool (eqb x a))

-- so its key is greater
pub next-above : (key : ℕ → ℕ) (xs : List ℕ) (a b : ℕ) → AscendFrom key 0 xs → IsNext xs a b → b ≢ 0 → key a < key b
next-above key xs a b h n ne =
    let f = ascend-from_on key 0 a xs h in
    let g : AscendFrom key f.0 (a ∷ from_on b xs) = subst (AscendFrom key f.0) n.rest f.1 in
    let k = ascend-least key (key a + 1) (from_on b xs) b g.1 (from_on-within b xs (n.within ne)) in
    omega arith

-- what is found stands from the first that passes a weaker test on
pub find-from : (p q : ℕ → Bool) (xs : List ℕ) (first : ℕ) → contains xs 0 ≡ false → ((n : ℕ) → contains xs n ≡ true → p n ≡ true → q n ≡ true) → some_address first ≡ find q xs → find p xs ≡ find p (from_on first xs)
find-from p q [] first none weaker e = refl
find-from p q (x ∷ xs) first none weaker e =
    ⊎_elim
    (λ (t : q x ≡ true). let f : some_address first ≡ Some x = rw t at e in rw (eq-eqb x first (sym (some-is first x f))) refl)
    (λ (t : q x ≡ false).
    let f : some_address first ≡ find q xs = rw t at e in
    let fails : p x ≡ false =
    ⊎_elim
    (λ (u : p x ≡ true). absurd (true≢false (sym (weaker x (within-head x xs) u) ∙ t)))
    (λ (u : p x ≡ false). u)
    (cases_Bool (p x)) in
    let r = find-from p q xs first (apart-tail x xs 0 none) (λ n w. weaker n (within-tail x xs n w)) f in
    let other : x ≢ first = λ z.
    ⊎_elim
    (λ (u : eqb first 0 ≡ true). apart-head x xs 0 none (z ∙ eqb-true first 0 u))
    (λ (u : eqb first 0 ≡ false).
    let g : Some first ≡ find q xs = rw u at f in
    true≢false (sym (passes q xs first (sym g)) ∙ ap q (sym z) ∙ t))
    (cases_Bool (eqb first 0)) in
    rw (fails, ne_eqb x first other) r)
    (cases_Bool (q x))
  where
    passes : (q : ℕ → Bool) (ys : List ℕ) (n : ℕ) → find q ys ≡ Some n → q n ≡ true
    passes q [] n e = absurd (cc)
    passes q (y ∷ ys) n e =
        ⊎_elim
        (λ (t : q y ≡ true). let f : Some y ≡ Some n = rw t at e in let same : y ≡ n = cc in subst (λ z. q z ≡ true) same t)
        (λ (t : q y ≡ false). passes q ys n (rw t at e))
        (cases_Bool (q y))

-- what is found is in the list
pub find-some : (q : ℕ → Bool) (xs : List ℕ) (first : ℕ) → first ≢ 0 → some_address first ≡ find q xs → contains xs first ≡ true
find-some q [] first some e = absurd (some (none-is first e))
find-some q (x ∷ xs) first some e =
    ⊎_elim
    (λ (t : q x ≡ true). subst (λ z. contains (x ∷ xs) z ≡ true) (sym (some-is first x (rw t at e))) (within-head x xs))
    (λ (t : q x ≡ false). within-tail x xs first (find-some q xs first some (rw t at e)))
    (cases_Bool (q x))

-- what a search for the first that passes has come to: none before it passes
pub record Walked (p : ℕ → Bool) (xs : List ℕ) (first at start now : ℕ) : Type 0 where
  pub same : find p (from_on first xs) ≡ find p (from_on at xs)
  pub within : at ≢ 0 → contains xs at ≡ true
  pub steps : now + length (from_on at xs) ≤ start + length (from_on first xs)

pub walk-on : (p : ℕ → Bool) (xs : List ℕ) (first at b start now : ℕ) → IsNext xs at b → p at ≡ false → Walked p xs first at start now → Walked p xs first b start (now + 1)
walk-on p xs first at b start now n fails w =
    let behind : find p (from_on at xs) ≡ find p (from_on b xs) = ap (find p) n.rest ∙ ap (λ z. cond z (Some at) (find p (from_on b xs))) fails in
    record { same = w.same ∙ behind; within = n.within; steps = omega (arith, w.steps, ap length n.rest) }

from_on-head : (a : ℕ) (xs : List ℕ) → contains xs a ≡ true → (ys : List ℕ) × (from_on a xs ≡ a ∷ ys)
from_on-head a [] h = absurd (true≢false (sym h))
from_on-head a (x ∷ xs) h =
    ⊎_elim
    (λ (t : eqb x a ≡ true). (xs, rw t (ap (λ z. z ∷ xs) (eqb-true x a t))))
    (λ (t : eqb x a ≡ false). let r = from_on-head a xs (rw t at h) in (r.0, rw t r.1))
    (cases_Bool (eqb x a))

pub walk-found : (p : ℕ → Bool) (xs : List ℕ) (first at start now : ℕ) → at ≢ 0 → p at ≡ true → Walked p xs first at start now → some_address at ≡ find p (from_on first xs)
walk-found p xs first at start now some passes w =
    let head = from_on-head at xs (w.within some) in
    rw (ne_eqb at 0 some) (sym (w.same ∙ ap (find p) head.1 ∙ ap (λ z. cond z (Some at) (find p head.0)) passes))

pub walk-steps : (p : ℕ → Bool) (xs : List ℕ) (first at start now : ℕ) → at ≢ 0 → Walked p xs first at start now → now + 1 ≤ start + length xs
walk-steps p xs first at start now some w =
    omega (arith, w.steps, from_on-length first xs, ap length (from_on-head at xs (w.within some)).1)

pub walk-end : (p : ℕ → Bool) (xs : List ℕ) (first at start now : ℕ) → Walked p xs first at start now → now ≤ start + length xs
walk-end p xs first at start now w = omega (arith, w.steps, from_on-length first xs)

pub walk-none : (p : ℕ → Bool) (xs : List ℕ) (first at start now : ℕ) → contains xs 0 ≡ false → at ≡ 0 → Walked p xs first at start now → None ≡ find p (from_on first xs)
walk-none p xs first at start now none zero w =
    sym (w.same ∙ ap (find p) (ap (λ z. from_on z xs) zero ∙ from_on-none 0 xs none))
