-- Blocks that are put by address one after another.
use Rattle.vc_base.proofs.Common.{◌≡◌, ℕ, ◌<◌, Bool, true, false, ◌&&◌, ◌||◌, eqb, ltb, ◌⊎◌, List, [], ◌∷◌, ◌++◌, ◌==◌, Some, All, sym, refl, ap, ◌∙◌, inl, inr, ⊎_elim, arith, ltb-false, ltb-true, lt-ltb, eq-eqb, eqb-true, and_from, and_parts, cases_Bool, false≢true, or_cases, or_left, or_right, All-head, All-tail, list_any, Block, is_at, lies_before, place_of_block, with_block, without_block, change_block, find_block}
use Rattle.vc_base.proofs.Booleans.{or-swap}
use Rattle.vc_seg.specs.InOrder.{in_order}
use Rattle.vc_seg.proofs.Blocks.{All-with}

-- the order of places
abbrev Lower : Block ℕ → Block ℕ → Type 0
Lower a b = (a.seg < b.seg) ⊎ ((a.seg ≡ b.seg) × (a.off < b.off))

lower-is : (a b : Block ℕ) → lies_before a b ≡ true → Lower a b
lower-is a b e =
    ⊎_elim
    (λ u. inl (ltb-true a.seg b.seg u))
    (λ u. let both = and_parts (eqb a.seg b.seg) (ltb a.off b.off) u in inr (eqb-true a.seg b.seg both.0, ltb-true a.off b.off both.1))
    (or_cases (ltb a.seg b.seg) ((a.seg == b.seg) && ltb a.off b.off) e)

is-lower : (a b : Block ℕ) → Lower a b → lies_before a b ≡ true
is-lower a b h =
    ⊎_elim
    (λ u. or_left (ltb a.seg b.seg) ((a.seg == b.seg) && ltb a.off b.off) (lt-ltb a.seg b.seg u))
    (λ u. or_right (ltb a.seg b.seg) ((a.seg == b.seg) && ltb a.off b.off) (and_from (eqb a.seg b.seg) (ltb a.off b.off) (eq-eqb a.seg b.seg u.0) (lt-ltb a.off b.off u.1)))
    h

not-lower : (a b : Block ℕ) → (Lower a b → ⊥) → lies_before a b ≡ false
not-lower a b never = ⊎_elim (λ e. absurd (never (lower-is a b e))) (λ e. e) (cases_Bool (lies_before a b))

-- two blocks at two places stand in one order
either-lower : (a b : Block ℕ) → is_at (place_of_block a) b ≡ false → Lower a b ⊎ Lower b a
either-lower a b other =
    ⊎_elim
    (λ u. inl (inl (ltb-true a.seg b.seg u)))
    (λ u. let low = ltb-false a.seg b.seg u in
    ⊎_elim
    (λ v. inr (inl (ltb-true b.seg a.seg v)))
    (λ v. let high = ltb-false b.seg a.seg v in
    let same : a.seg ≡ b.seg = omega (arith, low, high) in
    ⊎_elim
    (λ x. inl (inr (same, ltb-true a.off b.off x)))
    (λ x. let low' = ltb-false a.off b.off x in
    ⊎_elim
    (λ y. inr (inr (sym same, ltb-true b.off a.off y)))
    (λ y. let high' = ltb-false b.off a.off y in
    absurd (false≢true (sym other ∙ and_from (eqb b.seg a.seg) (eqb b.off a.off) (eq-eqb b.seg a.seg (sym same)) (eq-eqb b.off a.off (omega (arith, low', high'))))))
    (cases_Bool (ltb b.off a.off)))
    (cases_Bool (ltb a.off b.off)))
    (cases_Bool (ltb b.seg a.seg)))
    (cases_Bool (ltb a.seg b.seg))

lower-not : (a b : Block ℕ) → Lower a b → Lower b a → ⊥
lower-not a b p q =
    ⊎_elim
    (λ u. ⊎_elim (λ v. omega (arith, u, v)) (λ v. omega (arith, u, v.0)) q)
    (λ u. ⊎_elim (λ v. omega (arith, u.0, v)) (λ v. omega (arith, u.1, v.1)) q)
    p

lower-trans : (a b c : Block ℕ) → Lower a b → Lower b c → Lower a c
lower-trans a b c p q =
    ⊎_elim
    (λ u. ⊎_elim (λ v. inl (omega (arith, u, v))) (λ v. inl (omega (arith, u, v.0))) q)
    (λ u. ⊎_elim (λ v. inl (omega (arith, u.0, v))) (λ v. inr (u.0 ∙ v.0, omega (arith, u.1, v.1))) q)
    p

-- one that is lower goes first, among any others
first-lower : (a b : Block ℕ) (bs : List (Block ℕ)) → Lower a b → with_block a (with_block b bs) ≡ with_block b (with_block a bs)
first-lower a b [] low =
    rw (is-lower a b low) (rw (not-lower b a (λ q. lower-not a b low q)) refl)
first-lower a b (d ∷ ds) low =
    let ab : lies_before a b ≡ true = is-lower a b low in
    let ba : lies_before b a ≡ false = not-lower b a (λ q. lower-not a b low q) in
    ⊎_elim
    (λ (x : lies_before a d ≡ true).
    ⊎_elim
    (λ (y : lies_before b d ≡ true). rw x (rw y (rw ab (rw ba refl))))
    (λ (y : lies_before b d ≡ false). rw (x, y, ba) (rw x refl))
    (cases_Bool (lies_before b d)))
    (λ (x : lies_before a d ≡ false).
    ⊎_elim
    (λ (y : lies_before b d ≡ true). absurd (false≢true (sym x ∙ is-lower a d (lower-trans a b d low (lower-is b d y)))))
    (λ (y : lies_before b d ≡ false). rw (x, y) (rw x (ap (λ cs. d ∷ cs) (first-lower a b ds low))))
    (cases_Bool (lies_before b d)))
    (cases_Bool (lies_before a d))

-- in whichever order two blocks are put
pub with-twice : (a b : Block ℕ) (bs : List (Block ℕ)) → is_at (place_of_block a) b ≡ false → with_block a (with_block b bs) ≡ with_block b (with_block a bs)
with-twice a b bs other =
    ⊎_elim (λ low. first-lower a b bs low) (λ low. sym (first-lower b a bs low)) (either-lower a b other)

-- no block stands at a place
abbrev pub NoneAt : ℕ × ℕ → List (Block ℕ) → Type 0
NoneAt at bs = All (λ c. is_at at c ≡ false) bs

-- each block that is put one after another stays
pub All-in_order : (P : Block ℕ → Type 0) (bs : List (Block ℕ)) → All P bs → All P (in_order bs)
All-in_order P [] h = h
All-in_order P (b ∷ bs) h = All-with P b (in_order bs) (All-head P b bs h) (All-in_order P bs (All-tail P b bs h))

module _ (p : Block ℕ → Bool) where
  any-with : (b : Block ℕ) (bs : List (Block ℕ)) → list_any p (with_block b bs) ≡ (p b || list_any p bs)
  any-with b [] = refl
  any-with b (c ∷ cs) =
      ⊎_elim
      (λ (t : lies_before b c ≡ true). rw t refl)
      (λ (t : lies_before b c ≡ false). rw t (ap (λ r. p c || r) (any-with b cs) ∙ or-swap (p c) (p b) (list_any p cs)))
      (cases_Bool (lies_before b c))

  pub any-order : (bs : List (Block ℕ)) → list_any p (in_order bs) ≡ list_any p bs
  any-order [] = refl
  any-order (b ∷ bs) = any-with b (in_order bs) ∙ ap (λ r. p b || r) (any-order bs)

-- a block may as well be put last, where none of those before it is at its place
pub order-middle : (front : List (Block ℕ)) (b : Block ℕ) (back : List (Block ℕ)) → NoneAt (place_of_block b) front → in_order (front ++ b ∷ back) ≡ with_block b (in_order (front ++ back))
order-middle [] b back none = refl
order-middle (c ∷ cs) b back none =
    let P : Block ℕ → Type 0 = λ d. is_at (place_of_block b) d ≡ false in
    ap (with_block c) (order-middle cs b back (All-tail P c cs none))
    ∙ sym (with-twice b c (in_order (cs ++ back)) (All-head P c cs none))

pub own-place : (b : Block ℕ) → is_at (place_of_block b) b ≡ true
own-place b = and_from (eqb b.seg b.seg) (eqb b.off b.off) (eq-eqb b.seg b.seg refl) (eq-eqb b.off b.off refl)

module _ (at : ℕ × ℕ) (b : Block ℕ) (own : is_at at b ≡ true) where
  -- it is found among others that aren't there
  pub find-with : (bs : List (Block ℕ)) → NoneAt at bs → find_block at (with_block b bs) ≡ Some b
  find-with [] none = rw own refl
  find-with (c ∷ cs) none =
      let P : Block ℕ → Type 0 = λ d. is_at at d ≡ false in
      ⊎_elim
      (λ (e : lies_before b c ≡ true). rw e (rw own refl))
      (λ (e : lies_before b c ≡ false). rw e (rw (All-head P c cs none) (find-with cs (All-tail P c cs none))))
      (cases_Bool (lies_before b c))

  -- goes
  pub without-with : (bs : List (Block ℕ)) → NoneAt at bs → without_block at (with_block b bs) ≡ bs
  without-with [] none = rw own refl
  without-with (c ∷ cs) none =
      let P : Block ℕ → Type 0 = λ d. is_at at d ≡ false in
      ⊎_elim
      (λ (e : lies_before b c ≡ true). rw e (rw own refl))
      (λ (e : lies_before b c ≡ false). rw e (rw (All-head P c cs none) (ap (λ ds. c ∷ ds) (without-with cs (All-tail P c cs none)))))
      (cases_Bool (lies_before b c))

  -- or changes where it stands
  module _ (g : Block ℕ → Block ℕ) (seg : (g b).seg ≡ b.seg) (off : (g b).off ≡ b.off) where
    before-same : (c : Block ℕ) → lies_before (g b) c ≡ lies_before b c
    before-same c = rw (seg, off) refl

    pub change-with : (bs : List (Block ℕ)) → NoneAt at bs → change_block g at (with_block b bs) ≡ with_block (g b) bs
    change-with [] none = rw own refl
    change-with (c ∷ cs) none =
        let P : Block ℕ → Type 0 = λ d. is_at at d ≡ false in
        ⊎_elim
        (λ (e : lies_before b c ≡ true). rw e (rw (before-same c ∙ e) (rw own refl)))
        (λ (e : lies_before b c ≡ false). rw e (rw (before-same c ∙ e) (rw (All-head P c cs none) (ap (λ ds. c ∷ ds) (change-with cs (All-tail P c cs none))))))
        (cases_Bool (lies_before b c))
