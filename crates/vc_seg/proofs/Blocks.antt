-- What is true of the blocks of a layout as one is put among them, goes or changes.
use Rattle.vc_base.proofs.Common.{◌≡◌, ℕ, ◌+◌, ◌*◌, ◌/◌, ◌%◌, ◌<◌, true, false, ltb, List, [], ◌∷◌, All, ap, ◌∙◌, inl, inr, ⊎_elim, arith, ltb-false, ltb-true, cases_Bool, All-cons, All-head, All-tail, address, place_of, Run, Block, is_at, lies_before, with_block, without_block, IsApart, change_block}

-- runs in two segments have no byte in common
pub apart_by_seg : (f g : Run) → (f.seg ≡ g.seg → ⊥) → IsApart f g
apart_by_seg f g other =
    ⊎_elim
    (λ v. inl (inl (ltb-true f.seg g.seg v)))
    (λ v. let le = ltb-false f.seg g.seg v in inr (inl (omega (arith, le, other))))
    (cases_Bool (ltb f.seg g.seg))

module _ (P : Block ℕ → Type 0) where
  pub All-with : (b : Block ℕ) (bs : List (Block ℕ)) → P b → All P bs → All P (with_block b bs)
  All-with b [] here h = All-cons P b [] here h
  All-with b (c ∷ cs) here h =
      ⊎_elim
      (λ (t : lies_before b c ≡ true). rw t (All-cons P b (c ∷ cs) here h))
      (λ (t : lies_before b c ≡ false). rw t (All-cons P c (with_block b cs) (All-head P c cs h) (All-with b cs here (All-tail P c cs h))))
      (cases_Bool (lies_before b c))

  pub All-without : (at : ℕ × ℕ) (bs : List (Block ℕ)) → All P bs → All P (without_block at bs)
  All-without at [] h = h
  All-without at (b ∷ bs) h =
      let rest = All-tail P b bs h in
      ⊎_elim
      (λ (t : is_at at b ≡ true). rw t rest)
      (λ (t : is_at at b ≡ false). rw t (All-cons P b (without_block at bs) (All-head P b bs h) (All-without at bs rest)))
      (cases_Bool (is_at at b))

  pub All-change : (f : Block ℕ → Block ℕ) → ((b : Block ℕ) → P b → P (f b)) → (at : ℕ × ℕ) (bs : List (Block ℕ)) → All P bs → All P (change_block f at bs)
  All-change f kept at [] h = h
  All-change f kept at (b ∷ bs) h =
      let here = All-head P b bs h in
      let rest = All-tail P b bs h in
      ⊎_elim
      (λ (t : is_at at b ≡ true). rw t (All-cons P (f b) bs (kept b here) rest))
      (λ (t : is_at at b ≡ false). rw t (All-cons P b (change_block f at bs) here (All-change f kept at bs rest)))
      (cases_Bool (is_at at b))

pub place_of-address : (seg off : ℕ) → off < 33554432 → off % 32 ≡ 0 → place_of (address (seg, off)) ≡ (seg, off)
place_of-address seg off last multiple =
    let pair : ℕ → ℕ → ℕ × ℕ = λ m n. (m, n) in
    let a = seg * 1048576 + off / 32 in
    let number : a / 1048576 ≡ seg = omega arith in
    let offset : a % 1048576 * 32 ≡ off = omega arith in
    ap (λ m. pair m (a % 1048576 * 32)) number ∙ ap (pair seg) offset
