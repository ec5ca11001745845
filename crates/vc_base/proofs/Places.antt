-- Places in a layout, and the spans of blocks there.
use Rattle.vc_base.proofs.Common.{◌≡◌, ℕ, ◌+◌, ◌≤◌, true, eqb, refl, ap, ◌∙◌, arith, eq-eqb, eqb-true, and_from, and_parts, Block, is_at, span}

-- a block has bytes before it and behind it
pub span-least : (size : ℕ) → size + 16 ≤ span size
span-least size = omega arith

pub some-span : (size : ℕ) → 1 ≤ span size
some-span size = omega arith

-- a block is at its own place and at no other
pub at-itself : (b : Block ℕ) → is_at (b.seg, b.off) b ≡ true
at-itself b = and_from (eqb b.seg b.seg) (eqb b.off b.off) (eq-eqb b.seg b.seg refl) (eq-eqb b.off b.off refl)

pub at-place : (at : ℕ × ℕ) (b : Block ℕ) → is_at at b ≡ true → (b.seg, b.off) ≡ at
at-place at b e =
    let both = and_parts (eqb b.seg at.0) (eqb b.off at.1) e in
    let pair : ℕ → ℕ → ℕ × ℕ = λ m n. (m, n) in
    ap (λ m. pair m b.off) (eqb-true b.seg at.0 both.0) ∙ ap (pair at.0) (eqb-true b.off at.1 both.1)
