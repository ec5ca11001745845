-- Ranges of a list of bytes into which others were written.
use Rattle.vc_base.proofs.Common.{◌≡◌, ℕ, ◌+◌, ◌≤◌, List, length, take, drop, arith, places, same_lists, with_bytes}

-- a range before them
pub range-before : (off : ℕ) (src bytes : List ℕ) (from size : ℕ) → off + length src ≤ length bytes → from + size ≤ off → take size (drop from (with_bytes off src bytes)) ≡ take size (drop from bytes)
range-before off src bytes from size h before = same_lists _ _ (grind (arith, places)) (λ k d lt. grind (arith, places))

-- a range behind them
pub range-behind : (off : ℕ) (src bytes : List ℕ) (from size : ℕ) → off + length src ≤ length bytes → off + length src ≤ from → take size (drop from (with_bytes off src bytes)) ≡ take size (drop from bytes)
range-behind off src bytes from size h behind = same_lists _ _ (grind (arith, places)) (λ k d lt. grind (arith, places))

-- a range that they lie in
pub range-around : (off : ℕ) (src bytes : List ℕ) (from size at : ℕ) → at ≡ from + off → from + size ≤ length bytes → off + length src ≤ size → take size (drop from (with_bytes at src bytes)) ≡ with_bytes off src (take size (drop from bytes))
range-around off src bytes from size at is h within = same_lists _ _ (grind (arith, places)) (λ k d lt. grind (arith, places))
