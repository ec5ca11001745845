-- Parts of bytes into which others were written.
use Rattle.vc_base.proofs.Common.{◌≡◌, ℕ, ◌+◌, ◌≤◌, List, length, take, drop, arith, places, same_lists, with_bytes}

pub length-with_bytes : (off : ℕ) (src bytes : List ℕ) → off + length src ≤ length bytes → length (with_bytes off src bytes) ≡ length bytes
length-with_bytes off src bytes h = grind (arith, places)

-- what was written in a part stands there
pub part-written : (from size off : ℕ) (src bytes : List ℕ) → off + length src ≤ size → from + size ≤ length bytes → take size (drop from (with_bytes (from + off) src bytes)) ≡ with_bytes off src (take size (drop from bytes))
part-written from size off src bytes fits within = same_lists _ _ (grind (arith, places)) (λ k d lt. grind (arith, places))

-- a part of a part
pub part-of-part : (bytes : List ℕ) (from size off len : ℕ) → off + len ≤ size → take len (drop (from + off) bytes) ≡ take len (drop off (take size (drop from bytes)))
part-of-part bytes from size off len h = same_lists _ _ (grind (arith, places)) (λ k d lt. grind (arith, places))
