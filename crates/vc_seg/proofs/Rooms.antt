-- Bytes with room behind them.
use Rattle.vc_base.proofs.Common.{◌≡◌, ℕ, ◌+◌, ◌-◌, ◌≤◌, List, ◌++◌, length, replicate, take, drop, sym, ap, ◌∙◌, arith, drop-drop, length-replicate, length-take, length-take-le, places, same_lists, take-append-le, take_at, with_bytes}
use Rattle.std.specs.List.{refill}
use Rattle.std.specs.declared.alloc.Global.{Global}
use denote.RawPtr.{Ptr}
use Rattle.std.proofs.Math.Seq.{take-add}
use Rattle.std.proofs.lemmas.List.{drop-append-le, drop-replicate, replicate-append-replicate, take-replicate}
use Rattle.vc_base.proofs.Overwrites.{length-with_bytes}
use Rattle.vc_seg.specs.Kept.{IsKept}
use Rattle.vc_seg.specs.Lends.{block_with_bytes}
use Rattle.vc_seg.specs.declared.block.Block.{Block}

-- what is written in the front leaves the back
pub front-written : (n off : ℕ) (src bytes : List ℕ) → off + length src ≤ n → n ≤ length bytes → take n (with_bytes off src bytes) ≡ with_bytes off src (take n bytes)
front-written n off src bytes fits within = same_lists _ _ (grind (arith, places)) (λ k d lt. grind (arith, places))

pub back-written : (n off : ℕ) (src bytes : List ℕ) → off + length src ≤ n → n ≤ length bytes → drop n (with_bytes off src bytes) ≡ drop n bytes
back-written n off src bytes fits within = same_lists _ _ (grind (arith, places)) (λ k d lt. grind (arith, places))

-- a part of the front
pub part-same : (n from len : ℕ) (bytes : List ℕ) → from + len ≤ n → take len (drop from bytes) ≡ take len (drop from (take n bytes))
part-same n from len bytes fits = same_lists _ _ (grind (arith, places)) (λ k d lt. grind (arith, places))

pub part-length : (from len : ℕ) (bytes : List ℕ) → length (take len (drop from bytes)) ≤ len
part-length from len bytes = omega (arith, length-take len (drop from bytes))

-- zeros behind so many bytes are zeros behind more of them
module _ (n more room : ℕ) (bytes : List ℕ) (zeros : drop n bytes ≡ replicate (room - n) 0) (fits : n + more ≤ room) where
  pub front-longer : take (n + more) bytes ≡ take n bytes ++ replicate more 0
  front-longer = take-add n more bytes ∙ ap (λ xs. take n bytes ++ xs) (ap (take more) zeros ∙ take-replicate more (room - n) 0 (omega arith))

  pub back-shorter : drop (n + more) bytes ≡ replicate (room - (n + more)) 0
  back-shorter =
      let less : room - n - more ≡ room - (n + more) = omega arith in
      sym (drop-drop more n bytes) ∙ (ap (drop more) zeros ∙ (drop-replicate more (room - n) 0 ∙ ap (λ k. replicate k 0) less))

-- and more zeros behind all of them are such ones too
module _ (n room : ℕ) (bytes : List ℕ) (zeros : drop n bytes ≡ replicate (length bytes - n) 0) (within : n ≤ length bytes) (fits : length bytes ≤ room) where
  pub roomy-front : take n (bytes ++ drop (length bytes) (replicate room 0)) ≡ take n bytes
  roomy-front = take-append-le n bytes (drop (length bytes) (replicate room 0)) within

  pub roomy-zeros : drop n (bytes ++ drop (length bytes) (replicate room 0)) ≡ replicate (room - n) 0
  roomy-zeros =
      let sum : length bytes - n + (room - length bytes) ≡ room - n = omega arith in
      drop-append-le n bytes (drop (length bytes) (replicate room 0)) within
      ∙ (ap (λ xs. xs ++ drop (length bytes) (replicate room 0)) zeros
      ∙ (ap (λ xs. replicate (length bytes - n) 0 ++ xs) (drop-replicate (length bytes) room 0)
      ∙ (replicate-append-replicate (length bytes - n) (room - length bytes) 0 ∙ ap (λ k. replicate k 0) sum)))

-- bytes of the same number take the place of all
pub refilled : (old new : List ℕ) → length new ≡ length old → refill (length old) old new ≡ new
refilled old new same = take_at new (drop (length new) old) (length old) same

-- bytes that are put in front of zeros
pub put-roomy : (old bytes new : List ℕ) (room : ℕ) → bytes ≡ replicate room 0 → length old ≤ room → new ≡ with_bytes 0 old bytes → refill (length bytes) bytes new ≡ old ++ drop (length old) (replicate room 0)
put-roomy old bytes new room zeros fits is =
    let long : length bytes ≡ room = ap length zeros ∙ length-replicate {A = ℕ} room 0 in
    let end : 0 + length old ≡ length old = omega arith in
    refilled bytes new (ap length is ∙ length-with_bytes 0 old bytes (omega (arith, fits, long)))
    ∙ (is ∙ (ap (λ k. old ++ drop k bytes) end ∙ ap (λ (xs : List ℕ). old ++ drop (length old) xs) zeros))

-- the size by the bytes that show
pub size-within : {size room : ℕ} {at : Ptr} {alloc : Global} {block : Block} {bytes : List ℕ} → IsKept size room at alloc block → take size block.bytes ≡ bytes → length bytes ≡ size
size-within {size = size} {block = block} k is = ap length (sym is) ∙ length-take-le size block.bytes (omega (arith, k.within, k.long))

-- a segment whose bytes are written in a range within its size
module _ (size room : ℕ) (at : Ptr) (alloc : Global) (block : Block) (kept : IsKept size room at alloc block) (off : ℕ) (src new : List ℕ) (fits : off + length src ≤ size) (is : new ≡ with_bytes off src block.bytes) where
  within : size ≤ length block.bytes
  within = omega (arith, kept.within, kept.long)

  same : length new ≡ length block.bytes
  same = ap length is ∙ length-with_bytes off src block.bytes (omega (arith, within, fits))

  written : refill (length block.bytes) block.bytes new ≡ with_bytes off src block.bytes
  written = refilled block.bytes new same ∙ is

  pub written-kept : IsKept size room at alloc (block_with_bytes block new)
  written-kept =
      record {
        legal = kept.legal;
        roomy = kept.roomy;
        within = kept.within;
        long = kept.long ∙ sym (ap length (refilled block.bytes new same) ∙ same);
        zeros = ap (drop size) written ∙ (back-written size off src block.bytes fits within ∙ kept.zeros);
        place = kept.place;
        heap = kept.heap;
      }

  pub written-front : take size (refill (length block.bytes) block.bytes new) ≡ with_bytes off src (take size block.bytes)
  written-front = ap (take size) written ∙ front-written size off src block.bytes fits within
