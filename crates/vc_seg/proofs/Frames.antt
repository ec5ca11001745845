-- What a write leaves: parts of the bytes below it and above it.
use Rattle.vc_base.proofs.Common.{◌≡◌, ℕ, ◌+◌, ◌-◌, ◌^◌, ◌<◌, ◌≤◌, List, ◌++◌, length, take, drop, sym, ap, ◌∙◌, subst, arith, length-append, length-drop, length-take-le, take-take, drop-drop, take_at, drop_at, w32, drop-take, take-append-le, from_le_bytes, to_le_bytes, with_bytes}
use Rattle.std.proofs.lemmas.Nat.{from_le_bytes-to_le_bytes_4}
use Rattle.vc_seg.specs.Segment.{Bytes}
use Rattle.vc_seg.specs.Field.{field_at}
use Rattle.vc_seg.specs.Frame.{StaysBelow, StaysOutside}

-- parts of bytes whose front is the same
module _ (o n : List ℕ) (f : ℕ) (same : take f n ≡ take f o) where
  pub take-front : (k : ℕ) → k ≤ f → take k n ≡ take k o
  take-front k h = sym (take-take k f n h) ∙ (ap (take k) same ∙ take-take k f o h)

  pub part-front : (i k : ℕ) → i + k ≤ f → take k (drop i n) ≡ take k (drop i o)
  part-front i k h = sym (drop-take i k n) ∙ (ap (drop i) (take-front (i + k) h) ∙ drop-take i k o)

  pub field-front : (i : ℕ) → i + 4 ≤ f → field_at i n ≡ field_at i o
  unfolding field_at
  field-front i h = ap (from_le_bytes w32) (part-front i 4 h)

-- parts of bytes whose back is the same
module _ (o n : List ℕ) (t : ℕ) (same : drop t n ≡ drop t o) where
  pub drop-back : (i : ℕ) → t ≤ i → drop i n ≡ drop i o
  drop-back i h =
      let e : t + (i - t) ≡ i = omega arith in
      ap (λ j. drop j n) (sym e) ∙ (sym (drop-drop (i - t) t n) ∙ (ap (drop (i - t)) same ∙ (drop-drop (i - t) t o ∙ ap (λ j. drop j o) e)))

  pub part-back : (i k : ℕ) → t ≤ i → take k (drop i n) ≡ take k (drop i o)
  part-back i k h = ap (take k) (drop-back i h)

  pub field-back : (i : ℕ) → t ≤ i → field_at i n ≡ field_at i o
  unfolding field_at
  field-back i h = ap (from_le_bytes w32) (part-back i 4 h)

-- bytes written over others
module _ (off : ℕ) (src bytes : List ℕ) (h : off + length src ≤ length bytes) where
  front-length : length (take off bytes) ≡ off
  front-length = length-take-le off bytes (omega arith)

  pub written-length : length (with_bytes off src bytes) ≡ length bytes
  written-length = omega (arith, length-append (take off bytes ++ src) (drop (off + length src) bytes), length-append (take off bytes) src, length-drop (off + length src) bytes, front-length)

  pub written-below : take off (with_bytes off src bytes) ≡ take off bytes
  written-below = take-append-le off (take off bytes ++ src) (drop (off + length src) bytes) (omega (arith, length-append (take off bytes) src, front-length)) ∙ take_at (take off bytes) src off front-length

  pub written-above : drop (off + length src) (with_bytes off src bytes) ≡ drop (off + length src) bytes
  written-above = drop_at (take off bytes ++ src) (drop (off + length src) bytes) (off + length src) (length-append (take off bytes) src ∙ ap (λ k. k + length src) front-length)

  pub written-part : take (length src) (drop off (with_bytes off src bytes)) ≡ src
  written-part =
      sym (drop-take off (length src) (with_bytes off src bytes))
      ∙ (ap (drop off) (take_at (take off bytes ++ src) (drop (off + length src) bytes) (off + length src) (length-append (take off bytes) src ∙ ap (λ k. k + length src) front-length))
      ∙ drop_at (take off bytes) src off front-length)

-- the bytes that a call of `put` leaves
pub stays-written : (s new : Bytes) (off : ℕ) (src : List ℕ) → off + length src ≤ length s.bytes → new.bytes ≡ with_bytes off src s.bytes → new.number ≡ s.number → StaysOutside off (off + length src) s new
stays-written s new off src h e number =
    record {
      number = number;
      len = ap length e ∙ written-length off src s.bytes h;
      below = ap (take off) e ∙ written-below off src s.bytes h;
      above = ap (drop (off + length src)) e ∙ written-above off src s.bytes h;
    }

-- a wider range
pub wider : (f t f' t' : ℕ) (o n : Bytes) → StaysOutside f t o n → f' ≤ f → t ≤ t' → StaysOutside f' t' o n
wider f t f' t' o n s below above =
    record {
      number = s.number;
      len = s.len;
      below = take-front o.bytes n.bytes f s.below f' below;
      above = drop-back o.bytes n.bytes t s.above t' above;
    }

-- one write behind another
pub then : (f t : ℕ) (o m n : Bytes) → StaysOutside f t o m → StaysOutside f t m n → StaysOutside f t o n
then f t o m n a b = record { number = b.number ∙ a.number; len = b.len ∙ a.len; below = b.below ∙ a.below; above = b.above ∙ a.above }

-- what lies below a range
pub only-below : (f t at : ℕ) (o n : Bytes) → StaysOutside f t o n → at ≤ f → StaysBelow at o n
only-below f t at o n s h = record { number = s.number; len = s.len; below = take-front o.bytes n.bytes f s.below at h }

pub lower : (f at : ℕ) (o n : Bytes) → StaysBelow f o n → at ≤ f → StaysBelow at o n
lower f at o n s h = record { number = s.number; len = s.len; below = take-front o.bytes n.bytes f s.below at h }

pub then-below : (at : ℕ) (o m n : Bytes) → StaysBelow at o m → StaysBelow at m n → StaysBelow at o n
then-below at o m n a b = record { number = b.number ∙ a.number; len = b.len ∙ a.len; below = b.below ∙ a.below }

-- the number that four bytes were written for
pub field-written : (at v : ℕ) (src b n : List ℕ) → at + 4 ≤ length b → src ≡ to_le_bytes w32 v → v < 2 ^ 32 → n ≡ with_bytes at src b → field_at at n ≡ v
unfolding field_at
field-written at v src b n h is fits e =
    let len : length src ≡ 4 = ap length is in
    ap (λ (x : List ℕ). from_le_bytes w32 (take 4 (drop at x))) e
    ∙ (ap (λ k. from_le_bytes w32 (take k (drop at (with_bytes at src b)))) (sym len)
    ∙ (ap (from_le_bytes w32) (written-part at src b (omega arith) ∙ is) ∙ from_le_bytes-to_le_bytes_4 v fits))

pub stays-field : (s new : Bytes) (at v : ℕ) (src : List ℕ) → at + 4 ≤ length s.bytes → src ≡ to_le_bytes w32 v → new.bytes ≡ with_bytes at src s.bytes → new.number ≡ s.number → StaysOutside at (at + 4) s new
stays-field s new at v src h is e number =
    let len : length src ≡ 4 = ap length is in
    subst (λ k. StaysOutside at (at + k) s new) len (stays-written s new at src (omega arith) e number)
