-- The segment of a number, by its place among some.
use Rattle.vc_base.proofs.Common.{◌≡◌, ℕ, zero, suc, ◌<◌, ◌≢◌, List, [], ◌∷◌, length, get_or, take, set, All, refl, ap, ◌∙◌, arith, eq-eqb, ne_eqb, All-head, All-tail, with_bytes}
use Rattle.vc_seg.specs.Segment.{Bytes}
use Rattle.vc_seg.specs.Memory.{write_segment}
use Rattle.vc_seg.specs.Memory.{bytes_of_number}

-- a segment has another number
abbrev pub IsOther : ℕ → Bytes → Type 0
IsOther n b = b.number ≢ n

pub bytes_of_number-none : (n : ℕ) (segs : List Bytes) → All (IsOther n) segs → bytes_of_number n segs ≡ []
bytes_of_number-none n [] h = refl
bytes_of_number-none n (s ∷ ss) h = rw (ne_eqb s.number n (All-head (IsOther n) s ss h)) (bytes_of_number-none n ss (All-tail (IsOther n) s ss h))

-- the first segment of the number has its bytes
pub bytes_of_number-first : (n : ℕ) (segs : List Bytes) (i : ℕ) (d : Bytes) → i < length segs → All (IsOther n) (take i segs) → (get_or segs i d).number ≡ n → bytes_of_number n segs ≡ (get_or segs i d).bytes
bytes_of_number-first n [] i d lt h here = absurd (omega arith)
bytes_of_number-first n (s ∷ ss) zero d lt h here = rw (eq-eqb s.number n here) refl
bytes_of_number-first n (s ∷ ss) (suc i) d lt h here = rw (ne_eqb s.number n (All-head (IsOther n) s (take i ss) h)) (bytes_of_number-first n ss i d (omega arith) (All-tail (IsOther n) s (take i ss) h) here)

-- and is the one that is written into
pub write_segment-first : (n at : ℕ) (src : List ℕ) (segs : List Bytes) (i : ℕ) (d new : Bytes) → i < length segs → All (IsOther n) (take i segs) → (get_or segs i d).number ≡ n →
    new.number ≡ (get_or segs i d).number → new.bytes ≡ with_bytes at src (get_or segs i d).bytes → set segs i new ≡ write_segment n at src segs
write_segment-first n at src [] i d new lt h here number bytes = absurd (omega arith)
write_segment-first n at src (s ∷ ss) zero d new lt h here number bytes =
    let segment : ℕ → List ℕ → Bytes = λ k bs. record { number = k; bytes = bs } in
    let same : new ≡ segment s.number (with_bytes at src s.bytes) = ap (λ k. segment k new.bytes) number ∙ ap (segment s.number) bytes in
    rw (eq-eqb s.number n here) (ap (λ b. b ∷ ss) same)
write_segment-first n at src (s ∷ ss) (suc i) d new lt h here number bytes =
    rw (ne_eqb s.number n (All-head (IsOther n) s (take i ss) h)) (ap (λ bs. s ∷ bs) (write_segment-first n at src ss i d new (omega arith) (All-tail (IsOther n) s (take i ss) h) here number bytes))
