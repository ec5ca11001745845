-- The bytes of the segment of a number.
use Rattle.vc_base.proofs.Common.{◌≡◌, ℕ, zero, suc, ◌<◌, ◌≤◌, false, eqb, ◌≢◌, List, [], ◌∷◌, ◌++◌, map, length, get_or, All, AllPairs, refl, ⊎_elim, arith, eq-eqb, ne_eqb, cases_Bool, or_parts, All-head, All-tail, numbers}
use Rattle.vc_seg.specs.Segment.{Bytes, IsRegionSegment, pair_of}
use Rattle.vc_seg.proofs.Backs.{Apart, Apart-tail}
use Rattle.vc_seg.specs.Memory.{bytes_of_number}
use Rattle.vc_seg.proofs.Unused.{is_among}

pub bytes_of_number-most : (n : ℕ) (segs : List Bytes) → All IsRegionSegment segs → length (bytes_of_number n segs) ≤ 33554432
bytes_of_number-most n [] h = omega arith
bytes_of_number-most n (s ∷ ss) h =
    ⊎_elim
    (λ e. rw e ((All-head IsRegionSegment s ss h).size.most))
    (λ e. rw e (bytes_of_number-most n ss (All-tail IsRegionSegment s ss h)))
    (cases_Bool (eqb s.number n))

-- an unused number has no bytes
pub bytes_of_number-unused : (n : ℕ) (segs : List Bytes) → is_among n (numbers (map pair_of segs)) ≡ false → bytes_of_number n segs ≡ []
bytes_of_number-unused n [] h = refl
bytes_of_number-unused n (s ∷ ss) h =
    let p = or_parts (eqb s.number n) (is_among n (numbers (map pair_of ss))) h in
    rw p.0 (bytes_of_number-unused n ss p.1)

-- one more segment under an unused number
pub bytes_of_number-push : (s : Bytes) (segs : List Bytes) → is_among s.number (numbers (map pair_of segs)) ≡ false → bytes_of_number s.number (segs ++ s ∷ []) ≡ s.bytes
bytes_of_number-push s [] h = rw (eq-eqb s.number s.number refl) refl
bytes_of_number-push s (t ∷ ts) h =
    let p = or_parts (eqb t.number s.number) (is_among s.number (numbers (map pair_of ts))) h in
    rw p.0 (bytes_of_number-push s ts p.1)

-- what a number has stays, where segments are added
pub bytes_of_number-append : (n : ℕ) (segs more : List Bytes) → 0 < length (bytes_of_number n segs) → bytes_of_number n (segs ++ more) ≡ bytes_of_number n segs
bytes_of_number-append n [] more h = absurd (omega arith)
bytes_of_number-append n (s ∷ ss) more h =
    ⊎_elim
    (λ e. rw e refl)
    (λ e. rw e (bytes_of_number-append n ss more (rw e at h)))
    (cases_Bool (eqb s.number n))

-- each segment is the one of its number
pub bytes_of_number-at : (segs : List Bytes) (k : ℕ) (d : Bytes) → AllPairs Apart segs → k < length segs → bytes_of_number (get_or segs k d).number segs ≡ (get_or segs k d).bytes
bytes_of_number-at [] k d h lt = absurd (omega arith)
bytes_of_number-at (s ∷ ss) zero d h lt = rw (eq-eqb s.number s.number refl) refl
bytes_of_number-at (s ∷ ss) (suc k) d h lt =
    let apart : s.number ≢ (get_or ss k d).number = h 0 (suc k) d (omega arith) lt in
    rw (ne_eqb s.number (get_or ss k d).number apart) (bytes_of_number-at ss k d (Apart-tail s ss h) (omega arith))
