-- One more segment under a number that none has.
use Rattle.vc_base.proofs.Common.{◌≡◌, ℕ, zero, suc, ◌+◌, ◌<◌, Bool, Option, Some, None, leb, true≢false, ◌≤◌, true, false, eqb, ltb, ◌≢◌, List, [], ◌∷◌, ◌++◌, map, length, IfOk, Ok, Err, All, Result, sym, refl, ap, ◌∙◌, subst, ⊎_elim, arith, ltb-true, lt-ltb, cases_Bool, eqb-false, or_parts, All-push, all_pairs_push, get_or-map, length-map, length-replicate, length_push, IsSegmentSize, Terms, Asked, Granted, TooMany, NotLent, ask, lowest_unused, new_segment, numbers}
use Rattle.vc_model.specs.Segments.{ask_by, ask_new, growing, size_limit}
use Rattle.vc_seg.specs.Lend.{IsGrantOf}
use Rattle.vc_seg.specs.Segment.{AreSegments, Bytes, IsRegionSegment, pair_of, zero_segment}
use Rattle.vc_seg.specs.declared.fault.RegionFault.{RegionFault}
use Rattle.vc_seg.proofs.Backs.{Apart}
use Rattle.vc_seg.proofs.Unused.{is_among, lowest_unused-unused}

unused-apart : (n : ℕ) (ss : List (ℕ × ℕ)) → is_among n (numbers ss) ≡ false → All (λ s. s.0 ≢ n) ss
unused-apart n [] h = λ k d lt. absurd (omega arith)
unused-apart n (s ∷ ss) h =
    let both = or_parts (eqb s.0 n) (is_among n (numbers ss)) h in
    λ k d lt. at both.0 (unused-apart n ss both.1) k d lt
  where
    at : eqb s.0 n ≡ false → All (λ t. t.0 ≢ n) ss → All (λ t. t.0 ≢ n) (s ∷ ss)
    at e rest zero d lt = eqb-false s.0 n e
    at e rest (suc k) d lt = rest k d (omega arith)

-- where none may be made longer, a new one is asked for
pub asked-new : (terms : Terms) (bytes : ℕ) (ss : List (ℕ × ℕ)) (refused : Bool) → growing terms ss ≡ None → ask terms bytes ss refused ≡ ask_new bytes ss refused
asked-new terms bytes ss refused none = ap (λ o. ask_by o bytes ss refused) none

-- what is lent under the least number that isn't used is what is granted
pub grant-of : (terms : Terms) (bytes n : ℕ) (ss : List (ℕ × ℕ)) → growing terms ss ≡ None → length ss < 1023 → n ≡ lowest_unused (numbers ss) → 1 ≤ n → n ≤ 1023 → (result : Result Bytes RegionFault) → IfOk result (λ s. s ≡ zero_segment n bytes) → IfOk result (IsGrantOf terms bytes ss)
grant-of terms bytes n ss none few is first last (Err e) h = tt
grant-of terms bytes n ss none few is first last (Ok s) h =
    let new : ask_new bytes ss false ≡ Granted (new_segment n bytes) = rw (lt-ltb (length ss) 1023 few) (ap (λ k. Granted (new_segment k bytes)) (sym is)) in
    subst (IsGrantOf terms bytes ss) (sym h)
    (record {
      granted = asked-new terms bytes ss false none ∙ new;
      zeros = refl;
      first = first;
      last = last;
      fresh = unused-apart n ss (ap (λ k. is_among k (numbers ss)) is ∙ lowest_unused-unused (numbers ss));
    })

-- a new segment is granted only to a region with less than 1,023
few-asked : (o : Option (ℕ × ℕ)) (bytes n : ℕ) (ss : List (ℕ × ℕ)) → ask_by o bytes ss false ≡ Granted (new_segment n bytes) → length ss < 1023
few-asked None bytes n ss h =
    ⊎_elim
    (λ (t : ltb (length ss) 1023 ≡ true). ltb-true (length ss) 1023 t)
    (λ (t : ltb (length ss) 1023 ≡ false). let none : TooMany ≡ Granted (new_segment n bytes) = rw t at h in absurd (cc))
    (cases_Bool (ltb (length ss) 1023))
few-asked (Some s) bytes n ss h =
    ⊎_elim
    (λ (t : leb (s.1 + bytes) size_limit ≡ true). let other : Granted (record { number = s.0; bytes = bytes; fresh = false }) ≡ Granted (new_segment n bytes) = rw t at h in absurd (true≢false (sym (ap fresh-of other))))
    (λ (t : leb (s.1 + bytes) size_limit ≡ false). let none : TooMany ≡ Granted (new_segment n bytes) = rw t at h in absurd (cc))
    (cases_Bool (leb (s.1 + bytes) size_limit))
  where
    fresh-of : Asked → Bool
    fresh-of (Granted g) = g.fresh
    fresh-of TooMany = false
    fresh-of NotLent = false

-- the segments of a region with one more
pub AreSegments-granted : (terms : Terms) (bytes : ℕ) (segs : List Bytes) (s : Bytes) → AreSegments segs → IsSegmentSize bytes → IsGrantOf terms bytes (map pair_of segs) s → AreSegments (segs ++ s ∷ [])
AreSegments-granted terms bytes segs s h size g =
    let few = few-asked (growing terms (map pair_of segs)) bytes s.number (map pair_of segs) g.granted in
    let pairs = length-map segs pair_of in
    let more = length_push segs s in
    let long : length s.bytes ≡ bytes = ap (λ (t : Bytes). length t.bytes) g.zeros ∙ length-replicate {A = ℕ} bytes 0 in
    record {
      few = omega arith;
      legal = All-push IsRegionSegment segs s h.legal (record { first = g.first; last = g.last; size = subst IsSegmentSize (sym long) size });
      distinct =
          all_pairs_push Apart segs s h.distinct
          (λ k d lt e. g.fresh k (pair_of d) (omega (arith, lt, length-map segs pair_of)) (ap (λ (p : ℕ × ℕ). p.0) (get_or-map pair_of segs k d (pair_of d) lt) ∙ e));
    }
