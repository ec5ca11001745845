-- Blocks stay where the segment lent latest gets more bytes.
use Rattle.vc_base.proofs.Common.{◌≡◌, ℕ, ◌+◌, ◌-◌, ◌*◌, ◌/◌, ◌<◌, ◌≤◌, cond, eqb, List, [], ◌∷◌, ◌++◌, map, length, get_or, replicate, take, sym, refl, ap, ◌∙◌, subst, ⊎_elim, append-nil, arith, eq-eqb, ne_eqb, cases_eq, All-push, all_pairs_push, length-append, length-replicate, length_push, take-append-le, IsSegmentSize, Block, address_of}
use Rattle.vc_base.proofs.Places.{span-least}
use Rattle.vc_model.specs.Segments.{with_more}
use Rattle.vc_seg.specs.Segment.{AreSegments, Bytes, IsRegionSegment, grown_segment, pair_of}
use Rattle.vc_seg.specs.Memory.{bytes_of_number}
use Rattle.vc_seg.proofs.Backs.{Apart}
use Rattle.vc_seg.proofs.Frames.{field-front, part-front}
use Rattle.vc_extent.specs.Tiling.{index_from}
use Rattle.vc_last.specs.Head.{HasHead, before_of}
use Rattle.vc_last.specs.Chain.{IsChain, IsLastOf, rank}
use Rattle.vc_last.specs.Granted.{with_zeros}
use Rattle.vc_last.proofs.Lists.{All-front, All-last, AllPairs-front, AllPairs-last}
use Rattle.vc_last.proofs.Writes.{head-kept}

-- by the last one
pub with_zeros-push : (more : ℕ) (front : List Bytes) (s : Bytes) → with_zeros more (front ++ s ∷ []) ≡ front ++ grown_segment more s ∷ []
with_zeros-push more [] s = refl
with_zeros-push more (x ∷ []) s = refl
with_zeros-push more (x ∷ y ∷ ys) s = ap (λ (zs : List Bytes). x ∷ zs) (with_zeros-push more (y ∷ ys) s)

pub grown-length : (more : ℕ) (s : Bytes) → length (grown_segment more s).bytes ≡ length s.bytes + more
grown-length more s = length-append s.bytes (replicate more 0) ∙ ap (λ k. length s.bytes + k) (length-replicate {A = ℕ} more 0)

-- as number and size
pub pairs-zeros : (more : ℕ) (segs : List Bytes) → map pair_of (with_zeros more segs) ≡ with_more more (map pair_of segs)
pairs-zeros more [] = refl
pairs-zeros more (s ∷ []) = ap (λ (k : ℕ). let p : ℕ × ℕ = (s.number, k) in p ∷ []) (grown-length more s)
pairs-zeros more (s ∷ t ∷ ss) = ap (λ (ps : List (ℕ × ℕ)). pair_of s ∷ ps) (pairs-zeros more (t ∷ ss))

-- the segment of each number has its bytes, and zeros behind them or none
bytes-zeros : (more n : ℕ) (segs : List Bytes) → (k : ℕ) × (bytes_of_number n (with_zeros more segs) ≡ bytes_of_number n segs ++ replicate k 0)
bytes-zeros more n [] = (0, refl)
bytes-zeros more n (s ∷ []) =
    ⊎_elim
    (λ (e : s.number ≡ n). (more, rw (eq-eqb s.number n e) refl))
    (λ (e : s.number ≡ n → ⊥). (0, rw (ne_eqb s.number n e) refl))
    (cases_eq s.number n)
bytes-zeros more n (s ∷ t ∷ ss) =
    let rest = bytes-zeros more n (t ∷ ss) in
    ⊎_elim
    (λ (e : s.number ≡ n). (0, rw (eq-eqb s.number n e) (sym (append-nil s.bytes))))
    (λ (e : s.number ≡ n → ⊥). (rest.0, rw (ne_eqb s.number n e) rest.1))
    (cases_eq s.number n)

-- and its place
index-zeros : (more k n : ℕ) (segs : List Bytes) → index_from k n (with_zeros more segs) ≡ index_from k n segs
index-zeros more k n [] = refl
index-zeros more k n (s ∷ []) = refl
index-zeros more k n (s ∷ t ∷ ss) = ap (cond (eqb s.number n) (k + 1)) (index-zeros more (k + 1) n (t ∷ ss))

-- a block and its head lie in the bytes that stay
head-zeros : (more : ℕ) (o : List Bytes) (b : Block ℕ) → HasHead o b → HasHead (with_zeros more o) b × (before_of (with_zeros more o) (address_of b) ≡ before_of o (address_of b))
head-zeros more o b l =
    let s : List Bytes = with_zeros more o in
    let x : List ℕ = bytes_of_number b.seg o in
    let y : List ℕ = bytes_of_number b.seg s in
    let z = bytes-zeros more b.seg o in
    let same : take (length x) y ≡ take (length x) x = ap (take (length x)) z.1 ∙ take-append-le (length x) x (replicate z.0 0) (omega arith) in
    let end : b.off + b.size ≤ length x = omega (arith, l.within, span-least b.size) in
    let long : length x ≤ length y = omega (arith, ap length z.1, length-append x (replicate z.0 0)) in
    head-kept o s b l long
    (record {
      size = field-front x y (length x) same (b.off - 16) (omega (arith, end, l.first));
      label = field-front x y (length x) same (b.off - 12) (omega (arith, end, l.first));
      before = field-front x y (length x) same (b.off - 8) (omega (arith, end, l.first));
      zero = field-front x y (length x) same (b.off - 4) (omega (arith, end, l.first));
      bytes = part-front x y (length x) same b.off b.size end;
    })

chain-zeros : (more : ℕ) (o : List Bytes) (p q : ℕ) (bs : List (Block ℕ)) → IsChain o p bs q → IsChain (with_zeros more o) p bs q
chain-zeros more o p q [] c = c
chain-zeros more o p q (b ∷ bs) c = let here = head-zeros more o b c.0 in (here.0, here.1 ∙ c.1, chain-zeros more o (address_of b) q bs c.2)

pub last-zeros : (more : ℕ) (o : List Bytes) (q : ℕ) (bs : List (Block ℕ)) → AreSegments (with_zeros more o) → IsLastOf o q bs → IsLastOf (with_zeros more o) q bs
last-zeros more o q bs legal h =
    let s : List Bytes = with_zeros more o in
    let same : (b : Block ℕ) → rank s b ≡ rank o b = λ b. ap (λ k. k * 1048576 + b.off / 32) (index-zeros more 0 b.seg o) in
    record {
      segments = legal;
      chain = chain-zeros more o 0 q bs h.chain;
      ordered = h.ordered;
      rising = λ i j d lt within.
          let low : rank o (get_or bs i d) < rank o (get_or bs j d) = h.rising i j d lt within in
          omega (arith, low, same (get_or bs i d), same (get_or bs j d));
    }

-- they are a region's still, where the size of the last one is legal
pub AreSegments-zeros : (more : ℕ) (front : List Bytes) (s : Bytes) → AreSegments (front ++ s ∷ []) → IsSegmentSize (length s.bytes + more) → AreSegments (front ++ grown_segment more s ∷ [])
AreSegments-zeros more front s h size =
    let last : IsRegionSegment s = All-last IsRegionSegment front s h.legal in
    record {
      few = omega (arith, h.few, length_push front s, length_push front (grown_segment more s));
      legal = All-push IsRegionSegment front (grown_segment more s) (All-front IsRegionSegment front s h.legal)
          (record { first = last.first; last = last.last; size = subst IsSegmentSize (sym (grown-length more s)) size });
      distinct = all_pairs_push Apart front (grown_segment more s) (AllPairs-front Apart front s h.distinct) (λ k d lt. AllPairs-last Apart front s h.distinct k d lt);
    }
