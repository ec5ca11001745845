-- Tiled segments have blocks with heads.
use Rattle.vc_base.proofs.Common.{◌≡◌, ℕ, suc, ◌+◌, ◌-◌, ◌%◌, ◌<◌, ◌≤◌, true, false, ltb, ◌≢◌, List, [], ◌∷◌, map, length, get_or, All, filter, AllPairs, sym, refl, ◌∙◌, inl, inr, ⊎_elim, arith, ltb-true, ∥∥₁_elim, cases_Bool, All-append, All-filter, All-head, All-map, All-nil, All-tail, All-weaker, filter_passes, AllPairs-cons, IsSegmentSize, Block, footprint, span, HasWholeBlocks, HaveOwnNumbers, IsApart, IsSound, IsUsable}
use Rattle.vc_best.proofs.Common.{AreExtents, AreSegments, Bytes, Extent, IsRegionSegment, IsTiled, all_busy, block_of, busy_in, extents, in_order, is_busy, layout_by, pair_of, tiling}
use Rattle.vc_model.proofs.Pairs.{AllPairs-head, AllPairs-tail}
use Rattle.vc_seg.proofs.Lists.{AllPairs-append, AllPairs-map, AllPairs-nil}
use Rattle.vc_seg.proofs.Blocks.{apart_by_seg}
use Rattle.vc_seg.proofs.InOrder.{All-in_order}
use Rattle.vc_best.proofs.HaveHeads.{HaveHeads}
use Rattle.vc_best.proofs.Heads.{IsSound-heads}
use Rattle.vc_best.proofs.Layouts.{busy-seg}
use Rattle.vc_best.proofs.Lies.{Differ, Ends, IsWithin, Lies, Tiled, lies-behind, lies-tiled, lies-within}
use Rattle.vc_best.proofs.Apart.{order-before}

-- the blocks of a segment, and those of all
pub All-busy_in : (P : Block ℕ → Type 0) (n : ℕ) (es : List Extent) → All (λ e. 0 < e.size → P (block_of n e)) es → All P (busy_in (n, es))
All-busy_in P n es h =
    All-map P (block_of n) (filter is_busy es)
    (λ k d lt. All-filter is_busy (λ e. 0 < e.size → P (block_of n e)) es h k d lt (ltb-true 0 (get_or (filter is_busy es) k d).size (filter_passes is_busy es k d lt)))

pub All-all_busy : (P : Block ℕ → Type 0) (t : List (ℕ × List Extent)) → All (λ s. All P (busy_in s)) t → All P (all_busy t)
All-all_busy P [] h = All-nil P
All-all_busy P (s ∷ ss) h =
    let Q : ℕ × List Extent → Type 0 = λ x. All P (busy_in x) in
    All-append P (busy_in s) (all_busy ss) (All-head Q s ss h) (All-all_busy P ss (All-tail Q s ss h))

-- blocks of one segment don't overlap
abbrev pub Apart : Block ℕ → Block ℕ → Type 0
Apart a b = IsApart (footprint a) (footprint b)

busy-apart : (n stop at : ℕ) (es : List Extent) → (at + 16) % 32 ≡ 0 → Lies stop at es → AllPairs Apart (busy_in (n, es))
busy-apart n stop at [] m h = AllPairs-nil Apart
busy-apart n stop at (e ∷ es) m h =
    let legal = h.0.legal in
    let multiple = legal.multiple in
    let rest : AllPairs Apart (busy_in (n, es)) = busy-apart n stop (at + e.span) es (omega (arith, m, multiple)) h.1 in
    ⊎_elim
    (λ (t : ltb 0 e.size ≡ true).
    let spans : e.span ≡ span e.size = legal.busy (ltb-true 0 e.size t) in
    rw t
    (AllPairs-cons Apart (block_of n e) (busy_in (n, es))
    (All-busy_in (Apart (block_of n e)) n es
    (All-weaker (Ends e) (λ x. 0 < x.size → Apart (block_of n e) (block_of n x)) (λ x ends some. inl (inr (refl, omega (arith, ends, spans)))) es (lies-behind stop at e es m h)))
    rest))
    (λ (t : ltb 0 e.size ≡ false). rw t rest)
    (cases_Bool (ltb 0 e.size))

-- a block of another segment doesn't
pub other-seg : (s : Bytes) (ss : List Bytes) → All (λ b. s.number ≢ b.number) ss → All (λ c. s.number ≢ c.seg) (all_busy (tiling ss))
other-seg s ss h =
    All-all_busy (λ c. s.number ≢ c.seg) (tiling ss)
    (All-map (λ (x : ℕ × List Extent). All (λ c. s.number ≢ c.seg) (busy_in x)) (λ (x : Bytes). (x.number, extents x.bytes)) ss
    (All-weaker (λ (b : Bytes). s.number ≢ b.number) (λ (b : Bytes). All (λ c. s.number ≢ c.seg) (busy_in (b.number, extents b.bytes)))
    (λ b other. All-weaker (λ c. c.seg ≡ b.number) (λ c. s.number ≢ c.seg) (λ c is same. other (same ∙ is)) (busy_in (b.number, extents b.bytes)) (busy-seg b.number (extents b.bytes))) ss h))

pub all-apart : (segs : List Bytes) → AllPairs Differ segs → All Tiled segs → AllPairs Apart (all_busy (tiling segs))
all-apart [] distinct tiled = AllPairs-nil Apart
all-apart (s ∷ ss) distinct tiled =
    let others = other-seg s ss (AllPairs-head Differ s ss distinct) in
    AllPairs-append Apart (busy_in (s.number, extents s.bytes)) (all_busy (tiling ss))
    (busy-apart s.number (length s.bytes - 16) 16 (extents s.bytes) refl (lies-tiled s.bytes (All-head Tiled s ss tiled)))
    (all-apart ss (AllPairs-tail Differ s ss distinct) (All-tail Tiled s ss tiled))
    (All-weaker (λ c. c.seg ≡ s.number) (λ c. All (Apart c) (all_busy (tiling ss)))
    (λ c is. All-weaker (λ d. s.number ≢ d.seg) (Apart c) (λ d other. apart_by_seg (footprint c) (footprint d) (λ same. other (sym is ∙ same))) (all_busy (tiling ss)) others)
    (busy_in (s.number, extents s.bytes)) (busy-seg s.number (extents s.bytes)))

-- what a block's segment says of it
pub record Lodged (segs : List Bytes) (b : Block ℕ) : Type 0 where
  pub first : 1 ≤ b.seg
  pub last : b.seg ≤ 1023
  pub off : 32 ≤ b.off
  pub below : b.off < 33554432
  pub multiple : b.off % 32 ≡ 0
  pub some : 1 ≤ b.size
  pub bytes : length b.bytes ≡ b.size
  pub usable : IsUsable (map pair_of segs) (footprint b)

usable-there : (p : ℕ × ℕ) (ps : List (ℕ × ℕ)) (b : Block ℕ) → IsUsable ps (footprint b) → IsUsable (p ∷ ps) (footprint b)
usable-there p ps b h = (suc h.0, h.1, omega (arith, h.2), h.3, h.4)

lodged-there : (s : Bytes) (ss : List Bytes) (b : Block ℕ) → Lodged ss b → Lodged (s ∷ ss) b
lodged-there s ss b h = record {
  first = h.first;
  last = h.last;
  off = h.off;
  below = h.below;
  multiple = h.multiple;
  some = h.some;
  bytes = h.bytes;
  usable = usable-there (pair_of s) (map pair_of ss) b h.usable;
}

lodged-here : (s : Bytes) (ss : List Bytes) → IsRegionSegment s → IsTiled s.bytes → All (Lodged (s ∷ ss)) (busy_in (s.number, extents s.bytes))
lodged-here s ss legal tiled =
    let stop : ℕ = length s.bytes - 16 in
    let size = legal.size in
    let least = size.least in
    let most = size.most in
    All-busy_in (Lodged (s ∷ ss)) s.number (extents s.bytes)
    (All-weaker (IsWithin stop 16) (λ e. 0 < e.size → Lodged (s ∷ ss) (block_of s.number e))
    (λ e w some.
    let spans : e.span ≡ span e.size = w.legal.busy some in
    let from = w.from in
    let to = w.to in
    let wide = w.legal.least in
    record {
      first = legal.first;
      last = legal.last;
      off = from;
      below = omega arith;
      multiple = w.multiple;
      some = some;
      bytes = w.bytes;
      usable = (0, pair_of s, omega arith, refl, (refl, omega arith, omega (arith, spans)));
    })
    (extents s.bytes) (lies-within stop 16 (extents s.bytes) refl (lies-tiled s.bytes tiled)))

pub all-lodged : (segs : List Bytes) → All IsRegionSegment segs → All Tiled segs → All (Lodged segs) (all_busy (tiling segs))
all-lodged [] legal tiled = All-nil (Lodged [])
all-lodged (s ∷ ss) legal tiled =
    All-append (Lodged (s ∷ ss)) (busy_in (s.number, extents s.bytes)) (all_busy (tiling ss))
    (lodged-here s ss (All-head IsRegionSegment s ss legal) (All-head Tiled s ss tiled))
    (All-weaker (Lodged ss) (Lodged (s ∷ ss)) (lodged-there s ss) (all_busy (tiling ss))
    (all-lodged ss (All-tail IsRegionSegment s ss legal) (All-tail Tiled s ss tiled)))

own-numbers : (segs : List Bytes) → AreSegments segs → HaveOwnNumbers (map pair_of segs)
own-numbers segs h = record {
  first = All-map (λ (s : ℕ × ℕ). 1 ≤ s.0) pair_of segs (λ k d lt. (h.legal k d lt).first);
  distinct = AllPairs-map (λ (s t : ℕ × ℕ). s.0 ≢ t.0) pair_of segs h.distinct;
}

module _ (segs : List Bytes) (index : List ℕ) where
  lodged : AreExtents segs index → All (Lodged segs) (in_order (all_busy (tiling segs)))
  lodged k = All-in_order (Lodged segs) (all_busy (tiling segs)) (all-lodged segs k.segments.legal k.tiled)

  pub heads-of : AreExtents segs index → All (λ b. b.size ≤ 16777264) (layout_by segs).blocks → HaveHeads (layout_by segs)
  unfolding layout_by
  heads-of k most =
      let each = lodged k in
      record {
        blocks = λ i d lt.
            let l = each i d lt in
            record { slot = record { first = l.off; last = l.below; multiple = l.multiple; some = l.some; most = most i d lt }; usable = l.usable };
        apart = order-before (all_busy (tiling segs)) (λ i d lt. (all-lodged segs k.segments.legal k.tiled i d lt).off) (all-apart segs k.segments.distinct k.tiled);
        sizes = All-map (λ (s : ℕ × ℕ). IsSegmentSize s.1) pair_of segs (λ i d lt. (k.segments.legal i d lt).size);
        numbered = own-numbers segs k.segments;
      }

  pub sound-of : ∥ AreExtents segs index ∥₁ → All (λ b. b.size ≤ 16777264) (layout_by segs).blocks → ∥ IsSound (layout_by segs) ∥₁
  sound-of k most = ∥∥₁_elim k (hlevel) (λ h. ∣ IsSound-heads (layout_by segs) (heads-of h most) ∣₁)

  pub whole-of : ∥ AreExtents segs index ∥₁ → All (λ b. b.size ≤ 16777264) (layout_by segs).blocks → ∥ HasWholeBlocks (layout_by segs) ∥₁
  unfolding layout_by
  whole-of k most =
      ∥∥₁_elim k (hlevel) (λ h.
      let each = lodged h in
      ∣ record {
        bytes = λ i d lt. (each i d lt).bytes;
        most = most;
        fits = λ i d lt. let l = each i d lt in omega (arith, l.last, l.below);
        short = All-map (λ (s : ℕ × ℕ). s.1 ≤ 33554432) pair_of segs (λ i d lt. (h.segments.legal i d lt).size.most);
      } ∣₁)
