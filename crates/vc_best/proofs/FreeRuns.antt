-- What is true of each free run.
use Rattle.vc_base.proofs.Common.{◌≡◌, ℕ, ◌+◌, ◌-◌, ◌%◌, ◌<◌, ◌≤◌, true, false, not, List, [], ◌∷◌, length, get_or, Some, None, All, filter, sym, refl, ap, ◌∙◌, arith, ltb-false, eq-eqb, ne_eqb, le_prop, ∥∥₁_elim, ℕ_set, All-cons, All-filter, All-map, All-nil, All-weaker, filter_passes, address, place_of, Run, holds, least}
use Rattle.vc_best.proofs.Common.{AreExtents, Bytes, Extent, IsFree, extent_in, extent_of, extents, extents_of, free_in, free_runs, is_busy, is_free, run_of_extent, tiling}
use Rattle.vc_seg.proofs.Blocks.{place_of-address}
use Rattle.vc_best.proofs.Along.{own-from}
use Rattle.vc_best.proofs.Gaps.{All-flat_map, least-from}
use Rattle.vc_best.proofs.Lies.{Lies, lies-tiled}

-- an extent among those of a segment is the one that its offset names
record IsOwn (stop at : ℕ) (es : List Extent) (e : Extent) : Type 0 where
  pub is : extent_in e.off es ≡ e
  pub low : at + 16 ≤ e.off
  pub end : e.off + e.span ≤ stop + 16
  pub least : 32 ≤ e.span
  pub multiple : e.off % 32 ≡ 0

own : (stop at : ℕ) (es : List Extent) → at % 32 ≡ 16 → Lies stop at es → All (IsOwn stop at es) es
own stop at [] m h = All-nil (IsOwn stop at [])
own stop at (e ∷ es) m h =
    let o = h.0.off in
    let w = h.0.within in
    let least = h.0.legal.least in
    let multiple = h.0.legal.multiple in
    All-cons (IsOwn stop at (e ∷ es)) e es
    (record { is = rw (eq-eqb e.off e.off refl) refl; low = omega arith; end = omega arith; least = least; multiple = omega arith })
    (All-weaker (IsOwn stop (at + e.span) es) (IsOwn stop at (e ∷ es))
    (λ x q.
    let low = q.low in
    record { is = rw (ne_eqb e.off x.off (λ r. omega arith)) q.is; low = omega arith; end = q.end; least = q.least; multiple = q.multiple })
    es (own stop (at + e.span) es (omega arith) h.1))

-- a run is that of a free extent
pub record IsGap (t : List (ℕ × List Extent)) (g : Run) : Type 0 where
  pub first : 1 ≤ g.seg
  pub last : g.seg ≤ 1023
  pub multiple : (g.from + 16) % 32 ≡ 0
  pub low : 16 ≤ g.from
  pub below : g.from + 16 < 33554432
  pub free : IsFree t (address (g.seg, g.from + 16))
  pub span : g.from + (extent_of t (address (g.seg, g.from + 16))).span ≡ g.to

gap-prop : (t : List (ℕ × List Extent)) (g : Run) → IsProp (IsGap t g)
gap-prop t g = hlevel (le_prop, ℕ_set)

gap-of : (t : List (ℕ × List Extent)) (n stop : ℕ) (es : List Extent) (e : Extent) → 1 ≤ n → n ≤ 1023 → stop + 16 ≤ 33554432 → extents_of n t ≡ es → IsOwn stop 16 es e → is_free e ≡ true → IsGap t (run_of_extent n e)
gap-of t n stop es e first last most is o free =
    let low = o.low in
    let end = o.end in
    let least = o.least in
    let multiple = o.multiple in
    let back : e.off - 16 + 16 ≡ e.off = omega arith in
    let place : place_of (address (n, e.off)) ≡ (n, e.off) = place_of-address n e.off (omega arith) multiple in
    let extent : extent_of t (address (n, e.off - 16 + 16)) ≡ e =
    ap (λ (k : ℕ). extent_of t (address (n, k))) back ∙ (ap (λ (p : ℕ × ℕ). extent_in p.1 (extents_of p.0 t)) place ∙ (ap (extent_in e.off) is ∙ o.is)) in
    let no : is_busy e ≡ false = elim (is_busy e) as (λ v. not v ≡ true → v ≡ false) [ true ↦ λ q. sym q | false ↦ λ q. refl ] free in
    let none : e.size ≡ 0 = let z = ltb-false 0 e.size no in omega arith in
    record {
      first = first;
      last = last;
      multiple = rw back multiple;
      low = omega arith;
      below = omega arith;
      free = record { named = rw (ap (λ (x : Extent). x.span) extent) (omega arith); free = ap (λ (x : Extent). x.size) extent ∙ none };
      span = ap (λ (x : Extent). e.off - 16 + x.span) extent;
    }

pub all-gaps : (segs : List Bytes) (index : List ℕ) → AreExtents segs index → All (IsGap (tiling segs)) (free_runs (tiling segs))
all-gaps segs index k =
    let t = tiling segs in
    All-flat_map (IsGap t) free_in t
    (All-map (λ (s : ℕ × List Extent). All (IsGap t) (free_in s)) (λ (s : Bytes). (s.number, extents s.bytes)) segs
    (λ i d lt.
    let s : Bytes = get_or segs i d in
    let legal = k.segments.legal i d lt in
    let tiled = k.tiled i d lt in
    let most = tiled.size.most in
    let least = tiled.size.least in
    let es = extents s.bytes in
    let stop : ℕ = length s.bytes - 16 in
    let all : All (IsOwn stop 16 es) es = own stop 16 es refl (lies-tiled s.bytes tiled) in
    All-map (IsGap t) (run_of_extent s.number) (filter is_free es)
    (λ j e within.
    gap-of t s.number stop es (get_or (filter is_free es) j e) legal.first legal.last (omega arith) (own-from segs i d k.segments.distinct lt)
    (All-filter is_free (IsOwn stop 16 es) es all j e within)
    (filter_passes is_free es j e within))))

-- so of the least that holds a block
module _ (segs : List Bytes) (index : List ℕ) (span align : ℕ) (g : Run) (k : ∥ AreExtents segs index ∥₁) (e : least (filter (holds span align) (free_runs (tiling segs))) ≡ Some g) where
  pub gap-is : IsGap (tiling segs) g
  gap-is =
      ∥∥₁_elim k (gap-prop (tiling segs) g)
      (λ h.
      least-from (IsGap (tiling segs)) None (filter (holds span align) (free_runs (tiling segs))) g (λ c q. absurd (cc)) (All-filter (holds span align) (IsGap (tiling segs)) (free_runs (tiling segs)) (all-gaps segs index h)) e)

  pub gap-holds : holds span align g ≡ true
  gap-holds =
      least-from (λ x. holds span align x ≡ true) None (filter (holds span align) (free_runs (tiling segs))) g (λ c q. absurd (cc)) (filter_passes (holds span align) (free_runs (tiling segs))) e
