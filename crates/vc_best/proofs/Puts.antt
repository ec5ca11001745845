-- A block of zeros in the least free run that holds it.
use Rattle.vc_base.proofs.Common.{◌≡◌, ℕ, ◌+◌, ◌%◌, ◌≤◌, false, List, map, Some, All, filter, option_map, sym, ap, ◌∙◌, subst, arith, leb-true, ∥∥₁_elim, address, place_of, place_in, zeros, Run, Block, Layout, is_at, holds, least, lowest_offset, round_up, span}
use Rattle.vc_best.proofs.Common.{AreAllowed, AreExtents, Bytes, CanPutBlock, IsFree, IsLeastHolding, IsLeastOut, IsMerged, IsPutInGap, behind_of, carve, change_extent, extent_of, free_runs, layout_by, pair_of, run_at, tiling}
use Rattle.vc_base.proofs.Places.{span-least}
use Rattle.vc_seg.proofs.Rounding.{round_up-least, round_up-mod_32}
use Rattle.vc_seg.specs.Put.{with_zeros}
use Rattle.vc_seg.proofs.Blocks.{All-with, place_of-address}
use Rattle.vc_best.proofs.Bests.{best-address, best-free, best-from, least-by}
use Rattle.vc_best.proofs.ZeroBlocks.{carve-busy, merged-carved}
use Rattle.vc_best.proofs.FreeRuns.{IsGap, gap-holds, gap-is}
use Rattle.vc_best.proofs.Frees.{gaps-of}
use Rattle.vc_best.proofs.Held.{AreMost}
use Rattle.vc_best.proofs.HaveHeads.{AreApart}
use Rattle.vc_best.proofs.HeldHeads.{held-heads}
use Rattle.vc_best.proofs.Known.{cut-of}
use Rattle.vc_best.proofs.Layouts.{layout-put}
use Rattle.vc_best.proofs.Rounding.{IsAligned, IsAligned-from_IsAlign}
use Rattle.vc_best.proofs.Sets.{merged-prop}
use Rattle.vc_best.proofs.Stands.{alone, none-at}
use Rattle.vc_best.proofs.Walks.{named-end}

-- the lowest place in a run
abbrev pub place_at : ℕ → Run → ℕ × ℕ
place_at align g = (g.seg, lowest_offset align g)

pub place-runs : (segs : List Bytes) (index : List ℕ) (size align : ℕ) → ∥ AreExtents segs index ∥₁ → IsMerged (tiling segs) →
    place_in (layout_by segs) size align ≡ option_map (place_at align) (least (filter (holds (span size) align) (free_runs (tiling segs))))
place-runs segs index size align k m = ap (λ (gs : List Run). option_map (place_at align) (least (filter (holds (span size) align) gs))) (gaps-of segs index k m)

-- a block of zeros in a free extent
module _ (old new : List Bytes) (i j : List ℕ) (k : ∥ AreExtents old i ∥₁) (l : ∥ AreExtents new j ∥₁) (a off size tag : ℕ) (free : IsFree (tiling old) a) (some : 1 ≤ size)
    (changed : tiling new ≡ change_extent a (carve off size tag) (tiling old)) where
  pub carved-layout : map pair_of new ≡ map pair_of old → layout_by new ≡ with_zeros (layout_by old) tag size ((place_of a).0, off)
  carved-layout pairs =
      layout-put old new i j k l a (carve off size tag) free.named changed pairs (zeros tag size ((place_of a).0, off)) free.free
      (carve-busy (place_of a).0 off size tag (extent_of (tiling old) a) (behind_of (tiling old) a) some)

  pub carved-merged : IsMerged (tiling old) → IsMerged (tiling new)
  carved-merged m =
      subst IsMerged (sym changed)
      (∥∥₁_elim k (merged-prop _) (λ h. merged-carved (tiling old) a off size tag (cut-of old i a h free.named) free some m))

-- the least free extent that holds such a block, in the tree of gaps or out of it
pub record IsLeastGap (segs : List Bytes) (size align a : ℕ) : Type 0 where
  pub allowed : AreAllowed size align
  pub least : IsLeastHolding (tiling segs) size align a
  pub merged : IsMerged (tiling segs)
  pub sizes : AreMost (layout_by segs).blocks

pub least-out : {segs : List Bytes} {root size align a : ℕ} → IsLeastOut segs root size align a → IsLeastGap segs size align a
least-out o = record { allowed = o.allowed; least = o.least; merged = o.merged; sizes = o.sizes }

-- a block of zeros in the least free extent that holds it, at the lowest offset that the alignment divides
module _ (old : List Bytes) (i : List ℕ) (k : ∥ AreExtents old i ∥₁) (size align tag a off : ℕ) (out : IsLeastGap old size align a) (low : off ≡ round_up (place_of a).1 align) where
  abbrev run : Run
  run = run_at (tiling old) a

  aligned : IsAligned align
  aligned = IsAligned-from_IsAlign align out.allowed.aligned

  is : least (filter (holds (span size) align) (free_runs (tiling old))) ≡ Some run
  is = least-by (tiling old) (span size) align (Some run) out.least

  lowest : off ≡ lowest_offset align run
  lowest = low ∙ ap (λ (n : ℕ). round_up n align) (sym (best-from old i k (span size) align a out.least))

  own-place : place_in (layout_by old) size align ≡ Some ((place_of a).0, off)
  own-place = place-runs old i size align k out.merged ∙ (ap (option_map (place_at align)) is ∙ ap (λ (n : ℕ). Some ((place_of a).0, n)) (sym lowest))

  pub can_put : CanPutBlock (tiling old) a off size
  can_put =
      let gap : IsGap (tiling old) run = gap-is old i (span size) align run k is in
      let h : lowest_offset align run + span size ≤ run.to + 16 = leb-true (lowest_offset align run + span size) (run.to + 16) (gap-holds old i (span size) align run k is) in
      let s : run.from + (extent_of (tiling old) a).span ≡ run.to = ap (λ (n : ℕ). run.from + (extent_of (tiling old) n).span) (best-address old i k (span size) align a out.least) ∙ gap.span in
      let l = lowest in
      let f = best-from old i k (span size) align a out.least in
      let least = aligned.least in
      let up : (place_of a).1 ≤ round_up (place_of a).1 align = round_up-least (place_of a).1 align (omega (arith, least)) in
      record {
        free = best-free old i k (span size) align a out.least;
        sized = out.allowed.sized;
        first = omega (arith, up, low);
        multiple = subst (λ (n : ℕ). n % 32 ≡ 0) (sym low) (round_up-mod_32 (place_of a).1 align aligned.multiple);
        fits = omega (arith, h, s, l, f);
      }

  module _ (new : List Bytes) (j : List ℕ) (l : ∥ AreExtents new j ∥₁) (to : ℕ) (answer : to ≡ address ((place_of a).0, off)) (put : layout_by new ≡ with_zeros (layout_by old) tag size ((place_of a).0, off)) where
    to-place : place_of to ≡ ((place_of a).0, off)
    to-place =
        let most = named-end old i a k can_put.free.named in
        let fits = can_put.fits in
        let some = span-least size in
        ap place_of answer ∙ place_of-address (place_of a).0 off (omega (arith, most, fits, some)) can_put.multiple

    pub put-most : AreMost (layout_by new).blocks
    put-most = subst (λ (r : Layout ℕ). AreMost r.blocks) (sym put) (All-with (λ (b : Block ℕ). b.size ≤ 16777264) (zeros tag size ((place_of a).0, off)) (layout_by old).blocks out.allowed.sized.most out.sizes)

    pub put-in_gap : IsPutInGap (layout_by old) (layout_by new) tag size align to
    put-in_gap = record {
      place = own-place ∙ ap (λ (p : ℕ × ℕ). Some p) (sym to-place);
      layout = put ∙ ap (with_zeros (layout_by old) tag size) (sym to-place);
      fresh =
          none-at (layout_by old) to (held-heads old i k out.sizes)
          (subst (λ (p : ℕ × ℕ). All (λ b. is_at p b ≡ false) (layout_by old).blocks) (sym to-place)
          (alone (zeros tag size ((place_of a).0, off)) (layout_by old).blocks (subst (λ (r : Layout ℕ). AreApart r.blocks) put (held-heads new j l put-most).apart)));
    }
