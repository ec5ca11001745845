-- Bytes that are put into a block of a best region.
use Rattle.vc_base.proofs.Common.{◌≡◌, ℕ, List, [], map, length, sym, refl, ap, ◌∙◌, subst, ∥∥₁_elim, place_of, with_bytes, Layout, without_block, HasWholeBlocks, HasBlock}
use Rattle.vc_best.proofs.Common.{AreExtents, Bytes, Extent, HasGaps, IsBusy, IsMerged, busy_extent, change_extent, extent_of, layout_by, pair_of, tiling, write}
use Rattle.vc_seg.specs.OneBlock.{IsBlockWritten}
use Rattle.vc_best.proofs.BlockCounts.{written-count}
use Rattle.vc_best.proofs.Found.{busy-of}
use Rattle.vc_best.proofs.Held.{AreHeld, held, layout-written, merged-of, most-of, most-written, tree-of}
use Rattle.vc_best.proofs.Known.{cut-of}
use Rattle.vc_best.proofs.Linking.{gaps-changed}
use Rattle.vc_best.proofs.Merges.{merged-one}
use Rattle.vc_seg.proofs.Resizes.{others-written}
use Rattle.vc_best.proofs.Outs.{gaps-written}
use Rattle.vc_best.proofs.Sets.{merged-prop}

module _ (old new : List Bytes) (i j : List ℕ) (k : ∥ AreExtents old i ∥₁) (l : ∥ AreExtents new j ∥₁) (a off : ℕ) (src : List ℕ) (live : HasBlock (layout_by old).blocks a) (is : tiling new ≡ change_extent a (write off src) (tiling old)) (pairs : map pair_of new ≡ map pair_of old) where
  busy : IsBusy (tiling old) a
  busy = busy-of old i a k live

  pub written : IsBlockWritten a off src (layout_by old) (layout_by new)
  written =
      let layout = layout-written old new i j a off src k l busy is pairs in
      record { layout = layout; others = ap (λ (r : Layout ℕ). without_block (place_of a) r.blocks) layout ∙ others-written off src (place_of a) (layout_by old).blocks }

  pub written-held : ∥ IsMerged (tiling old) ∥₁ → ∥ HasWholeBlocks (layout_by old) ∥₁ → AreHeld new
  written-held m w =
      let e : Extent = extent_of (tiling old) a in
      held new j l (most-written (layout_by old) (layout_by new) (place_of a) off src written.layout (most-of (layout_by old) w))
      (subst IsMerged (sym is) (∥∥₁_elim k (merged-prop _) (λ h. merged-one (tiling old) a (write off src) (busy_extent e.off e.span e.size e.tag (with_bytes off src e.body)) (cut-of old i a h busy.named) refl refl (merged-of (tiling old) m))))

  pub written-gaps : (root : ℕ) → ∥ HasGaps (tiling old) root [] ∥₁ → ∥ HasGaps (tiling new) root [] ∥₁
  written-gaps root h = ∣ gaps-changed (tiling old) (tiling new) root [] [] (gaps-written (tiling old) (tiling new) a off src is busy) (tree-of old i root k h) ∣₁

  pub written-counted : (n : ℕ) → n ≡ length (layout_by old).blocks → n ≡ length (layout_by new).blocks
  written-counted n all = all ∙ sym (written-count (layout_by old) (layout_by new) (place_of a) off src written.layout)
