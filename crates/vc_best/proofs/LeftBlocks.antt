-- What is left of the blocks where one is freed.
use Rattle.vc_base.proofs.Common.{◌≡◌, ℕ, List, map, refl, place_of, without_block_at}
use Rattle.vc_best.proofs.Common.{AreExtents, Bytes, IsBusy, IsFree, absorb, behind_of, change_extent, extent_of, layout_by, mark_free, pair_of, tiling}
use Rattle.vc_best.proofs.Layouts.{layout-freed, layout-same}
use Rattle.vc_best.proofs.FreeBlocks.{absorb-busy}

-- a free extent that takes the next free one leaves the blocks
pub layout-absorbed : (s r : List Bytes) (i j : List ℕ) (a : ℕ) → ∥ AreExtents s i ∥₁ → ∥ AreExtents r j ∥₁ → IsFree (tiling s) a → tiling r ≡ change_extent a absorb (tiling s) → map pair_of r ≡ map pair_of s → layout_by r ≡ layout_by s
layout-absorbed s r i j a k l free is p =
    layout-same s r i j k l a absorb free.named is p (absorb-busy (place_of a).0 (extent_of (tiling s) a) (behind_of (tiling s) a) free.free)

pub layout-marked : (s r : List Bytes) (i j : List ℕ) (a : ℕ) → ∥ AreExtents s i ∥₁ → ∥ AreExtents r j ∥₁ → IsBusy (tiling s) a → tiling r ≡ change_extent a mark_free (tiling s) → map pair_of r ≡ map pair_of s →
    layout_by r ≡ without_block_at (layout_by s) (place_of a)
layout-marked s r i j a k l busy is p = layout-freed s r i j k l a mark_free busy.named is p busy.busy refl
