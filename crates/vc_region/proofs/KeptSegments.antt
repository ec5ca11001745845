-- The segments that regions of the methods keep.
use Rattle.vc_base.proofs.Common.{◌≡◌, ℕ, List, map, refl, le_prop, ∥∥₁_elim, ℕ_set}
use Rattle.vc_extent.specs.Tiling.{AreExtents}
use Rattle.vc_best.specs.Blocks as best
use Rattle.vc_last.specs.Chain.{IsLast}
use Rattle.vc_last.specs.Read as last
use Rattle.vc_seg.specs.Segment.{AreSegments, Bytes, pair_of}

pub best-segments : (segs : List Bytes) → (best.layout_by segs).segments ≡ map pair_of segs
unfolding best.layout_by
best-segments segs = refl

pub best-legal : (segs : List Bytes) (index : List ℕ) → ∥ AreExtents segs index ∥₁ → AreSegments segs
best-legal segs index k = ∥∥₁_elim k (hlevel (le_prop, ℕ_set)) (λ h. h.segments)

pub last-segments : (segs : List Bytes) (latest : ℕ) → (last.layout_by segs latest).segments ≡ map pair_of segs
unfolding last.layout_by
last-segments segs latest = refl

pub last-legal : (segs : List Bytes) (latest : ℕ) → ∥ IsLast segs latest ∥₁ → AreSegments segs
last-legal segs latest k = ∥∥₁_elim k (hlevel (le_prop, ℕ_set)) (λ h. h.segments)
