-- The segments of a last region and of a pool, by what they keep them in.
use Rattle.vc_base.proofs.Common.{◌≡◌, ℕ, List, map, refl}
use Rattle.vc_seg.specs.Segment.{Bytes, pair_of}
use Rattle.vc_last.specs.Read.{layout_by}

pub last-segments : (segs : List Bytes) (latest : ℕ) → (layout_by segs latest).segments ≡ map pair_of segs
unfolding layout_by
last-segments segs latest = refl
