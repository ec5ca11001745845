-- The segments and the blocks of a best region, read from the bytes of its segments.
use Rattle.std.specs.Prelude.{ℕ, List, Bool, filter, map, nat_lt}
use Rattle.std.specs.List.{flat_map}
use Rattle.vc_model.specs.Layout.{Block, Layout}
use Rattle.vc_seg.specs.Segment.{Bytes, pair_of}
use Rattle.vc_seg.specs.InOrder.{in_order}
use Rattle.vc_extent.specs.Extent.{Extent}
use Rattle.vc_extent.specs.Tiling.{tiling}

-- whether an extent has a block
abbrev pub is_busy : Extent → Bool
is_busy e = nat_lt 0 e.size

-- the block of a busy extent, in the segment of that number
abbrev pub block_of : ℕ → Extent → Block ℕ
block_of seg e =
    record { label = e.tag; seg = seg; off = e.off; size = e.size; bytes = e.body }

-- the blocks of one segment
abbrev pub busy_in : ℕ × List Extent → List (Block ℕ)
busy_in s = map (block_of s.0) (filter is_busy s.1)

-- the blocks of all segments, as these stand
abbrev pub all_busy : List (ℕ × List Extent) → List (Block ℕ)
all_busy t = flat_map busy_in t

-- its segments as number and size in order of lending, and its blocks by address
unfoldable pub layout_by : List Bytes → Layout ℕ
layout_by segs =
    record { segments = map pair_of segs; blocks = in_order (all_busy (tiling segs)) }
