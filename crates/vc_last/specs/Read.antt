-- The segments and the blocks of a last region, by what it keeps them in.
use Rattle.std.specs.Prelude.{ℕ, List, map}
use Rattle.vc_model.specs.Layout.{Layout}
use Rattle.vc_seg.specs.Segment.{Bytes, pair_of}
use Rattle.vc_last.specs.Chain.{blocks_from}

-- segments in order of lending, and the address of the latest block
unfoldable pub layout_by : List Bytes → ℕ → Layout ℕ
layout_by segs latest = record { segments = map pair_of segs; blocks = blocks_from segs latest }
