use Rattle.vc_base.proofs.Common.{◌-◌, ◌≡◌, List, length}
use Rattle.vc_extent.specs.Change.{last_span}
use Rattle.vc_extent.specs.Extent.{Extent, extents}
use Rattle.vc_extent.specs.Tiles.{Tiles}
use Rattle.vc_extent.proofs.read.last_in.Given as goal

-- the extents that are left tile the segment from the place on, and their last span is that of all
abbrev pub invariant-loop-at : goal.invariant-loop-at
invariant-loop-at l =
    record {
      end : l.end ≡ length l.seg.bytes - 16;
      left : (es : List Extent) × (Tiles l.seg.bytes (length l.seg.bytes - 16) l.span l.at es × (last_span l.span es ≡ last_span 0 (extents l.seg.bytes)));
    }

abbrev pub decreases-loop-at : goal.decreases-loop-at
decreases-loop-at l = l.end - l.at
