-- A busy extent that takes bytes of the free one behind it.
use Rattle.std.specs.Prelude.{◌≡◌, ℕ, ◌+◌, ◌≤◌, ◌<◌, List, IfSome, IsSome, length, take}
use Rattle.vc_model.specs.Segments.{span}
use Rattle.vc_seg.specs.Segment.{Bytes}
use Rattle.vc_extent.specs.Change.{Changes, IsExtentAt, behind, extent_in, first_of, stretch}
use Rattle.vc_extent.specs.Extent.{extents}

-- the busy extent from a place on can get a size that wants a larger span, since the one behind it has enough bytes
pub record CanStretch (bytes : List ℕ) (at size : ℕ) : Type 0 where
  pub there : IsExtentAt bytes at
  pub busy : 0 < (extent_in (at + 16) (extents bytes)).size
  pub some : IsSome (first_of (behind (at + 16) (extents bytes)))
  pub above : (extent_in (at + 16) (extents bytes)).span < span size
  pub fits : IfSome (first_of (behind (at + 16) (extents bytes))) (λ e. span size ≤ (extent_in (at + 16) (extents bytes)).span + e.span)

-- it has that size, and its bytes stay
pub record IsStretched (old new : Bytes) (at size : ℕ) : Type 0 where
  pub change : Changes (at + 16) (stretch size (extent_in (at + 16) (extents new.bytes)).body) old new
  pub len : length (extent_in (at + 16) (extents new.bytes)).body ≡ size
  pub kept : take (extent_in (at + 16) (extents old.bytes)).size (extent_in (at + 16) (extents new.bytes)).body ≡ (extent_in (at + 16) (extents old.bytes)).body
