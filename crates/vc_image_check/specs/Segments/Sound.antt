-- Which parts of an image are sound.
use Rattle.std.specs.Prelude.{◌≡◌, ℕ, ◌+◌, ◌%◌, ◌<◌, ◌≤◌, Bool, true, false, List, Some, All, slice_get, take}
use Rattle.vc_model.specs.Segments.{span}
use Rattle.vc_seg.specs.Field.{field_at}
use Rattle.vc_seg.specs.Segment.{Bytes}
use Rattle.vc_extent.specs.Extent.{extents}
use Rattle.vc_extent.specs.Tiles.{IsTiled}
use Rattle.vc_best.specs.Free.{is_merged}

-- the bytes of a segment are tiled by extents, no two free ones are neighbours, and none has too large a block
pub record IsSoundSegment (bytes : List ℕ) : Type 0 where
  pub tiled : IsTiled bytes
  pub merged : is_merged false (extents bytes) ≡ true
  pub sizes : All (λ e. e.size ≤ 16777264) (extents bytes)

-- the four numbers from a place on are the head of an extent that can stand behind one of that span, which is free or not
pub record CanFollow (bytes : List ℕ) (before at : ℕ) (behind_free : Bool) : Type 0 where
  pub boundary : field_at (at + 12) bytes ≡ before
  pub multiple : field_at at bytes % 32 ≡ 0
  pub least : 32 ≤ field_at at bytes
  pub busy : 0 < field_at (at + 4) bytes → field_at at bytes ≡ span (field_at (at + 4) bytes)
  pub free : field_at (at + 4) bytes ≡ 0 → (field_at (at + 8) bytes ≡ 0) × (behind_free ≡ false)
  pub most : field_at (at + 4) bytes ≤ 16777264

-- so are the bytes of all segments
abbrev pub AreSoundSegments : List Bytes → Type 0
AreSoundSegments segs = All (λ s. IsSoundSegment s.bytes) segs

-- those of a segment of that number aren't, and those of the segments before it are
pub record IsFirstUnsoundSegment (number : ℕ) (segs : List Bytes) : Type 0 where
  pub place : ℕ
  pub segment : Bytes
  pub there : slice_get segs place ≡ Some segment
  pub numbered : segment.number ≡ number
  pub unsound : ¬ IsSoundSegment segment.bytes
  pub before : AreSoundSegments (take place segs)
