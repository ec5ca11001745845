-- Extents that tile the usable part of a segment.
use Rattle.std.specs.Prelude.{◌≡◌, ℕ, ◌+◌, ◌-◌, ◌%◌, ◌<◌, ◌≤◌, List, [], ◌∷◌, length}
use Rattle.vc_model.specs.Discipline.{IsSegmentSize}
use Rattle.vc_model.specs.Segments.{span}
use Rattle.vc_seg.specs.Field.{field_at}
use Rattle.vc_extent.specs.Extent.{Extent, extent_at, extents}

-- the numbers that an extent can have: a span in multiples of 32 bytes, which is that of its size where it is busy
pub record IsLegal (e : Extent) : Type 0 where
  pub multiple : e.span % 32 ≡ 0
  pub least : 32 ≤ e.span
  pub busy : 0 < e.size → e.span ≡ span e.size
  pub free : e.size ≡ 0 → e.tag ≡ 0

-- an extent lies from a place on, behind one of the span that its boundary word says, 0 for the first
pub record IsHead (bytes : List ℕ) (before at : ℕ) (e : Extent) : Type 0 where
  pub extent : e ≡ extent_at at bytes
  pub boundary : field_at (at + 12) bytes ≡ before
  pub legal : IsLegal e

-- extents lie one behind the other from a place up to a place
abbrev pub Tiles : List ℕ → ℕ → ℕ → ℕ → List Extent → Type 0
Tiles bytes stop before at [] = at ≡ stop
Tiles bytes stop before at (e ∷ es) = IsHead bytes before at e × Tiles bytes stop e.span (at + e.span) es

-- a place lies 16 bytes or more before the end of a segment
pub record EndsWithin (bytes : List ℕ) (end : ℕ) : Type 0 where
  pub within : end + 16 ≤ length bytes
  pub most : length bytes ≤ 33554432

-- all between the first and the last 16 bytes of a segment is extents
pub record IsTiled (bytes : List ℕ) : Type 0 where
  pub size : IsSegmentSize (length bytes)
  pub tiles : Tiles bytes (length bytes - 16) 0 16 (extents bytes)
