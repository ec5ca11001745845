-- Numbered segments of extents, as definitions over their bytes.
use Rattle.std.specs.Prelude.{◌≡◌, ◌≢◌, ℕ, ◌+◌, ◌-◌, ◌%◌, ◌<◌, List, [], ◌∷◌, All, Option, None, Some, IsSome, length, map, take, slice_index, unwrap_or, nat_lt, ◌==◌, if◌then◌else◌}
use Rattle.std.specs.List.{HoldsAt}
use Rattle.vc_model.specs.Addr.{address, place_of}
use Rattle.vc_model.specs.Segments.{span}
use Rattle.vc_seg.specs.Segment.{AreSegments, Bytes, pair_of}
use Rattle.vc_extent.specs.Extent.{Extent, extents}
use Rattle.vc_extent.specs.Change.{behind, change_at, extent_in, first_of, last_before}
use Rattle.vc_extent.specs.Tiles.{IsTiled}

-- the segments in order of adding, each as its number and its extents
abbrev pub tiling : List Bytes → List (ℕ × List Extent)
tiling segs = map (λ s. (s.number, extents s.bytes)) segs

-- the extents of the segment of that number
abbrev pub extents_of : ℕ → List (ℕ × List Extent) → List Extent
extents_of number [] = []
extents_of number (s ∷ ss) = if s.0 == number then s.1 else extents_of number ss

-- with the extents of the segment of that number changed
abbrev pub change_in : ℕ → (List Extent → List Extent) → List (ℕ × List Extent) → List (ℕ × List Extent)
change_in number change [] = []
change_in number change (s ∷ ss) = if s.0 == number then (s.0, change s.1) ∷ ss else s ∷ change_in number change ss

-- the extent that an address names, of span 0 where there is none
abbrev pub extent_of : List (ℕ × List Extent) → ℕ → Extent
extent_of t a = extent_in (place_of a).1 (extents_of (place_of a).0 t)

-- with the extent that an address names, and those behind it in its segment, changed
abbrev pub change_extent : ℕ → (Extent → List Extent → List Extent) → List (ℕ × List Extent) → List (ℕ × List Extent)
change_extent a change t = change_in (place_of a).0 (change_at (place_of a).1 change) t

-- the extent that an address names is changed, and segments keep their numbers and sizes
pub record IsExtentChanged (old new : List Bytes) (a : ℕ) (change : Extent → List Extent → List Extent) : Type 0 where
  pub tiling : tiling new ≡ change_extent a change (tiling old)
  pub pairs : map pair_of new ≡ map pair_of old

-- the extents that stand behind and before it in its segment, where there are any
abbrev pub next_of : List (ℕ × List Extent) → ℕ → Option Extent
next_of t a = first_of (behind (place_of a).1 (extents_of (place_of a).0 t))

abbrev pub previous_of : List (ℕ × List Extent) → ℕ → Option Extent
previous_of t a = last_before None (place_of a).1 (extents_of (place_of a).0 t)

-- of segments, the extent that an address names, and the one behind it, where there is one
abbrev pub extent_named : List Bytes → ℕ → Extent
extent_named segs = extent_of (tiling segs)

abbrev pub extent_behind : List Bytes → ℕ → Option Extent
extent_behind segs = next_of (tiling segs)

-- the address of what the extent behind one keeps that gives it the bytes of a size, 0 where it keeps none
abbrev pub rest_behind : ℕ → List Bytes → ℕ → Extent → ℕ
rest_behind size segs a next =
    if (extent_named segs a).span + next.span == span size then 0 else address ((place_of a).0, (place_of a).1 + span size)

-- an address names an extent, a free one, a busy one
abbrev pub IsNamed : List (ℕ × List Extent) → ℕ → Type 0
IsNamed t a = 0 < (extent_of t a).span

pub record IsFree (t : List (ℕ × List Extent)) (a : ℕ) : Type 0 where
  pub named : IsNamed t a
  pub free : (extent_of t a).size ≡ 0

pub record IsBusy (t : List (ℕ × List Extent)) (a : ℕ) : Type 0 where
  pub named : IsNamed t a
  pub busy : 0 < (extent_of t a).size

-- one more than the place of the segment of that number among these, counted from `at`; 0 where there is none
abbrev pub index_from : ℕ → ℕ → List Bytes → ℕ
index_from at number [] = 0
index_from at number (s ∷ ss) = if s.number == number then at + 1 else index_from (at + 1) number ss

-- numbered segments, each tiled, and the place of each by its number
pub record AreExtents (segs : List Bytes) (index : List ℕ) : Type 0 where
  pub segments : AreSegments segs
  pub tiled : All (λ s. IsTiled s.bytes) segs
  pub numbers : length index ≡ 1024
  pub places : (number : ℕ) → number < 1024 → slice_index index number ≡ index_from 0 number segs

-- the size of the segment of that number among segments as number and size, where it is there
abbrev pub size_of : ℕ → List (ℕ × ℕ) → Option ℕ
size_of number [] = None
size_of number (s ∷ ss) = if s.0 == number then Some s.1 else size_of number ss

-- its size, or 0 where it isn't there
abbrev pub size_in : ℕ → List (ℕ × ℕ) → ℕ
size_in number segs = unwrap_or (size_of number segs) 0

-- so many bytes more in the segment of that number
abbrev pub longer : ℕ → ℕ → List (ℕ × ℕ) → List (ℕ × ℕ)
longer number more [] = []
longer number more (s ∷ ss) = if s.0 == number then (s.0, s.1 + more) ∷ ss else s ∷ longer number more ss

-- the segment of that number is there
abbrev pub IsThere : ℕ → List Bytes → Type 0
IsThere number segs = IsSome (size_of number (map pair_of segs))

-- the first segment of that number stands at a place among these
pub record IsPlace (number : ℕ) (segs : List Bytes) (i : ℕ) : Type 0 where
  pub within : i < length segs
  pub numbered : HoldsAt (λ s. s.number ≡ number) segs i
  pub first : All (λ s. s.number ≢ number) (take i segs)
  pub extents : HoldsAt (λ s. extents s.bytes ≡ extents_of number (tiling segs)) segs i

-- an address names an extent of the segment at a place among these, whose head lies from `at` on
pub record IsFound (a : ℕ) (segs : List Bytes) (i at : ℕ) : Type 0 where
  pub place : IsPlace (place_of a).0 segs i
  pub off : at + 16 ≡ (place_of a).1
  pub multiple : (at + 16) % 32 ≡ 0
  pub tiled : HoldsAt (λ s. IsTiled s.bytes) segs i
  pub named : HoldsAt (λ s. 0 < (extent_in (at + 16) (extents s.bytes)).span) segs i
  pub extent : HoldsAt (λ s. extent_in (at + 16) (extents s.bytes) ≡ extent_of (tiling segs) a) segs i

-- one number of an index after a segment was taken out of a place, counted from 1
abbrev pub closed_up : ℕ → ℕ → ℕ
closed_up place k = if nat_lt place k then k - 1 else k
