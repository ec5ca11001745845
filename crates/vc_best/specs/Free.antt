-- The free extents of a best region. No two stand beside each other, so they are its gaps.
use Rattle.std.specs.Prelude.{◌≡◌, ℕ, ◌+◌, List, [], ◌∷◌, All, Bool, true, false, Option, None, Some, filter, map, not, ◌&&◌, if◌then◌else◌}
use Rattle.std.specs.List.{flat_map}
use Rattle.vc_model.specs.Gap.{Run}
use Rattle.vc_extent.specs.Extent.{Extent}
use Rattle.vc_extent.specs.Tiling.{extent_of, next_of}
use Rattle.vc_gaps.specs.Fits.{run_of_extent}
use Rattle.vc_best.specs.Blocks.{is_busy}

abbrev pub is_free : Extent → Bool
is_free e = not (is_busy e)

-- the free runs of one segment
abbrev pub free_in : ℕ × List Extent → List Run
free_in s = map (run_of_extent s.0) (filter is_free s.1)

-- the free runs of all segments
abbrev pub free_runs : List (ℕ × List Extent) → List Run
free_runs t = flat_map free_in t

-- whether no free one among these stands behind a free one, where the one before them is free or not
abbrev pub is_merged : Bool → List Extent → Bool
is_merged behind [] = true
is_merged behind (e ∷ es) = not (behind && is_free e) && is_merged (is_free e) es

-- no two free extents of a segment stand beside each other
abbrev pub IsMerged : List (ℕ × List Extent) → Type 0
IsMerged t = All (λ s. is_merged false s.1 ≡ true) t

-- the bytes of the extent behind one, where it is free
abbrev pub free_bytes : Option Extent → ℕ
free_bytes None = 0
free_bytes (Some e) = if is_free e then e.span else 0

-- the bytes from an extent's start on up to the next busy one, or to the segment's end
abbrev pub room_of : List (ℕ × List Extent) → ℕ → ℕ
room_of t a = (extent_of t a).span + free_bytes (next_of t a)
