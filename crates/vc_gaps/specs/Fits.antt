-- The free extents of a tiling as runs of bytes, and which of them hold a block.
use Rattle.std.specs.Prelude.{ℕ, ◌+◌, ◌-◌, List, [], ◌∷◌, Bool, filter, map, ◌==◌, if◌then◌else◌}
use Rattle.std.specs.List.{flat_map}
use Rattle.vc_model.specs.Addr.{place_of}
use Rattle.vc_model.specs.Gap.{Run}
use Rattle.vc_model.specs.Place.{holds}
use Rattle.vc_extent.specs.Extent.{Extent}
use Rattle.vc_extent.specs.Tiling.{extent_of}
use Rattle.vc_gaps.specs.ButLinks.{Tiling}

-- the bytes of an extent of the segment of that number
abbrev pub run_of_extent : ℕ → Extent → Run
run_of_extent seg e = record { seg = seg; from = e.off - 16; to = e.off - 16 + e.span }

-- those of the extent that an address names
abbrev pub run_at : Tiling → ℕ → Run
run_at t a = run_of_extent (place_of a).0 (extent_of t a)

-- those of each free extent
abbrev pub free_runs : Tiling → List Run
free_runs t = flat_map (λ s. map (run_of_extent s.0) (filter (λ e. e.size == 0) s.1)) t

-- whether the extent that an address names holds a block of that span at that alignment
abbrev pub holds_at : Tiling → ℕ → ℕ → ℕ → Bool
holds_at t span align a = holds span align (run_at t a)

-- a list from one name on, empty where that isn't in it
abbrev pub from_on : ℕ → List ℕ → List ℕ
from_on a [] = []
from_on a (x ∷ xs) = if x == a then x ∷ xs else from_on a xs
