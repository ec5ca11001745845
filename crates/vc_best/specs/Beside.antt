-- The free extents that stand beside others, by their addresses.
use Rattle.std.specs.Prelude.{◌≡◌, ℕ, List, [], ◌∷◌, Option, None, Some, if◌then◌else◌}
use Rattle.vc_base.specs.declared.addr.Addr.{Addr}
use Rattle.vc_model.specs.Addr.{address, place_of}
use Rattle.vc_extent.specs.Extent.{Extent}
use Rattle.vc_extent.specs.Tiling.{change_extent, next_of, previous_of}
use Rattle.vc_gaps.specs.ButLinks.{Tiling}
use Rattle.vc_best.specs.Changes.{leave_out}
use Rattle.vc_best.specs.Free.{IsMerged, is_free}

-- an address, where there is one
abbrev pub some_name : Option Addr → List ℕ
some_name None = []
some_name (Some a) = a.0 ∷ []

-- the address of an extent of a segment, where there is one and it is free
abbrev pub free_name : ℕ → Option Extent → List ℕ
free_name seg None = []
free_name seg (Some e) = if is_free e then address (seg, e.off) ∷ [] else []

-- that of the extent behind one, and of the one before it
abbrev pub free_next : Tiling → ℕ → List ℕ
free_next t a = free_name (place_of a).0 (next_of t a)

abbrev pub free_before : Tiling → ℕ → List ℕ
free_before t a = free_name (place_of a).0 (previous_of t a)

-- without the extent that an address names no two free ones of a segment stand beside each other, and none stands behind it
pub record IsMergedBut (t : Tiling) (a : ℕ) : Type 0 where
  pub others : IsMerged (change_extent a leave_out t)
  pub next : free_next t a ≡ []
