-- What a call on a best region costs.
use Rattle.std.specs.Prelude.{ℕ, ◌+◌, ◌*◌, ◌≤◌, max, min, Result, Ok, Err, ◌==◌, if◌then◌else◌}
use Rattle.vc_base.specs.declared.addr.Addr.{Addr}
use Rattle.vc_model.specs.Layout.{Layout}
use Rattle.vc_model.specs.Numbers.{gap_count}
use Rattle.vc_seg.specs.declared.fault.RegionFault.{RegionFault}
use Rattle.vc_splay.specs.Rank.{Costs, binary_digits, size}
use Rattle.vc_splay.specs.Stands.{IsTree}
use Rattle.vc_splay.specs.Tree.{Tree}
use Rattle.vc_extent.specs.Tiling.{tiling}
use Rattle.vc_gaps.specs.Cost.{GapsCost}
use Rattle.vc_gaps.specs.GapStore.{gap_store}
use Rattle.vc_best.specs.Parts.{layout_of}
use Rattle.vc_best.specs.declared.best.Best.{Best}

-- what a call costs the tree of gaps, by how many are in it before
abbrev pub TreeCosts : {I : Type 0} {V : I → Type 0} → Best I V → Best I V → ℕ → ℕ → ℕ → ℕ → ℕ → Type 0
TreeCosts old new start now per plus more =
    GapsCost (tiling old.extents.segs.items) (tiling new.extents.segs.items) old.root.0 new.root.0 start now per plus more

-- steps, and twice the rank of the tree of gaps, rise by at most so many times this: 240 for each binary digit of how many gaps
-- there are, before or then, whichever are more, and 260
pub record CallCosts {I : Type 0} {V : I → Type 0} (old new : Best I V) (calls start now : ℕ) : Type 0 where
  pub law : (t u : Tree) → IsTree (gap_store (tiling old.extents.segs.items)) old.root.0 t → IsTree (gap_store (tiling new.extents.segs.items)) new.root.0 u
      → Costs t u start now (calls * (240 * binary_digits (max (gap_count (layout_of old)) (gap_count (layout_of new))) + 260))

-- a search for a gap takes a step at least where there is one
abbrev pub least_of_search : Layout ℕ → ℕ
least_of_search r = min 1 (gap_count r)

-- a block that is put takes one more
abbrev pub least_of_alloc : Layout ℕ → Result Addr RegionFault → ℕ
least_of_alloc r (Ok a) = least_of_search r + 1
least_of_alloc r (Err fault) = least_of_search r

-- a block that gets another size takes three steps where it stays, and those of a put block and two where it moves; it takes one
-- where it is refused
abbrev pub least_of_resize : Layout ℕ → ℕ → Result Addr RegionFault → ℕ
least_of_resize r a (Ok to) = if to.0 == a then 3 else least_of_search r + 3
least_of_resize r a (Err fault) = 1

-- a step at least was taken for each gap that is in the tree then
pub record StepsForGaps {I : Type 0} {V : I → Type 0} (new : Best I V) (start now : ℕ) : Type 0 where
  pub least : (u : Tree) → IsTree (gap_store (tiling new.extents.segs.items)) new.root.0 u → start + size u ≤ now
