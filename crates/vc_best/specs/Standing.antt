-- What the private calls of a best region ask and promise together.
use Rattle.std.specs.Prelude.{◌≡◌, ℕ, ◌+◌, ◌-◌, ◌≤◌, ◌%◌, List, [], ◌∷◌, ◌++◌, All, Bool, IfOk, IfSome, IsErrOf, OnErr, Result, Some, false, filter, length, map, take}
use Rattle.vc_base.specs.declared.addr.Addr.{Addr}
use Rattle.vc_model.specs.Addr.{address, place_of}
use Rattle.vc_model.specs.Best.{best_alloc, place_in, without_block_at}
use Rattle.vc_model.specs.Compact.{is_occupied}
use Rattle.vc_model.specs.Discipline.{Terms}
use Rattle.vc_model.specs.Layout.{Layout}
use Rattle.vc_model.specs.Place.{IsAlign, holds, least}
use Rattle.vc_model.specs.Segments.{Granted, ask, new_segment, span, with_more}
use Rattle.vc_model.specs.Touch.{HasBlock, find_block, with_bytes_at}
use Rattle.vc_seg.specs.Answer.{Answers}
use Rattle.vc_seg.specs.Back.{is_kept, is_marked}
use Rattle.vc_seg.specs.OneBlock.{IsGuardedSize}
use Rattle.vc_seg.specs.Segment.{Bytes, pair_of}
use Rattle.vc_seg.specs.declared.fault.RegionFault.{RegionFault}
use Rattle.vc_seg.specs.declared.fault.RegionFault.TheVariants as code
use Rattle.vc_seg.specs.Put.{with_zeros}
use Rattle.vc_extent.specs.Extent.{free_extent, no_links}
use Rattle.vc_extent.specs.Change.{widen}
use Rattle.vc_extent.specs.Tiling.{IsBusy, IsFree, IsThere, change_extent, change_in, extent_of, size_in, tiling}
use Rattle.vc_gaps.specs.ButLinks.{Tiling}
use Rattle.vc_gaps.specs.Fits.{free_runs, run_at}
use Rattle.vc_gaps.specs.GapTree.{HasGaps}
use Rattle.vc_best.specs.Ask.{AsksForSegment, more_bytes}
use Rattle.vc_best.specs.Blocks.{layout_by}
use Rattle.vc_best.specs.Changes.{move_border}
use Rattle.vc_best.specs.Beside.{IsMergedBut}
use Rattle.vc_best.specs.Free.{IsMerged, room_of}

-- no two free extents stand beside each other, and the tree with this root has each of them
pub record AreKept (segs : List Bytes) (root : ℕ) : Type 0 where
  pub merged : IsMerged (tiling segs)
  pub gaps : HasGaps (tiling segs) root []

-- besides, no block has more bytes than a block can have
pub record AreWhole (segs : List Bytes) (root : ℕ) : Type 0 where
  pub kept : AreKept segs root
  pub sizes : All (λ b. b.size ≤ 16777264) (layout_by segs).blocks

-- a size and an alignment that a block can have
pub record AreAllowed (size align : ℕ) : Type 0 where
  pub sized : IsGuardedSize size
  pub aligned : IsAlign align

-- a segment of that many bytes is lent under the least number that none of these has, and stands behind them as one free
-- extent
pub record IsLentFree (terms : Terms) (old new : List Bytes) (number bytes : ℕ) : Type 0 where
  pub granted : ask terms bytes (map pair_of old) false ≡ Granted (new_segment number bytes)
  pub extents : tiling new ≡ tiling old ++ (number, free_extent 32 (bytes - 32) no_links ∷ []) ∷ []
  pub pairs : map pair_of new ≡ map pair_of old ++ (number, bytes) ∷ []
  pub first : 1 ≤ number
  pub last : number ≤ 1023
  pub fresh : ¬ IsThere number old

-- the segment of that number and size, which was lent latest, got so many bytes more, as one free extent behind its others, at
-- an address
pub record IsMoreFree (terms : Terms) (old new : List Bytes) (number had more a : ℕ) : Type 0 where
  pub granted : ask terms more (map pair_of old) false ≡ Granted (more_bytes number more)
  pub extents : tiling new ≡ change_in number (widen had more) (tiling old)
  pub pairs : map pair_of new ≡ with_more more (map pair_of old)
  pub there : IsThere number old
  pub size : size_in number (map pair_of old) ≡ had
  pub least : 64 ≤ had
  pub most : had + more ≤ 33554432
  pub value : a ≡ address (number, had)

-- a free extent has room for a block of that size at that offset of its segment
pub record CanPutBlock (t : Tiling) (a off size : ℕ) : Type 0 where
  pub free : IsFree t a
  pub sized : IsGuardedSize size
  pub first : (place_of a).1 ≤ off
  pub multiple : off % 32 ≡ 0
  pub fits : off + span size ≤ (place_of a).1 + (extent_of t a).span

-- a free extent is the least that holds a block of a size and an alignment
abbrev pub IsLeastHolding : Tiling → ℕ → ℕ → ℕ → Type 0
IsLeastHolding t size align a = Some (run_at t a) ≡ least (filter (holds (span size) align) (free_runs t))

-- alone among the free extents one holds a block of a size and an alignment
abbrev pub IsOnlyHolding : Tiling → ℕ → ℕ → ℕ → Type 0
IsOnlyHolding t size align a = filter (holds (span size) align) (free_runs t) ≡ run_at t a ∷ []

-- such a one is out of the tree of gaps, which has the other free extents, and may stand behind one of them
pub record IsOnlyOut (segs : List Bytes) (root size align a : ℕ) : Type 0 where
  pub allowed : AreAllowed size align
  pub free : IsFree (tiling segs) a
  pub only : IsOnlyHolding (tiling segs) size align a
  pub merged : IsMergedBut (tiling segs) a
  pub gaps : HasGaps (tiling segs) root (a ∷ [])
  pub sizes : All (λ b. b.size ≤ 16777264) (layout_by segs).blocks

-- the least that holds such a block is out of the tree of gaps, which has the other free extents
pub record IsLeastOut (segs : List Bytes) (root size align a : ℕ) : Type 0 where
  pub allowed : AreAllowed size align
  pub least : IsLeastHolding (tiling segs) size align a
  pub merged : IsMerged (tiling segs)
  pub gaps : HasGaps (tiling segs) root (a ∷ [])
  pub sizes : All (λ b. b.size ≤ 16777264) (layout_by segs).blocks

-- a block of zeros is put at its place in the least gap that holds it, at an address that no block has
pub record IsPutInGap (old new : Layout ℕ) (tag size align a : ℕ) : Type 0 where
  pub place : place_in old size align ≡ Some (place_of a)
  pub layout : new ≡ with_zeros old tag size (place_of a)
  pub fresh : ¬ HasBlock old.blocks a

-- a block that no gap holds is put into a segment that is asked for, at an address that no block has; else nothing
-- changes, and want of memory is the cause only where a segment is asked for
pub record IsPutByAsking (terms : Terms) (result : Result Addr RegionFault) (old new : Layout ℕ) (tag size align : ℕ) : Type 0 where
  pub answer : Answers (best_alloc terms old tag size align) result old new
  pub count : IfOk result (λ _. length new.blocks ≡ length old.blocks + 1)
  pub err : OnErr result (new ≡ old)
  pub no_memory : IsErrOf result code.OutOfMemory → AsksForSegment terms old size align
  pub fresh : IfOk result (λ a. ¬ HasBlock old.blocks a.0)

-- the first bytes of a block, that many at most, are put into the front of another, and the block is gone
pub record IsMovedInto (old new : Layout ℕ) (a to size : ℕ) : Type 0 where
  pub moved : IfSome (find_block (place_of a) old.blocks) (λ b. new ≡ without_block_at (with_bytes_at old (place_of to) 0 (take size b.bytes)) (place_of a))
  pub count : length new.blocks + 1 ≡ length old.blocks

-- of the segments' numbers those are marked in which a block is
abbrev pub AreMarked : List Bool → List Bytes → Type 0
AreMarked marks segs = (n : ℕ) → IsThere n segs → is_marked marks n ≡ is_occupied (layout_by segs).blocks n

-- the segment of a number is gone, where there is one and the number doesn't pass; that many were given back
pub record IsGivenBack (old new : List Bytes) (keeps : ℕ → Bool) (number given : ℕ) : Type 0 where
  pub segments : map pair_of new ≡ filter (λ s. is_kept keeps number s.0) (map pair_of old)
  pub blocks : (layout_by new).blocks ≡ (layout_by old).blocks
  pub count : given + length (map pair_of new) ≡ length (map pair_of old)

-- a busy extent can have another size where it is
pub record CanResizeThere (t : Tiling) (a size : ℕ) : Type 0 where
  pub busy : IsBusy t a
  pub merged : IsMerged t
  pub sized : IsGuardedSize size
  pub room : span size ≤ room_of t a

-- it has that size, with the border behind it moved: its bytes up to the lesser size stay, and segments keep their sizes
pub record IsBorderMoved (old new : List Bytes) (a size : ℕ) : Type 0 where
  pub border : tiling new ≡ change_extent a (move_border size (extent_of (tiling new) a).body) (tiling old)
  pub len : length (extent_of (tiling new) a).body ≡ size
  pub kept : (k : ℕ) → k ≤ size → k ≤ (extent_of (tiling old) a).size → take k (extent_of (tiling new) a).body ≡ take k (extent_of (tiling old) a).body
  pub pairs : map pair_of new ≡ map pair_of old
