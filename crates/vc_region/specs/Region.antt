-- A region by its method, and each call of it by cases on the method.
use Rattle.std.specs.Prelude.{ℕ, ℤ, List, [], Bool, true, false, Option, Some, None}
use Rattle.vc_model.specs.Addr.{place_of}
use Rattle.vc_model.specs.Discipline.{Terms}
use Rattle.vc_model.specs.Layout.{Block, Layout, relabel_layout}
use Rattle.vc_model.specs.Outcome.{Outcome, Done, Refused, Put, WrongMethod, done_as, outcome_as}
use Rattle.vc_model.specs.Best.{best_alloc, best_need, without_block_at}
use Rattle.vc_model.specs.Resize.{best_resize}
use Rattle.vc_model.specs.Touch.{with_bytes_at}
use Rattle.vc_model.specs.Compact.{cleared_layout, compact_count, compacted_layout}
use Rattle.vc_model.specs.Pool.{Pool, pool_alloc, pool_clear, pool_compact, pool_free, pool_need, pool_resize, relabel_pool}
use Rattle.vc_model.specs.Last.{last_alloc, last_free, last_need, last_resize}
use Rattle.vc_seg.specs.declared.profile_row.ProfileRow.{ProfileRow}
use Rattle.vc_best.specs.Ask.{AsksForSegment, AsksToMove}
use Rattle.vc_pool.specs.Ask.{LacksCell}
use Rattle.vc_last.specs.Ask.{LacksPlace, MovesToNew}
use Rattle.vc_audit.specs.Debug.{Debug, DebugAsks, DebugAsksToMove, damaged_blocks, debug_alloc, debug_clear, debug_compact, debug_compact_count, debug_free, debug_need, debug_resize, debug_write, next_damaged, with_poke, relabel_debug, user_layout, watched_at, with_watch}
use Rattle.vc_audit.specs.Profile.{Profile, bare_layout, profile_alloc, profile_clear, profile_compact, profile_free, profile_resize, profile_rows, profile_write, relabel_profile, row_at}

-- what a region of each method is
pub data Region (L : Type 0) : Type 0 where
  OfBest : (layout : Layout L) → Region L
  OfPool : (pool : Pool L) → Region L
  OfLast : (layout : Layout L) → Region L
  OfDebug : (debug : Debug L) → Region L
  OfProfile : (profile : Profile L) → Region L

-- its segments and its blocks, which in a debug region are the user's
abbrev pub layout_in : {L : Type 0} → Region L → Layout L
layout_in (OfBest layout) = layout
layout_in (OfPool pool) = pool.layout
layout_in (OfLast layout) = layout
layout_in (OfDebug debug) = user_layout debug
layout_in (OfProfile profile) = bare_layout profile

abbrev pub segments_of : {L : Type 0} → Region L → List (ℕ × ℕ)
segments_of r = (layout_in r).segments

abbrev pub blocks_of : {L : Type 0} → Region L → List (Block L)
blocks_of r = (layout_in r).blocks

-- a block is put for a site, at an offset that 32 divides; the site is used in a profile region alone
abbrev pub region_alloc : {L : Type 0} → Terms → Region L → L → List ℕ → ℕ → Bool → Outcome (Put (Region L))
region_alloc terms (OfBest layout) label site size refused = outcome_as OfBest (best_alloc terms layout label size 32 refused)
region_alloc terms (OfPool pool) label site size refused = outcome_as OfPool (pool_alloc terms pool label size refused)
region_alloc terms (OfLast layout) label site size refused = outcome_as OfLast (last_alloc terms layout label size refused)
region_alloc terms (OfDebug debug) label site size refused = outcome_as OfDebug (debug_alloc terms debug label size refused)
region_alloc terms (OfProfile profile) label site size refused =
    outcome_as OfProfile (profile_alloc terms profile label site size 32 refused)

-- whether blocks are aligned by its method
abbrev pub aligns : {L : Type 0} → Region L → Bool
aligns (OfBest layout) = true
aligns (OfPool pool) = false
aligns (OfLast layout) = false
aligns (OfDebug debug) = false
aligns (OfProfile profile) = true

-- a block is put, at an offset that the alignment divides, where the method aligns blocks
abbrev pub region_align : {L : Type 0} → Terms → Region L → L → List ℕ → ℕ → ℕ → Bool → Outcome (Put (Region L))
region_align terms (OfBest layout) label site size align refused =
    outcome_as OfBest (best_alloc terms layout label size align refused)
region_align terms (OfPool pool) label site size align refused = Refused WrongMethod
region_align terms (OfLast layout) label site size align refused = Refused WrongMethod
region_align terms (OfDebug debug) label site size align refused = Refused WrongMethod
region_align terms (OfProfile profile) label site size align refused =
    outcome_as OfProfile (profile_alloc terms profile label site size align refused)

-- the block at a place gets another size
abbrev pub region_resize : {L : Type 0} → Terms → Region L → ℕ × ℕ → ℕ → Bool → Bool → Outcome (Put (Region L))
region_resize terms (OfBest layout) at size may_move refused =
    outcome_as OfBest (best_resize terms layout at size may_move refused)
region_resize terms (OfPool pool) at size may_move refused = outcome_as OfPool (pool_resize pool at size)
region_resize terms (OfLast layout) at size may_move refused =
    outcome_as OfLast (last_resize terms layout at size may_move refused)
region_resize terms (OfDebug debug) at size may_move refused =
    outcome_as OfDebug (debug_resize terms debug at size may_move refused)
region_resize terms (OfProfile profile) at size may_move refused =
    outcome_as OfProfile (profile_resize terms profile at size may_move refused)

-- the bytes of the segment that a call asks for, where it needs one
abbrev pub region_need : {L : Type 0} → Terms → Region L → ℕ → ℕ → ℕ
region_need terms (OfBest layout) size align = best_need terms size align
region_need terms (OfPool pool) size align = pool_need terms pool size
region_need terms (OfLast layout) size align = last_need terms size
region_need terms (OfDebug debug) size align = debug_need terms size
region_need terms (OfProfile profile) size align = best_need terms size align

-- a block asks for a segment, by the method: no gap holds it, no cell is free, or the newest segment has no place behind its last block
abbrev pub RegionAsks : {L : Type 0} → Terms → Region L → ℕ → ℕ → Type 0
RegionAsks terms (OfBest layout) size align = AsksForSegment terms layout size align
RegionAsks terms (OfPool pool) size align = LacksCell terms pool size
RegionAsks terms (OfLast layout) size align = LacksPlace terms layout size
RegionAsks terms (OfDebug debug) size align = DebugAsks terms debug size
RegionAsks terms (OfProfile profile) size align = AsksForSegment terms (bare_layout profile) size align

-- the block at an address asks for one where it gets another size: it can't stay, and may move; in a pool it never does
abbrev pub RegionAsksToMove : {L : Type 0} → Terms → Region L → ℕ → ℕ → Bool → Type 0
RegionAsksToMove terms (OfBest layout) a size may_move = AsksToMove terms layout a size may_move
RegionAsksToMove terms (OfPool pool) a size may_move = ⊥
RegionAsksToMove terms (OfLast layout) a size may_move = MovesToNew terms layout (place_of a) size may_move
RegionAsksToMove terms (OfDebug debug) a size may_move = DebugAsksToMove terms debug a size may_move
RegionAsksToMove terms (OfProfile profile) a size may_move = AsksToMove terms (bare_layout profile) a size may_move

-- a new block asks for memory: where it asks for a segment, and in a profile region, which keeps lists, at any time
abbrev pub AsksForMemory : {L : Type 0} → Terms → Region L → ℕ → ℕ → Type 0
AsksForMemory terms (OfBest layout) size align = RegionAsks terms (OfBest layout) size align
AsksForMemory terms (OfPool pool) size align = RegionAsks terms (OfPool pool) size align
AsksForMemory terms (OfLast layout) size align = RegionAsks terms (OfLast layout) size align
AsksForMemory terms (OfDebug debug) size align = RegionAsks terms (OfDebug debug) size align
AsksForMemory terms (OfProfile profile) size align = Unit {0}

-- the block at a place goes
abbrev pub region_free : {L : Type 0} → Region L → ℕ × ℕ → Outcome (Region L)
region_free (OfBest layout) at = Done (OfBest (without_block_at layout at))
region_free (OfPool pool) at = Done (OfPool (pool_free pool at))
region_free (OfLast layout) at = done_as OfLast (last_free layout at)
region_free (OfDebug debug) at = Done (OfDebug (debug_free debug at))
region_free (OfProfile profile) at = Done (OfProfile (profile_free profile at))

-- other bytes stand in the block at a place, from an offset on
abbrev pub region_write : {L : Type 0} → Region L → ℕ × ℕ → ℕ → List ℕ → Region L
region_write (OfBest layout) at off bytes = OfBest (with_bytes_at layout at off bytes)
region_write (OfPool pool) at off bytes = OfPool (record pool { layout = with_bytes_at pool.layout at off bytes })
region_write (OfLast layout) at off bytes = OfLast (with_bytes_at layout at off bytes)
region_write (OfDebug debug) at off bytes = OfDebug (debug_write debug at off bytes)
region_write (OfProfile profile) at off bytes = OfProfile (profile_write profile at off bytes)

-- all blocks go
abbrev pub region_clear : {L : Type 0} → Region L → Region L
region_clear (OfBest layout) = OfBest (cleared_layout layout)
region_clear (OfPool pool) = OfPool (pool_clear pool)
region_clear (OfLast layout) = OfLast (cleared_layout layout)
region_clear (OfDebug debug) = OfDebug (debug_clear debug)
region_clear (OfProfile profile) = OfProfile (profile_clear profile)

-- the segments without a block go
abbrev pub region_compact : {L : Type 0} → Region L → Region L
region_compact (OfBest layout) = OfBest (compacted_layout layout)
region_compact (OfPool pool) = OfPool (pool_compact pool)
region_compact (OfLast layout) = OfLast (compacted_layout layout)
region_compact (OfDebug debug) = OfDebug (debug_compact debug)
region_compact (OfProfile profile) = OfProfile (profile_compact profile)

-- how many segments go by that
abbrev pub region_compact_count : {L : Type 0} → Region L → ℕ
region_compact_count (OfBest layout) = compact_count layout
region_compact_count (OfPool pool) = compact_count pool.layout
region_compact_count (OfLast layout) = compact_count layout
region_compact_count (OfDebug debug) = debug_compact_count debug
region_compact_count (OfProfile profile) = compact_count (bare_layout profile)

-- whether it is a best region, in which alone dictionaries lie
abbrev pub is_best : {L : Type 0} → Region L → Bool
is_best (OfBest layout) = true
is_best (OfPool pool) = false
is_best (OfLast layout) = false
is_best (OfDebug debug) = false
is_best (OfProfile profile) = false

-- whether it is a debug region, which alone has guards, watches and the names of freed blocks
abbrev pub is_debug : {L : Type 0} → Region L → Bool
is_debug (OfBest layout) = false
is_debug (OfPool pool) = false
is_debug (OfLast layout) = false
is_debug (OfDebug debug) = true
is_debug (OfProfile profile) = false

-- whether the names of freed blocks are kept
abbrev pub keeps_freed : {L : Type 0} → Region L → Bool
keeps_freed r = is_debug r

-- the line of the watch on the block at a place
abbrev pub watch_at : {L : Type 0} → Region L → ℕ × ℕ → Option ℕ
watch_at (OfBest layout) at = None
watch_at (OfPool pool) at = None
watch_at (OfLast layout) at = None
watch_at (OfDebug debug) at = watched_at debug at
watch_at (OfProfile profile) at = None

-- the block at a place is watched with a line, in a debug region
abbrev pub region_watch : {L : Type 0} → Region L → ℕ × ℕ → ℕ → Region L
region_watch (OfBest layout) at line = OfBest layout
region_watch (OfPool pool) at line = OfPool pool
region_watch (OfLast layout) at line = OfLast layout
region_watch (OfDebug debug) at line = OfDebug (with_watch debug at line)
region_watch (OfProfile profile) at line = OfProfile profile

-- one byte is another, at an offset from the block's bytes on, in a debug region
abbrev pub region_poke : {L : Type 0} → Region L → ℕ × ℕ → ℤ → ℕ → Region L
region_poke (OfBest layout) at off byte = OfBest layout
region_poke (OfPool pool) at off byte = OfPool pool
region_poke (OfLast layout) at off byte = OfLast layout
region_poke (OfDebug debug) at off byte = OfDebug (with_poke debug at off byte)
region_poke (OfProfile profile) at off byte = OfProfile profile

-- the blocks whose guards are damaged, by address, each with the least offset of a damaged byte; and the first behind an address
abbrev pub damaged_in : {L : Type 0} → Region L → List (Block L × ℤ)
damaged_in (OfBest layout) = []
damaged_in (OfPool pool) = []
damaged_in (OfLast layout) = []
damaged_in (OfDebug debug) = damaged_blocks debug
damaged_in (OfProfile profile) = []

abbrev pub next_damaged_in : {L : Type 0} → ℕ → Region L → Option (Block L × ℤ)
next_damaged_in after (OfBest layout) = None
next_damaged_in after (OfPool pool) = None
next_damaged_in after (OfLast layout) = None
next_damaged_in after (OfDebug debug) = next_damaged after debug
next_damaged_in after (OfProfile profile) = None

-- whether it is a profile region, which alone counts sites
abbrev pub is_profile : {L : Type 0} → Region L → Bool
is_profile (OfBest layout) = false
is_profile (OfPool pool) = false
is_profile (OfLast layout) = false
is_profile (OfDebug debug) = false
is_profile (OfProfile profile) = true

-- the rows of its sites, and the one of that index from 0 on
abbrev pub rows_in : {L : Type 0} → Region L → List ProfileRow
rows_in (OfBest layout) = []
rows_in (OfPool pool) = []
rows_in (OfLast layout) = []
rows_in (OfDebug debug) = []
rows_in (OfProfile profile) = profile_rows profile

abbrev pub row_in : {L : Type 0} → Region L → ℕ → Option ProfileRow
row_in (OfBest layout) i = None
row_in (OfPool pool) i = None
row_in (OfLast layout) i = None
row_in (OfDebug debug) i = None
row_in (OfProfile profile) i = row_at profile i

-- the same with other labels
abbrev pub region_with_labels : {L M : Type 0} → (L → M) → Region L → Region M
region_with_labels name (OfBest layout) = OfBest (relabel_layout name layout)
region_with_labels name (OfPool pool) = OfPool (relabel_pool name pool)
region_with_labels name (OfLast layout) = OfLast (relabel_layout name layout)
region_with_labels name (OfDebug debug) = OfDebug (relabel_debug name debug)
region_with_labels name (OfProfile profile) = OfProfile (relabel_profile name profile)
