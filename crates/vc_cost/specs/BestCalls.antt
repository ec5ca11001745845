-- What lists of calls make of a best region, by its segments and blocks.
use Rattle.std.specs.Prelude.{◌≡◌, ℕ, ◌+◌, ◌<◌, ◌⊎◌, ◌↔◌, true, false, All, List, [], ◌∷◌, ◌++◌, length, max, nat_lt, remove, set, slice_index_or, take, Bool, if◌then◌else◌}
use Rattle.vc_base.specs.Holders.{AreDistinct}
use Rattle.vc_model.specs.Addr.{address, place_of}
use Rattle.vc_model.specs.Best.{best_alloc, without_block_at}
use Rattle.vc_model.specs.Compact.{cleared_layout, compacted_layout}
use Rattle.vc_model.specs.Count.{Rose}
use Rattle.vc_model.specs.Discipline.{Discipline, Kept, NoneRefused, Terms}
use Rattle.vc_model.specs.Layout.{Block, Layout}
use Rattle.vc_model.specs.Numbers.{gap_count}
use Rattle.vc_model.specs.Outcome.{Outcome, Done, Refused, Put, Fault, TooManySegments, NoSegment}
use Rattle.vc_model.specs.Resize.{best_resize}
use Rattle.vc_model.specs.Touch.{HasBlock}
use Rattle.vc_seg.specs.OneBlock.{IsSize}
use Rattle.vc_seg.specs.declared.fault.RegionFault.{RegionFault}
use Rattle.vc_seg.specs.declared.fault.RegionFault.TheVariants as code
use Rattle.vc_cost.specs.declared.best_call.BestCall.{BestCall}
use Rattle.vc_cost.specs.declared.best_call.BestCall.TheVariants.{Alloc, Resize, Free, Clear, Compact}

-- a region's segments and blocks, and the addresses of its live blocks in order of allocation
pub record Live : Type 0 where
  pub layout : Layout ℕ
  pub blocks : List ℕ

-- whether there is an n-th one, from 0
abbrev pub has_nth : Live → ℕ → Bool
has_nth r n = nat_lt n (length r.blocks)

-- its place, as segment and offset
abbrev pub nth_place : Live → ℕ → ℕ × ℕ
nth_place r n = place_of (slice_index_or r.blocks n 0)

-- a block that is put is the last one
abbrev pub with_last : Live → Outcome (Put (Layout ℕ)) → Live
with_last r (Done p) = record { layout = p.region; blocks = r.blocks ++ address p.at ∷ [] }
with_last r (Refused why) = r

-- a block that moves stays the n-th
abbrev pub with_nth : Live → ℕ → Outcome (Put (Layout ℕ)) → Live
with_nth r n (Done p) = record { layout = p.region; blocks = set r.blocks n (address p.at) }
with_nth r n (Refused why) = r

-- without the n-th
abbrev pub without_nth : Live → ℕ → Live
without_nth r n = record { layout = without_block_at r.layout (nth_place r n); blocks = remove r.blocks n }

-- what a call gives that puts a block or changes the n-th one's size
abbrev pub put_last : Terms → Live → ℕ → Bool → Outcome (Put (Layout ℕ))
put_last terms r size refused = best_alloc terms r.layout 0 size 32 refused

abbrev pub resize_nth : Terms → Live → ℕ → ℕ → Bool → Outcome (Put (Layout ℕ))
resize_nth terms r n size refused = best_resize terms r.layout (nth_place r n) size true refused

-- what a call leaves that needs no segment or got it; one that names no block leaves all
abbrev pub after_best : Terms → BestCall → Live → Live
after_best terms (Alloc size) r = with_last r (put_last terms r size false)
after_best terms (Resize n size) r = if has_nth r n then with_nth r n (resize_nth terms r n size false) else r
after_best terms (Free n) r = if has_nth r n then without_nth r n else r
after_best terms Clear r = record { layout = cleared_layout r.layout; blocks = [] }
after_best terms Compact r = record { layout = compacted_layout r.layout; blocks = r.blocks }

-- and each of a list
abbrev pub after_bests : Terms → List BestCall → Live → Live
after_bests terms [] r = r
after_bests terms (call ∷ calls) r = after_bests terms calls (after_best terms call r)

-- the greatest number of gaps after any of these calls, 0 with no call
abbrev pub greatest_gaps : Terms → List BestCall → Live → ℕ
greatest_gaps terms [] r = 0
greatest_gaps terms (call ∷ calls) r =
    max (gap_count (after_best terms call r).layout) (greatest_gaps terms calls (after_best terms call r))

-- how many calls one counts as: none where it names no block, and where it goes over the segments, one for each of these
abbrev pub best_weight : BestCall → Live → ℕ
best_weight (Alloc size) r = 1
best_weight (Resize n size) r = if has_nth r n then 1 else 0
best_weight (Free n) r = if has_nth r n then 1 else 0
best_weight Clear r = max 1 (length r.layout.segments)
best_weight Compact r = max 1 (length r.layout.segments)

-- and a list of them
abbrev pub bests_made : Terms → List BestCall → Live → ℕ
bests_made terms [] r = 0
bests_made terms (call ∷ calls) r = best_weight call r + bests_made terms calls (after_best terms call r)

-- a call gives this refusal, where a segment that it needs is refused or not
abbrev pub IsRefusedBy : Terms → BestCall → Live → Bool → Fault → Type 0
IsRefusedBy terms (Alloc size) r refused why = put_last terms r size refused ≡ Refused why
IsRefusedBy terms (Resize n size) r refused why = (has_nth r n ≡ true) × (resize_nth terms r n size refused ≡ Refused why)
IsRefusedBy terms (Free n) r refused why = ⊥
IsRefusedBy terms Clear r refused why = ⊥
IsRefusedBy terms Compact r refused why = ⊥

-- so does the call at a place of a list, where those before it were made
pub record IsRefusedAt (terms : Terms) (calls : List BestCall) (k : ℕ) (r : Live) (refused : Bool) (why : Fault) : Type 0 where
  pub there : k < length calls
  pub by : IsRefusedBy terms (slice_index_or calls k Compact) (after_bests terms (take k calls) r) refused why

-- the size that a call asks for is from 1 to 16,777,216 bytes
abbrev pub HasSize : BestCall → Type 0
HasSize (Alloc size) = IsSize size
HasSize (Resize n size) = IsSize size
HasSize (Free n) = Unit {0}
HasSize Clear = Unit {0}
HasSize Compact = Unit {0}

-- blocks stand at these addresses, and none of these is there twice
pub record AreLive (blocks : List (Block ℕ)) (live : List ℕ) : Type 0 where
  pub distinct : AreDistinct live
  pub there : All (HasBlock blocks) live

-- what calls that were made leave of the discipline: nothing was refused, and out is what was, but for the segments of the region
-- that came and went
pub record IsDiscServed (old new : Discipline) (segments segments' : List (ℕ × ℕ)) : Type 0 where
  pub none : NoneRefused old new
  pub out : (rest : List (ℕ × ℕ)) → old.out ≡ rest ++ segments → new.out ≡ rest ++ segments'

-- a refused call leaves of the discipline what was out, but for the segments of the region that came and went, and where the
-- refusal is its own its faults rose
pub record IsDiscLeft (why : RegionFault) (old new : Discipline) (segments segments' : List (ℕ × ℕ)) : Type 0 where
  pub kept : Kept old new
  pub rose : why ≡ code.NoSegment → Rose old.faults new.faults
  pub out : (rest : List (ℕ × ℕ)) → old.out ≡ rest ++ segments → new.out ≡ rest ++ segments'

-- the fault of a call: the region has no place for more segments exactly where the definitions say so, the discipline refused
-- one only where they need one, and no other fault comes but want of memory
pub record IsFault (why : RegionFault) (Refuses : Bool → Fault → Type 0) : Type 0 where
  pub too_many : (why ≡ code.TooManySegments) ↔ Refuses false TooManySegments
  pub no_segment : why ≡ code.NoSegment → Refuses true NoSegment
  pub only : (why ≡ code.TooManySegments) ⊎ ((why ≡ code.NoSegment) ⊎ (why ≡ code.OutOfMemory))

-- the calls before place k were made and the one there was refused; or none was made, for want of memory
pub record IsStoppedAt (terms : Terms) (calls : List BestCall) (r : Live) (k : ℕ) (why : RegionFault) (left : Layout ℕ) : Type 0 where
  pub place : (k < length calls) ⊎ ((k ≡ 0) × (why ≡ code.OutOfMemory))
  pub layout : left ≡ (after_bests terms (take k calls) r).layout
  pub fault : IsFault why (IsRefusedAt terms calls k r)
