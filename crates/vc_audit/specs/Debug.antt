-- A debug region: a best region whose blocks hold guard bytes around the user's bytes, and the marks of watched blocks.
use Rattle.std.specs.Prelude.{◌≡◌, ℕ, ◌+◌, ◌-◌, ℤ, pos, negsuc, ◌-ℤ◌, List, [], ◌∷◌, Option, Some, None, Bool, false, IfSome, IsTrue, drop, find, map, min, not, option_map, position, replicate, take, unwrap_or, nat_lt, ◌==◌}
use Rattle.std.specs.List.{filter_map}
use Rattle.vc_model.specs.Addr.{address, place_of}
use Rattle.vc_model.specs.Discipline.{Terms}
use Rattle.vc_model.specs.Layout.{Block, Layout, address_of, empty_layout, relabel_layout}
use Rattle.vc_model.specs.Outcome.{Outcome, Done, Refused, Put}
use Rattle.vc_model.specs.Best.{best_alloc, best_need, without_block_at}
use Rattle.vc_model.specs.Resize.{best_resize, can_stay}
use Rattle.vc_model.specs.Touch.{find_block, with_bytes_at}
use Rattle.vc_model.specs.Compact.{cleared_layout, compact_count, compacted_layout}
use Rattle.vc_model.specs.Walk.{by_address}
use Rattle.vc_best.specs.Ask.{AsksForSegment}
use Rattle.vc_addrmap.specs.Map.{Numbers, moved_number, no_numbers, with_number}

-- its best region, whose blocks hold 32 bytes of front guard, the user's bytes, and 16 bytes of back guard; and its marks:
-- the line of each watched block, by the address of the user's bytes
pub record Debug (L : Type 0) : Type 0 where
  pub best : Layout L
  pub marks : Numbers

-- with no segment, no block and no mark
abbrev pub empty_debug : {L : Type 0} → Debug L
empty_debug = record { best = empty_layout; marks = no_numbers }

-- the byte that guards are made of
abbrev pub guard_byte : ℕ
guard_byte = 165

-- the size of a block with its guards
abbrev pub guarded_size : ℕ → ℕ
guarded_size size = size + 48

-- where the user's bytes begin of a block with guards at a place, and where the guards begin around the user's bytes there
abbrev pub user_place : ℕ × ℕ → ℕ × ℕ
user_place at = (at.0, at.1 + 32)

abbrev pub guarded_place : ℕ × ℕ → ℕ × ℕ
guarded_place at = (at.0, at.1 - 32)

-- the user's block in a block with guards
abbrev pub user_block : {L : Type 0} → Block L → Block L
user_block b = record { label = b.label; seg = b.seg; off = b.off + 32; size = b.size - 48; bytes = take (b.size - 48) (drop 32 b.bytes) }

abbrev pub user_blocks : {L : Type 0} → Debug L → List (Block L)
user_blocks d = map user_block d.best.blocks

-- the segments and the user's blocks
abbrev pub user_layout : {L : Type 0} → Debug L → Layout L
user_layout d = record { segments = d.best.segments; blocks = user_blocks d }

-- the back guard is written behind the user's bytes of the block with guards at a place
abbrev pub with_back_guard : {L : Type 0} → Layout L → ℕ × ℕ → ℕ → Layout L
with_back_guard r at size = with_bytes_at r at (32 + size) (replicate 16 guard_byte)

-- both guards are written
abbrev pub with_guards : {L : Type 0} → Layout L → ℕ × ℕ → ℕ → Layout L
with_guards r at size = with_back_guard (with_bytes_at r at 0 (replicate 32 guard_byte)) at size

-- behind the user's bytes that are kept there are zeros, and the back guard is written anew
abbrev pub with_zeros : {L : Type 0} → Layout L → ℕ × ℕ → ℕ → ℕ → Layout L
with_zeros r at kept size = with_back_guard (with_bytes_at r at (32 + kept) (replicate (size - kept) 0)) at size

-- an outcome of the best region as one of the debug region
abbrev pub outcome_by : {R S : Type 0} → (Put R → Put S) → Outcome (Put R) → Outcome (Put S)
outcome_by f (Done p) = Done (f p)
outcome_by f (Refused why) = Refused why

-- a block was put: its guards are written
abbrev pub put_with_guards : {L : Type 0} → Numbers → ℕ → Put (Layout L) → Put (Debug L)
put_with_guards marks size p =
    record { at = user_place p.at; region = record { best = with_guards p.region p.at size; marks = marks }; granted = p.granted }

-- a block is put, at an offset that 32 divides
abbrev pub debug_alloc : {L : Type 0} → Terms → Debug L → L → ℕ → Bool → Outcome (Put (Debug L))
debug_alloc terms d label size refused = outcome_by (put_with_guards d.marks size) (best_alloc terms d.best label (guarded_size size) 32 refused)

-- the bytes of the segment that a call asks for, where it needs one
abbrev pub debug_need : Terms → ℕ → ℕ
debug_need terms size = best_need terms (guarded_size size) 32

-- a block asks for a segment, with its guards
abbrev pub DebugAsks : {L : Type 0} → Terms → Debug L → ℕ → Type 0
DebugAsks terms d size = AsksForSegment terms d.best (guarded_size size) 32

-- the size of the user's block at a place; 0 where there is none
abbrev pub user_size : {L : Type 0} → Debug L → ℕ × ℕ → ℕ
user_size d at = unwrap_or (option_map (λ b. b.size) (find_block at (user_blocks d))) 0

-- the block at a place got another size, there or elsewhere: its mark goes along
abbrev pub put_with_mark : {L : Type 0} → Numbers → ℕ × ℕ → ℕ → ℕ → Put (Layout L) → Put (Debug L)
put_with_mark marks at kept size p =
    record {
      at = user_place p.at;
      region = record { best = with_zeros p.region p.at kept size; marks = moved_number (address at) (address (user_place p.at)) marks };
      granted = p.granted;
    }

-- the block at a place gets another size
abbrev pub debug_resize : {L : Type 0} → Terms → Debug L → ℕ × ℕ → ℕ → Bool → Bool → Outcome (Put (Debug L))
debug_resize terms d at size may_move refused =
    outcome_by (put_with_mark d.marks at (min (user_size d at) size) size) (best_resize terms d.best (guarded_place at) (guarded_size size) may_move refused)

-- whether the user's block stays where it is then
abbrev pub stays_debug : {L : Type 0} → Debug L → ℕ → Block L → Bool
stays_debug d size b = can_stay d.best (guarded_size size) (record b { off = b.off - 32 })

-- a block asks for one where it gets another size
pub record DebugAsksToMove {L : Type 0} (terms : Terms) (d : Debug L) (a size : ℕ) (may_move : Bool) : Type 0 where
  -- it can't stay where it is
  pub stays : IfSome (find_block (place_of a) (user_blocks d)) (λ b. stays_debug d size b ≡ false)
  -- it may move
  pub may : IsTrue may_move
  pub asks : DebugAsks terms d size

-- the block at a place goes, and its mark
abbrev pub debug_free : {L : Type 0} → Debug L → ℕ × ℕ → Debug L
debug_free d at = record { best = without_block_at d.best (guarded_place at); marks = with_number (address at) None d.marks }

-- other bytes stand among the user's bytes of the block at a place, from an offset on
abbrev pub debug_write : {L : Type 0} → Debug L → ℕ × ℕ → ℕ → List ℕ → Debug L
debug_write d at off bytes = record { best = with_bytes_at d.best (guarded_place at) (32 + off) bytes; marks = d.marks }

-- all blocks and all marks go
abbrev pub debug_clear : {L : Type 0} → Debug L → Debug L
debug_clear d = record { best = cleared_layout d.best; marks = no_numbers }

-- the segments without a block go
abbrev pub debug_compact : {L : Type 0} → Debug L → Debug L
debug_compact d = record { best = compacted_layout d.best; marks = d.marks }

-- how many segments go by that
abbrev pub debug_compact_count : {L : Type 0} → Debug L → ℕ
debug_compact_count d = compact_count d.best

-- the place in a block with guards of an offset from the user's bytes on, from -32 on
abbrev pub guarded_offset : ℤ → ℕ
guarded_offset (pos off) = 32 + off
guarded_offset (negsuc off) = 31 - off

-- one byte is another, at an offset from the user's bytes of the block at a place on
abbrev pub with_poke : {L : Type 0} → Debug L → ℕ × ℕ → ℤ → ℕ → Debug L
with_poke d at off byte = record { best = with_bytes_at d.best (guarded_place at) (guarded_offset off) (byte ∷ []); marks = d.marks }

-- whether a byte of a guard isn't what guards are made of
abbrev pub is_damaged : ℕ → Bool
is_damaged byte = not (byte == guard_byte)

-- the first of two places, where the first has one
abbrev pub first_of : Option ℕ → Option ℕ → Option ℕ
first_of (Some place) other = Some place
first_of None other = other

-- the place in a block with guards of the first byte of its guards that is damaged
abbrev pub damaged_place : {L : Type 0} → Block L → Option ℕ
damaged_place b =
    first_of (position is_damaged (take 32 b.bytes))
    (option_map (λ n. b.size - 16 + n) (position is_damaged (take 16 (drop (b.size - 16) b.bytes))))

-- the least offset from the user's bytes on of a damaged byte of its guards; None where its guards are whole
abbrev pub damage : {L : Type 0} → Block L → Option ℤ
damage b = option_map (λ n. pos n -ℤ pos 32) (damaged_place b)

-- the user's block and that offset, where it is damaged
abbrev pub damage_of : {L : Type 0} → Block L → Option (Block L × ℤ)
damage_of b = option_map (λ off. (user_block b, off)) (damage b)

-- the damaged blocks by address, each as the user's block with that offset
abbrev pub damaged_blocks : {L : Type 0} → Debug L → List (Block L × ℤ)
damaged_blocks d = filter_map damage_of (by_address d.best.blocks)

-- the first of them behind an address
abbrev pub next_damaged : {L : Type 0} → ℕ → Debug L → Option (Block L × ℤ)
next_damaged after d = find (λ f. nat_lt after (address_of f.0)) (damaged_blocks d)

-- the line of the block at a place, where it is watched
abbrev pub watched_at : {L : Type 0} → Debug L → ℕ × ℕ → Option ℕ
watched_at d at = d.marks (address at)

-- the block at a place is watched with a line
abbrev pub with_watch : {L : Type 0} → Debug L → ℕ × ℕ → ℕ → Debug L
with_watch d at line = record { best = d.best; marks = with_number (address at) (Some line) d.marks }

-- the same with other labels
abbrev pub relabel_debug : {L M : Type 0} → (L → M) → Debug L → Debug M
relabel_debug name d = record { best = relabel_layout name d.best; marks = d.marks }
