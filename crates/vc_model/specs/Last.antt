-- A last region: blocks one behind another, of which only the one allocated latest is freed or resized.
use Rattle.std.specs.Prelude.{ℕ, ◌+◌, List, [], ◌∷◌, ◌++◌, Option, Some, None, Bool, filter, fold, map, max, nat_le, ◌==◌, if◌then◌else◌}
use Rattle.std.specs.List.{last_or}
use Rattle.vc_model.specs.Discipline.{Terms}
use Rattle.vc_model.specs.Segments.{Asked, Grant, Granted, TooMany, NotLent, ask, round_up, span}
use Rattle.vc_model.specs.Layout.{Block, Layout, footprint, is_at, with_grant}
use Rattle.vc_model.specs.Outcome.{Outcome, Done, Refused, Put, Fixed, NotLast, TooManySegments, NoSegment}
use Rattle.vc_model.specs.Best.{zeros, without_block_at}
use Rattle.vc_model.specs.Resize.{is_usable, outcome_of_move, sized_block, stays}

-- the last item of a list
abbrev pub last_of : {A : Type 0} → List A → Option A
last_of xs = last_or None xs

-- the segment lent latest, and the block allocated latest
abbrev pub newest : {L : Type 0} → Layout L → Option (ℕ × ℕ)
newest r = last_of r.segments

abbrev pub latest : {L : Type 0} → Layout L → Option (Block L)
latest r = last_of r.blocks

-- where the next block begins in the segment of that number: behind the footprints of all blocks there, or at offset 32
abbrev pub next_offset : {L : Type 0} → ℕ → List (Block L) → ℕ
next_offset number blocks = fold max 32 (map (λ b. b.off + span b.size) (filter (λ b. b.seg == number) blocks))

-- whether a footprint of that span, with its block at an offset, ends within the usable part of a segment of that size
abbrev pub has_end : ℕ → ℕ → ℕ → Bool
has_end span off bytes = nat_le (off + span) bytes

-- the place in a segment, where the block fits behind those there
abbrev pub place_behind_latest : {L : Type 0} → List (Block L) → ℕ → Option (ℕ × ℕ) → Option (ℕ × ℕ)
place_behind_latest blocks size None = None
place_behind_latest blocks size (Some s) =
    if has_end (span size) (next_offset s.0 blocks) s.1 then Some (s.0, next_offset s.0 blocks) else None

-- the place for a block in the newest segment
abbrev pub last_place : {L : Type 0} → Layout L → ℕ → Option (ℕ × ℕ)
last_place r size = place_behind_latest r.blocks size (newest r)

-- the block is put there, as the latest
abbrev pub put_latest : {L : Type 0} → Layout L → L → ℕ → Option Grant → ℕ × ℕ → Outcome (Put (Layout L))
put_latest r label size granted at =
    Done (record { at = at; region = record { segments = r.segments; blocks = r.blocks ++ zeros label size at ∷ [] }; granted = granted })

abbrev pub put_behind_latest : {L : Type 0} → Layout L → L → ℕ → Option Grant → Option (ℕ × ℕ) → Outcome (Put (Layout L))
put_behind_latest r label size granted None = Refused NoSegment
put_behind_latest r label size granted (Some at) = put_latest r label size granted at

-- with what is granted the same rule holds
abbrev pub put_in_newest : {L : Type 0} → Layout L → L → ℕ → Asked → Outcome (Put (Layout L))
put_in_newest r label size (Granted g) = put_behind_latest (with_grant r g) label size (Some g) (last_place (with_grant r g) size)
put_in_newest r label size TooMany = Refused TooManySegments
put_in_newest r label size NotLent = Refused NoSegment

-- the bytes that are asked for where a block doesn't fit in the newest one
abbrev pub last_need : Terms → ℕ → ℕ
last_need terms size = round_up (span size + 32) terms.round

abbrev pub put_or_lend : {L : Type 0} → Terms → Layout L → L → ℕ → Bool → Option (ℕ × ℕ) → Outcome (Put (Layout L))
put_or_lend terms r label size refused (Some at) = put_latest r label size None at
put_or_lend terms r label size refused None = put_in_newest r label size (ask terms (last_need terms size) r.segments refused)

-- a block goes behind the last one of the newest segment; where it doesn't fit, a segment is asked for first, and is then the newest
abbrev pub last_alloc : {L : Type 0} → Terms → Layout L → L → ℕ → Bool → Outcome (Put (Layout L))
last_alloc terms r label size refused = put_or_lend terms r label size refused (last_place r size)

-- whether the latest block can have a size where it is
abbrev pub can_end : {L : Type 0} → Layout L → ℕ → Block L → Bool
can_end r size b = is_usable r.segments (footprint (sized_block size b))

abbrev pub resize_latest : {L : Type 0} → Terms → Layout L → ℕ → Bool → Bool → Block L → Outcome (Put (Layout L))
resize_latest terms r size may_move refused b =
    if can_end r size b then stays r size b
    else (if may_move then outcome_of_move size b (last_alloc terms r b.label size refused) else Refused Fixed)

-- a call on the block at a place, which is refused unless that is the latest
abbrev pub if_latest : {A L : Type 0} → ℕ × ℕ → (Block L → Outcome A) → Option (Block L) → Outcome A
if_latest at call None = Refused NotLast
if_latest at call (Some b) = if is_at at b then call b else Refused NotLast

-- the block at a place gets another size; it stays there if its new footprint lies in the usable part, and else moves if it may
abbrev pub last_resize : {L : Type 0} → Terms → Layout L → ℕ × ℕ → ℕ → Bool → Bool → Outcome (Put (Layout L))
last_resize terms r at size may_move refused = if_latest at (resize_latest terms r size may_move refused) (latest r)

-- the block at a place goes
abbrev pub last_free : {L : Type 0} → Layout L → ℕ × ℕ → Outcome (Layout L)
last_free r at = if_latest at (λ b. Done (without_block_at r at)) (latest r)
