-- Allocation and freeing by exact best fit.
use Rattle.std.specs.Prelude.{ℕ, ◌+◌, Option, Some, None, Bool, replicate}
use Rattle.vc_model.specs.Discipline.{Terms}
use Rattle.vc_model.specs.Segments.{Asked, Grant, Granted, TooMany, NotLent, ask, round_up, span}
use Rattle.vc_model.specs.Place.{place}
use Rattle.vc_model.specs.Layout.{Block, Layout, footprints, with_block, with_grant, without_block}
use Rattle.vc_model.specs.Outcome.{Outcome, Done, Refused, Put, TooManySegments, NoSegment}

-- a block of zeros
abbrev pub zeros : {L : Type 0} → L → ℕ → ℕ × ℕ → Block L
zeros label size at = record { label = label; seg = at.0; off = at.1; size = size; bytes = replicate size 0 }

-- the block is put at its place
abbrev pub put_at : {L : Type 0} → Layout L → L → ℕ → Option Grant → ℕ × ℕ → Outcome (Put (Layout L))
put_at r label size granted at =
    Done (record { at = at; region = record { segments = r.segments; blocks = with_block (zeros label size at) r.blocks }; granted = granted })

abbrev pub put : {L : Type 0} → Layout L → L → ℕ → Option Grant → Option (ℕ × ℕ) → Outcome (Put (Layout L))
put r label size granted None = Refused NoSegment
put r label size granted (Some at) = put_at r label size granted at

abbrev pub place_in : {L : Type 0} → Layout L → ℕ → ℕ → Option (ℕ × ℕ)
place_in r size align = place r.segments (footprints r.blocks) size align

abbrev pub put_in_new : {L : Type 0} → Layout L → L → ℕ → ℕ → Asked → Outcome (Put (Layout L))
put_in_new r label size align (Granted g) = put (with_grant r g) label size (Some g) (place_in (with_grant r g) size align)
put_in_new r label size align TooMany = Refused TooManySegments
put_in_new r label size align NotLent = Refused NoSegment

-- the bytes that are asked for where a block has no place
abbrev pub best_need : Terms → ℕ → ℕ → ℕ
best_need terms size align = round_up (span size + align) terms.round

abbrev pub put_or_ask : {L : Type 0} → Terms → Layout L → L → ℕ → ℕ → Bool → Option (ℕ × ℕ) → Outcome (Put (Layout L))
put_or_ask terms r label size align refused (Some at) = put_at r label size None at
put_or_ask terms r label size align refused None =
    put_in_new r label size align (ask terms (best_need terms size align) r.segments refused)

-- a block goes to its place; with no place more bytes are asked for first, and whether that is refused is the one free choice
abbrev pub best_alloc : {L : Type 0} → Terms → Layout L → L → ℕ → ℕ → Bool → Outcome (Put (Layout L))
best_alloc terms r label size align refused = put_or_ask terms r label size align refused (place_in r size align)

-- the layout without the block at a place, as segment and offset
abbrev pub without_block_at : {L : Type 0} → Layout L → ℕ × ℕ → Layout L
without_block_at r at = record { segments = r.segments; blocks = without_block at r.blocks }
