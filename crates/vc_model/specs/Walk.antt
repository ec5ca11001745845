-- What stands at a byte of a region, and what comes next in order of numbers and of addresses.
use Rattle.std.specs.Prelude.{ℕ, ◌+◌, ◌-◌, List, Option, Bool, find, option_map, nat_le, nat_lt, ◌==◌, ◌&&◌}
use Rattle.vc_model.specs.Order.{least_above, sorted_by}
use Rattle.vc_model.specs.Layout.{Block, address_of}

-- whether a block's bytes hold the byte at a place, as segment and offset
abbrev pub holds_byte : {L : Type 0} → ℕ × ℕ → Block L → Bool
holds_byte at b = (b.seg == at.0) && (nat_le b.off at.1 && nat_lt at.1 (b.off + b.size))

-- the block whose bytes hold the byte at a place, and the offset in it
abbrev pub block_at : {L : Type 0} → ℕ × ℕ → List (Block L) → Option (Block L × ℕ)
block_at at blocks = option_map (λ b. (b, at.1 - b.off)) (find (holds_byte at) blocks)

-- the size of the segment that has a byte at a place
abbrev pub segment_at : ℕ × ℕ → List (ℕ × ℕ) → Option ℕ
segment_at at segments = option_map (λ s. s.1) (find (λ s. (s.0 == at.0) && nat_lt at.1 s.1) segments)

-- the segment with the least number above one
abbrev pub next_segment : ℕ → List (ℕ × ℕ) → Option (ℕ × ℕ)
next_segment after segments = least_above (λ s. s.0) after segments

-- the segments by number
abbrev pub by_number : List (ℕ × ℕ) → List (ℕ × ℕ)
by_number segments = sorted_by (λ s. s.0) segments

-- the block with the least address above one
abbrev pub next_block : {L : Type 0} → ℕ → List (Block L) → Option (Block L)
next_block after blocks = least_above address_of after blocks

-- the blocks by address
abbrev pub by_address : {L : Type 0} → List (Block L) → List (Block L)
by_address blocks = sorted_by address_of blocks
