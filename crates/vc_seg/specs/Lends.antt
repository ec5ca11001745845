-- What a segment's memory is once a `&mut` to its bytes has ended.
use Rattle.std.specs.Prelude.{ℕ, List, length}
use Rattle.std.specs.Borrow.{Fml, MutBor, Array, Lends, u8}
use Rattle.std.specs.List.{refill}
use Rattle.vc_seg.specs.declared.block.Block.{Block}
use Rattle.vc_seg.specs.contracts.block.Block.{the_row}

-- the same memory, with bytes ws
abbrev pub block_with_bytes : Block → List ℕ → Block
block_with_bytes b ws = record { at = b.at; alloc = b.alloc; bytes = refill (length b.bytes) b.bytes ws }

-- it ends with the bytes that the slice ends with
abbrev pub lends_bytes : MutBor Block → MutBor (List ℕ) → Fml
lends_bytes b r = Lends the_row (Array u8 0) b r (block_with_bytes b.now)
