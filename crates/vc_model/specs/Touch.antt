-- The block at a place, and bytes that are written into it.
use Rattle.std.specs.Prelude.{ℕ, ◌+◌, ◌≤◌, List, [], ◌∷◌, Option, Contains, IfSome, map, if◌then◌else◌}
use Rattle.std.specs.List.{find}
use Rattle.vc_model.specs.Addr.{place_of}
use Rattle.vc_model.specs.Bytes.{with_bytes}
use Rattle.vc_model.specs.Layout.{Block, Layout, address_of, is_at}

-- the block at a place, as segment and offset
abbrev pub find_block : {L : Type 0} → ℕ × ℕ → List (Block L) → Option (Block L)
find_block at blocks = find (is_at at) blocks

-- a block with other bytes from an offset in it on
abbrev pub rewritten_block : {L : Type 0} → ℕ → List ℕ → Block L → Block L
rewritten_block off src b = record b { bytes = with_bytes off src b.bytes }

-- the blocks with the one at a place changed
abbrev pub change_block : {L : Type 0} → (Block L → Block L) → ℕ × ℕ → List (Block L) → List (Block L)
change_block change at [] = []
change_block change at (b ∷ bs) = if is_at at b then change b ∷ bs else b ∷ change_block change at bs

-- the layout with other bytes in the block at a place
abbrev pub with_bytes_at : {L : Type 0} → Layout L → ℕ × ℕ → ℕ → List ℕ → Layout L
with_bytes_at r at off src = record { segments = r.segments; blocks = change_block (rewritten_block off src) at r.blocks }

-- a block stands at this address
abbrev pub HasBlock : {L : Type 0} → List (Block L) → ℕ → Type 0
HasBlock blocks a = Contains (map address_of blocks) a

-- the block at this address has these bytes, from an offset in it on
abbrev pub HasRange : {L : Type 0} → List (Block L) → ℕ → ℕ → ℕ → Type 0
HasRange blocks a off len = IfSome (find_block (place_of a) blocks) (λ b. off + len ≤ b.size)
