-- A number in bytes.
use Rattle.std.specs.Prelude.{ℕ, List, take, drop}
use Rattle.std.specs.Int.{from_le_bytes, w32}

-- the number in the four bytes from a place on, the lowest first
unfoldable pub field_at : ℕ → List ℕ → ℕ
field_at at bytes = from_le_bytes w32 (take 4 (drop at bytes))
