-- A live block of a trace.
use Rattle.std.specs.Prelude.{ℕ}

-- its size in bytes, its place in the best region, how many blocks of the last region were allocated before it, and the place of its cell in the pool of its class
pub record LivePlaces : Type 0 where
  pub size : ℕ
  pub best : ℕ × ℕ
  pub last : ℕ
  pub cell : ℕ × ℕ
