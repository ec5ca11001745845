-- A stream of std with a count of the calls that failed.
use Rattle.std.specs.Prelude.{ℕ}

-- the stream, and how often a read of it or a write to it has failed
pub record Counted (S : Type 0) : Type 0 where
  pub stream : S
  pub faults : ℕ
