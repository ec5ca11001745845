-- What the sinks of a task mean.
use Rattle.std.specs.Prelude.{ℕ, ◌≤◌, List, Option}

-- what the sink of the answer tells and how often a write failed, and the same of the sink of what is wrong
pub record Sinks : Type 0 where
  pub written : Option (List ℕ)
  pub writes : ℕ
  pub told : Option (List ℕ)
  pub errors : ℕ

abbrev pub sinks : {O E : Type 0} → (O → Option (List ℕ)) → (O → ℕ) → (E → Option (List ℕ)) → (E → ℕ) → O → E → Sinks
sinks written writes told errors out err =
    record { written = written out; writes = writes out; told = told err; errors = errors err }

-- the counts of failures never fall
pub record NoneFalls (old new : Sinks) : Type 0 where
  pub writes : old.writes ≤ new.writes
  pub errors : old.errors ≤ new.errors
