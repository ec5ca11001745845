-- What the streams of a run mean.
use Rattle.std.specs.Prelude.{ℕ, List, Option}

-- what a source has left and how often a read failed, and what the replies' sink tells and how often a write failed
pub record Flows : Type 0 where
  pub left : Option (List ℕ)
  pub reads : ℕ
  pub written : Option (List ℕ)
  pub writes : ℕ

abbrev pub flows : {S O : Type 0} → (S → Option (List ℕ)) → (S → ℕ) → (O → Option (List ℕ)) → (O → ℕ) → S → O → Flows
flows left reads written writes source out =
    record { left = left source; reads = reads source; written = written out; writes = writes out }

-- the same, and what the faults' sink tells and how often a write of it failed
pub record Streams : Type 0 where
  pub left : Option (List ℕ)
  pub reads : ℕ
  pub written : Option (List ℕ)
  pub writes : ℕ
  pub told : Option (List ℕ)
  pub errors : ℕ

abbrev pub streams : {S O E : Type 0} → (S → Option (List ℕ)) → (S → ℕ) → (O → Option (List ℕ)) → (O → ℕ) → (E → Option (List ℕ)) → (E → ℕ) → S → O → E → Streams
streams left reads written writes told errors source out err =
    record {
      left = left source;
      reads = reads source;
      written = written out;
      writes = writes out;
      told = told err;
      errors = errors err;
    }
