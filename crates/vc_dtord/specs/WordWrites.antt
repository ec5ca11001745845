-- What the writing of a holder's words leaves.
use Rattle.std.specs.Prelude.{◌≡◌, ◌≢◌, ℕ, ◌+◌, ◌*◌, ◌≤◌, true, drop}
use Rattle.vc_base.specs.Cells.{Blocks, WordWritten, WordsWritten, bytes_at, word_at}
use Rattle.vc_dtord.specs.Nodes.{is_link, is_node}

-- a number below 2^32 was written into word k of a block
pub record NumberWritten (old new : Blocks) (at k value : ℕ) : Type 0 where
  pub word : WordWritten old new at k value
  pub link : is_link k (bytes_at new at) ≡ true
  pub links : (j : ℕ) → j ≢ k → is_link j (bytes_at new at) ≡ is_link j (bytes_at old at)
  pub behind : (n : ℕ) → 8 * k + 8 ≤ n → drop n (bytes_at new at) ≡ drop n (bytes_at old at)

-- the words of a holder are 0, and nothing else was written
pub record IsHolderCleared (old new : Blocks) (at : ℕ) : Type 0 where
  pub written : WordsWritten old new at
  pub node : is_node new at ≡ true
  pub last : word_at new at 3 ≡ 0
