-- What a call on a list and its tables changes and keeps.
use Rattle.std.specs.Prelude.{◌≡◌, ℕ, ◌≤◌, List, false, length, is_some}
use Rattle.vc_base.specs.Cells.{Blocks, WordsWritten, body_of, bytes_at, word_at}
use Rattle.vc_base.specs.Holders.{contains}
use Rattle.vc_dtlist.specs.Linked.{IsPlain}

-- from old to new the blocks of some cells change so, and the rest of the cells stays
pub record ChangesIn {C : Type 0} (blocks : C → Blocks) (RestStays : C → C → Type 0) (old new : C) (Changes : Blocks → Blocks → Type 0) : Type 0 where
  pub change : Changes (blocks old) (blocks new)
  pub rest : RestStays old new

-- which blocks there are and their sizes stay, the bodies of all but the tables, and each block that is neither a table
-- nor in the list
pub record KeepsTables (tables holders : List ℕ) (old new : Blocks) : Type 0 where
  pub there : (a : ℕ) → is_some (new a) ≡ is_some (old a)
  pub sizes : (a : ℕ) → length (bytes_at new a) ≡ length (bytes_at old a)
  pub bodies : (a : ℕ) → contains tables a ≡ false → body_of (bytes_at new a) ≡ body_of (bytes_at old a)
  pub others : (a : ℕ) → contains tables a ≡ false → contains holders a ≡ false → new a ≡ old a

-- the words of a holder that name its neighbours were written
pub record EndsWritten (at before behind : ℕ) (old new : Blocks) : Type 0 where
  pub written : WordsWritten old new at
  pub previous : word_at new at 0 ≡ before
  pub next : word_at new at 1 ≡ behind
  pub words : (a k : ℕ) → 2 ≤ k → word_at new a k ≡ word_at old a k

-- its other two words were, and are 0
pub record PlainWritten (at : ℕ) (old new : Blocks) : Type 0 where
  pub written : WordsWritten old new at
  pub plain : IsPlain new at
