-- What the calls on chains write.
use Rattle.std.specs.Prelude.{◌≡◌, ◌≢◌, ℕ, ◌+◌, ◌*◌, ◌<◌, ◌≤◌, List, [], ◌∷◌, false, true, length, is_some}
use Rattle.vc_base.specs.Cells.{Blocks, HasBytes, body_of, bytes_at, word_at}
use Rattle.vc_base.specs.Holders.{KeepsBut, contains}
use Rattle.vc_dtlist.specs.declared.dt_list.DtList.{DtList}
use Rattle.vc_dtlist.specs.TableWrites.{KeepsTables}
use Rattle.vc_dtlist.specs.Linked.{HasWords, LinksFor}
use Rattle.vc_dthash.specs.Chained.{AreChained}

-- only slot k of a table was written
pub record SlotWritten (old new : Blocks) (table k value : ℕ) : Type 0 where
  pub there : (a : ℕ) → is_some (new a) ≡ is_some (old a)
  pub sizes : (a : ℕ) → length (bytes_at new a) ≡ length (bytes_at old a)
  pub others : (a : ℕ) → a ≢ table → new a ≡ old a
  pub read : word_at new table k ≡ value
  pub slots : (j : ℕ) → j ≢ k → word_at new table j ≡ word_at old table j

-- slot k of a table or, where one is named, the holder before leads to an address now: all else stays
pub record Pointed (old new : Blocks) (table k before to : ℕ) : Type 0 where
  pub there : (a : ℕ) → is_some (new a) ≡ is_some (old a)
  pub sizes : (a : ℕ) → length (bytes_at new a) ≡ length (bytes_at old a)
  pub bodies : (a : ℕ) → a ≢ table → body_of (bytes_at new a) ≡ body_of (bytes_at old a)
  pub others : (a : ℕ) → a ≢ table → (before ≢ 0 → a ≢ before) → new a ≡ old a
  pub words : (a j : ℕ) → a ≢ table → j ≢ 2 → word_at new a j ≡ word_at old a j
  pub start : before ≡ 0 → word_at new table k ≡ to
  pub start_stays : before ≢ 0 → word_at new table k ≡ word_at old table k
  pub slots : (j : ℕ) → j ≢ k → word_at new table j ≡ word_at old table j
  pub next : before ≢ 0 → word_at new before 2 ≡ to

-- the holder before, if any, has its words, and isn't the table
pub record CanPoint (blocks : Blocks) (table k before : ℕ) : Type 0 where
  pub place : HasBytes blocks table (8 * k + 8)
  pub words : HasWords blocks before
  pub apart : before ≢ table

-- each slot of a table is 0 now
pub record Cleared (old new : Blocks) (table slots : ℕ) : Type 0 where
  pub zeros : (k : ℕ) → k < slots → word_at new table k ≡ 0
  pub keeps : KeepsTables (table ∷ []) [] old new

-- a holder stands at the front of the chain of slot k now
pub record Fronted (old new : Blocks) (table k at : ℕ) : Type 0 where
  pub there : (a : ℕ) → is_some (new a) ≡ is_some (old a)
  pub sizes : (a : ℕ) → length (bytes_at new a) ≡ length (bytes_at old a)
  pub bodies : (a : ℕ) → a ≢ table → body_of (bytes_at new a) ≡ body_of (bytes_at old a)
  pub others : (a : ℕ) → a ≢ table → a ≢ at → new a ≡ old a
  pub words : (a j : ℕ) → a ≢ table → j ≢ 2 → word_at new a j ≡ word_at old a j
  pub first : word_at new table k ≡ at
  pub slots : (j : ℕ) → j ≢ k → word_at new table j ≡ word_at old table j
  pub next : word_at new at 2 ≡ word_at old table k

-- a holder and a table of so many slots, which is another block
pub record CanFront (blocks : Blocks) (table slots at : ℕ) : Type 0 where
  pub place : HasBytes blocks table (8 * slots)
  pub some : 1 ≤ slots
  pub holder : HasBytes blocks at 32
  pub apart : at ≢ table

-- so many holders are linked, and a table of zeros is none of them
pub record CanFill (list : DtList) (blocks : Blocks) (table slots count : ℕ) : Type 0 where
  pub holders : List ℕ
  pub links : LinksFor list blocks holders
  pub many : count ≡ length holders
  pub place : HasBytes blocks table (8 * slots)
  pub some : 1 ≤ slots
  pub apart : contains holders table ≡ false
  pub zeros : (k : ℕ) → k < slots → word_at blocks table k ≡ 0

-- they stand in the table's chains now, by the hashes in their words 3
pub record Filled (table slots : ℕ) (holders : List ℕ) (before after : Blocks) : Type 0 where
  pub chains : AreChained (λ a. word_at before a 3) after table slots holders
  pub words : (a j : ℕ) → a ≢ table → j ≢ 2 → word_at after a j ≡ word_at before a j
  pub keeps : KeepsTables (table ∷ []) holders before after

-- so many holders are linked
pub record IsLinkedBy (list : DtList) (blocks : Blocks) (count : ℕ) : Type 0 where
  pub holders : List ℕ
  pub links : LinksFor list blocks holders
  pub many : count ≡ length holders

-- words of each holder were written by which something holds of it now, and they are linked still
pub record Marked (P : Blocks → ℕ → Type 0) (list : DtList) (holders : List ℕ) (before after : Blocks) : Type 0 where
  pub links : LinksFor list after holders
  pub marks : (a : ℕ) → contains holders a ≡ true → P after a
  pub keeps : KeepsBut holders before after
