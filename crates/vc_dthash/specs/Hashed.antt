-- Which holders a set or bag in order of insertion stands for, and its table.
use Rattle.std.specs.Prelude.{◌≡◌, ◌≢◌, ℕ, ◌*◌, ◌≤◌, ◌<◌, List, [], ◌∷◌, None, true, false, length, IsSome}
use Rattle.vc_base.specs.Cells.{Blocks, IsHolder, bytes_at}
use Rattle.vc_base.specs.Holders.{KeepsBut, contains}
use Rattle.vc_dtdisc.specs.Rules.{Rules}
use Rattle.vc_dtlist.specs.declared.dt_list.DtList.{DtList}
use Rattle.vc_dtlist.specs.TableWrites.{KeepsTables}
use Rattle.vc_dtlist.specs.Linked.{LinksFor, StandsFor}
use Rattle.vc_dthash.specs.Chained.{AreChained, IsHashed, hash_at}
use Rattle.vc_dthash.specs.declared.dt_hash.DtHash.{DtHash}
use Rattle.vc_dthash.specs.Slots.{IsSlots, most_slots, wanted_slots}

-- its holders, as a list
abbrev pub list_of : DtHash → DtList
list_of hash = record { first = hash.first; last = hash.last }

-- a table of so many slots: a block of 8 bytes for each, which are enough for the holders, and none of them
pub record IsTable (blocks : Blocks) (holders : List ℕ) (table slots : ℕ) : Type 0 where
  pub slots_allowed : IsSlots slots
  pub there : IsSome (blocks table)
  pub size : length (bytes_at blocks table) ≡ 8 * slots
  pub enough : slots < most_slots → length holders ≤ 2 * slots
  pub apart : contains holders table ≡ false

-- a table, or none with no slots
pub record HasTable (blocks : Blocks) (holders : List ℕ) (table slots : ℕ) : Type 0 where
  pub none : table ≡ 0 → slots ≡ 0
  pub some : table ≢ 0 → IsTable blocks holders table slots

-- by a kind's rules it stands for these holders, which it counts: they are linked in order of insertion, each has the
-- hash of its key in word 3, and stands in the chain of its slot; without a table there are none
pub record HashFor (rules : Rules) (hash : DtHash) (blocks : Blocks) (holders : List ℕ) : Type 0 where
  pub links : LinksFor (list_of hash) blocks holders
  pub count : hash.count ≡ length holders
  pub table : HasTable blocks holders hash.table.0 hash.slots
  pub empty : hash.table.0 ≡ 0 → holders ≡ []
  pub hashes : (a : ℕ) → contains holders a ≡ true → IsHashed rules blocks a
  pub chains : hash.table.0 ≢ 0 → AreChained (hash_at rules blocks) blocks hash.table.0 hash.slots holders

-- it stands for some holders
pub record IsHash (rules : Rules) (hash : DtHash) (blocks : Blocks) : Type 0 where
  pub holders : List ℕ
  pub stands : HashFor rules hash blocks holders

-- it stands for some holders, and this one may join them: it is neither one of them nor the table, which has room
pub record CanLink (rules : Rules) (hash : DtHash) (blocks : Blocks) (at : ℕ) : Type 0 where
  pub holders : List ℕ
  pub stands : HashFor rules hash blocks holders
  pub apart : contains (hash.table.0 ∷ holders) at ≡ false
  pub holder : IsHolder blocks at
  pub room : wanted_slots hash.slots hash.count 1 ≡ None

-- it stands for some holders by some kind's rules, and this is one of them
pub record IsLinked (hash : DtHash) (blocks : Blocks) (at : ℕ) : Type 0 where
  pub rules : Rules
  pub holders : List ℕ
  pub stands : HashFor rules hash blocks holders
  pub within : contains holders at ≡ true

-- it stands for some holders, and this block may be its table: it is another one
pub record CanAdopt (rules : Rules) (hash : DtHash) (blocks : Blocks) (table slots : ℕ) : Type 0 where
  pub holders : List ℕ
  pub stands : HashFor rules hash blocks holders
  pub fits : IsTable blocks holders table slots
  pub another : table ≢ hash.table.0

-- from old to new its holders change so, its table stays, and the blocks keep all but the words of these holders, of
-- one more and of the table
pub record HashTurned (rules : Rules) (at : ℕ) (holders : List ℕ) (old : DtHash) (before : Blocks) (new : DtHash) (after : Blocks) (changed : List ℕ) : Type 0 where
  pub stands : HashFor rules new after changed
  pub table : new.table ≡ old.table
  pub slots : new.slots ≡ old.slots
  pub keeps : KeepsTables (old.table.0 ∷ []) (at ∷ holders) before after

-- the same for whatever holders it stood for
abbrev pub HashTurns : Rules → ℕ → DtHash → Blocks → DtHash → Blocks → (List ℕ → List ℕ) → Type 0
HashTurns rules at old before new after change =
    (holders : List ℕ) → HashFor rules old before holders → HashTurned rules at holders old before new after (change holders)

-- from old to new it has that table in place of its own, and the blocks keep all but the words of its holders and the tables
pub record Adopted (rules : Rules) (block size : ℕ) (holders : List ℕ) (old : DtHash) (before : Blocks) (new : DtHash) (after : Blocks) : Type 0 where
  pub stands : HashFor rules new after holders
  pub table : new.table.0 ≡ block
  pub slots : new.slots ≡ size
  pub keeps : KeepsTables (old.table.0 ∷ block ∷ []) holders before after

abbrev pub Adopts : Rules → ℕ → ℕ → DtHash → Blocks → DtHash → Blocks → Type 0
Adopts rules table slots old before new after =
    (holders : List ℕ) → HashFor rules old before holders → Adopted rules table slots holders old before new after

-- it stands for some holders by some kind's rules
pub record IsKept (hash : DtHash) (blocks : Blocks) : Type 0 where
  pub rules : Rules
  pub is : IsHash rules hash blocks

-- a list stands for its holders
pub record Listed (holders : List ℕ) (before : Blocks) (list : DtList) (after : Blocks) : Type 0 where
  pub stands : StandsFor list after holders
  pub keeps : KeepsBut holders before after

-- its ends are those of a list of so many holders, and its table has room for them; without a table there are none
pub record CanChain (hash : DtHash) (blocks : Blocks) : Type 0 where
  pub holders : List ℕ
  pub stands : StandsFor (list_of hash) blocks holders
  pub count : hash.count ≡ length holders
  pub table : HasTable blocks holders hash.table.0 hash.slots
  pub empty : hash.table.0 ≡ 0 → holders ≡ []

-- it stands for these holders now
pub record ChainedUp (rules : Rules) (hash : DtHash) (holders : List ℕ) (before after : Blocks) : Type 0 where
  pub stands : HashFor rules hash after holders
  pub keeps : KeepsTables (hash.table.0 ∷ []) holders before after
