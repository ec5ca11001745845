-- The steps of turning a dictionary to another method: a table is brought, the heads turn, and what is left over goes.
use Rattle.std.specs.Prelude.{◌≡◌, ◌≢◌, ℕ, List, false, Option, Some, None, length, map, replicate}
use Rattle.std.specs.Prelude.{◌==◌, ◌&&◌, if◌then◌else◌}
use Rattle.vc_model.specs.Layout.{Layout}
use Rattle.vc_base.specs.declared.dict_method.DictMethod.{DictMethod}
use Rattle.vc_base.specs.Cells.{Blocks, put}
use Rattle.vc_base.specs.Holders.{AreDistinct, contains}
use Rattle.vc_model.specs.Outcome.{Outcome, Done, Refused}
use Rattle.vc_dtdisc.specs.Rules.{Gone, Rules}
use Rattle.vc_dthash.specs.Hashed.{IsTable}
use Rattle.vc_dict.specs.declared.dict.Dict.{Dict}
use Rattle.vc_dict.specs.Listed.{holders_of}
use Rattle.vc_base.specs.Methods.{has_table}
use Rattle.vc_dict.specs.Methods.{slots_between}
use Rattle.vc_dict.specs.Turned.{AreDropped}
use Rattle.vc_best.specs.Cells.{cells_in, rest_in}
use Rattle.vc_best.specs.declared.best.Best.{Best}
use Rattle.vc_objects.specs.Insert.{without_table}
use Rattle.vc_objects.specs.Leaves.{told_each}
use Rattle.vc_objects.specs.Objects.{table_size}
use Rattle.vc_objects.specs.Parts.{IsWhole, dictionary_in, object_of, table_of}
use Rattle.vc_objects.specs.Remove.{bytes_of, freed_all}
use Rattle.vc_objects.specs.Turn.{Brought, objects_dropped, table_left, turned_to}
use Rattle.vc_dict.specs.Stands.{table_in}

-- the region and the table are those of an outcome
abbrev pub HasBrought : Outcome (Brought ℕ) → Layout ℕ → ℕ → ℕ → Type 0
HasBrought (Done b) region table slots = (b.region ≡ region) × (b.table ≡ table_of table slots)
HasBrought (Refused why) region table slots = ⊥

-- a table of the slots that are wanted is a new cell of zeros, and with none wanted all cells stay
pub record BringsCell (wanted : Option ℕ) (before after : Blocks) (table slots : ℕ) : Type 0 where
  pub wants : wanted ≡ (if table == 0 then None else Some slots)
  pub none : table ≡ 0 → slots ≡ 0
  pub same : table ≡ 0 → after ≡ before
  pub made : table ≢ 0 → after ≡ put table (replicate (table_size slots) 0) before
  pub fresh : table ≢ 0 → before table ≡ None

-- a dictionary can turn to a method with such a table, where one is needed
pub record CanTurn (rules : Rules) (dict : Dict) (blocks : Blocks) (method : DictMethod) (table slots : ℕ) : Type 0 where
  pub whole : IsWhole rules dict blocks
  pub needs : slots_between dict.method method dict.count ≡ (if table == 0 then None else Some slots)
  pub fits : table ≢ 0 → IsTable blocks (holders_of dict blocks) table slots
  pub none : table ≡ 0 → slots ≡ 0

-- so many holders were dropped, the first of them at an address
pub record HasDropped (blocks : Blocks) (first count : ℕ) : Type 0 where
  pub holders : List ℕ
  pub dropped : AreDropped blocks first holders
  pub distinct : AreDistinct holders
  pub many : count ≡ length holders

-- these holders were freed, and the kind was told of their objects; the other cells stay
pub record Frees (holders : List ℕ) (before : Blocks) (old : Layout ℕ) (gone : Gone) (after : Blocks) (new : Layout ℕ) (gone' : Gone) : Type 0 where
  pub region : new ≡ freed_all old (map (object_of before) holders)
  pub told : gone' ≡ told_each (bytes_of (map (object_of before) holders)) gone
  pub others : (a : ℕ) → contains holders a ≡ false → after a ≡ before a

-- a dictionary turned to another method with a table that was brought for it: the objects that the
-- method drops go, and the kind is told of them, and so does the table that is left
pub record TurnsTo {I : Type 0} {V : I → Type 0}
    (rules : Rules) (method : DictMethod) (at slots : ℕ)
    (before : Best I V) (old : Dict) (told : Gone)
    (after : Best I V) (new : Dict) (told' : Gone) : Type 0 where
  pub region : rest_in after
      ≡ without_table
      (freed_all (rest_in before) (objects_dropped rules method (dictionary_in old before)))
      (table_left (dictionary_in old before) method)
  pub dict : dictionary_in new after
      ≡ turned_to rules method (dictionary_in old before) (table_of at slots)
  pub gone : told'
      ≡ told_each (bytes_of (objects_dropped rules method (dictionary_in old before))) told
  pub whole : IsWhole rules new (cells_in after)
  pub kind : new.kind ≡ old.kind
  pub table : (table_in new).0
      ≡ (if has_table method && has_table old.method then (table_in old).0 else at)
  -- its holders are some of those that it had, and all other cells stay
  pub within : (a : ℕ) → contains (holders_of old (cells_in before)) a ≡ false
      → contains (holders_of new (cells_in after)) a ≡ false
  pub others : (a : ℕ) → a ≢ 0 → a ≢ at → a ≢ (table_in old).0
      → contains (holders_of old (cells_in before)) a ≡ false → cells_in after a ≡ cells_in before a
