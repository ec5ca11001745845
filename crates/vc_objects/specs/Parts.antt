-- What a dictionary's heads and the cells of its region stand for.
use Rattle.std.specs.Prelude.{◌≡◌, ◌≢◌, ℕ, ◌*◌, ◌<◌, ◌≤◌, ◌∷◌, Option, Some, None, true, length, map, ◌==◌, if◌then◌else◌}
use Rattle.std.specs.List.{AllByRecursion}
use Rattle.vc_base.specs.Cells.{Blocks}
use Rattle.vc_base.specs.Holders.{contains, some_address}
use Rattle.vc_dtdisc.specs.Finds.{object_at}
use Rattle.vc_dtdisc.specs.Objects.{Object}
use Rattle.vc_dtdisc.specs.Rules.{IsObject, Rules}
use Rattle.vc_dthash.specs.Slots.{IsSlots, most_slots}
use Rattle.vc_dict.specs.Listed.{holders_of}
use Rattle.vc_base.specs.Methods.{has_table}
use Rattle.vc_dict.specs.Stands.{Stands, slots_in, table_in}
use Rattle.vc_dict.specs.declared.dict.Dict.{Dict}
use Rattle.vc_best.specs.Cells.{cells_in}
use Rattle.vc_best.specs.declared.best.Best.{Best}
use Rattle.vc_objects.specs.Objects.{Dictionary, Table}

-- the object in a holder
abbrev pub object_of : Blocks → ℕ → Object
object_of blocks at = record { at = at; bytes = object_at blocks at }

-- a table of so many slots, or none at no address
abbrev pub table_of : ℕ → ℕ → Option Table
table_of at slots = if at == 0 then None else Some (record { at = at; slots = slots })

-- the dictionary of some heads over some cells
abbrev pub dictionary_of : Dict → Blocks → Dictionary
dictionary_of dict blocks =
    record {
      method = dict.method;
      objects = map (object_of blocks) (holders_of dict blocks);
      current = some_address dict.current.0;
      table = table_of (table_in dict).0 (slots_in dict);
    }

-- over the cells of a region
abbrev pub dictionary_in : {I : Type 0} {V : I → Type 0} → Dict → Best I V → Dictionary
dictionary_in dict region = dictionary_of dict (cells_in region)

-- it stands for its holders by some kind's rules; the current one is none or one of them; a set or bag has a table; and each object has 1 to 1,024 bytes
pub record IsWhole (rules : Rules) (dict : Dict) (blocks : Blocks) : Type 0 where
  pub stands : Stands rules dict blocks (holders_of dict blocks)
  pub current : contains (0 ∷ holders_of dict blocks) dict.current.0 ≡ true
  pub table : has_table dict.method ≡ true → (table_in dict).0 ≢ 0
  pub objects : AllByRecursion (λ o. IsObject o.bytes) (dictionary_of dict blocks).objects

-- a set or bag is whole but for its table, and may get one of so many slots
pub record CanGrow (rules : Rules) (dict : Dict) (blocks : Blocks) (slots : ℕ) : Type 0 where
  pub stands : Stands rules dict blocks (holders_of dict blocks)
  pub current : contains (0 ∷ holders_of dict blocks) dict.current.0 ≡ true
  pub objects : AllByRecursion (λ o. IsObject o.bytes) (dictionary_of dict blocks).objects
  pub method : has_table dict.method ≡ true
  pub allowed : IsSlots slots
  pub enough : slots < most_slots → length (holders_of dict blocks) ≤ 2 * slots
