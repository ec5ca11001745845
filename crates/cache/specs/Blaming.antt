-- What keeps a table from an answer, by its fault.
use Rattle.std.specs.Prelude.{◌≡◌, ℕ, List, Some, false, slice_get}
use Rattle.vc_store.specs.Reading.{is_object}
use Rattle.vc_store.specs.declared.put.Put.{Put}
use Rattle.vc_store.specs.declared.put.Put.TheVariants as put
use Rattle.cache.specs.declared.ask.Fault.{Fault}
use Rattle.cache.specs.declared.ask.Fault.TheVariants.{WrongSize, NoRoom, Memory}

-- the fault of a key that isn't put
abbrev pub put_fault_of : Put → Fault
put_fault_of put.WrongSize = WrongSize
put_fault_of put.NoSegment = NoRoom
put_fault_of other = Memory

-- one of the keys has no byte, or more than 1,024
pub record HasWrong (keys : List (List ℕ)) : Type 0 where
  pub place : ℕ
  pub key : List ℕ
  pub at : slice_get keys place ≡ Some key
  pub wrong : is_object key ≡ false

-- what a fault blames: a key of a wrong size is there; of room and memory nothing is said
abbrev pub Blames : List (List ℕ) → Fault → Type 0
Blames keys WrongSize = HasWrong keys
Blames keys other = Unit {0}
