-- A dictionary, its objects each in a holder, an unlabelled block of a best region.
use Rattle.std.specs.Prelude.{ℕ, ◌+◌, ◌*◌, List, [], ◌∷◌, ◌++◌, Option, Some, None, length, map}
use Rattle.vc_base.specs.declared.dict_method.DictMethod.{DictMethod}
use Rattle.vc_dtdisc.specs.Objects.{Object, address_of}

-- a table: the address of its block, and how many slots it has
pub record Table : Type 0 where
  pub at : ℕ
  pub slots : ℕ

-- a dictionary: its method, its objects in walk order, the address of the current one's holder, and its table; the last two where there are such
pub record Dictionary : Type 0 where
  pub method : DictMethod
  pub objects : List Object
  pub current : Option ℕ
  pub table : Option Table

-- a holder has four words of 8 bytes before the object
abbrev pub holder_size : List ℕ → ℕ
holder_size bytes = 32 + length bytes

-- a table has 8 bytes for each slot
abbrev pub table_size : ℕ → ℕ
table_size slots = 8 * slots

abbrev pub slots_of : Option Table → ℕ
slots_of None = 0
slots_of (Some t) = t.slots

-- an item, where there is one
abbrev pub option_list : {A : Type 0} → Option A → List A
option_list None = []
option_list (Some x) = x ∷ []

-- the addresses of its blocks: of its table and of its holders
abbrev pub own_blocks : Dictionary → List ℕ
own_blocks d = map (λ t. t.at) (option_list d.table) ++ map address_of d.objects
