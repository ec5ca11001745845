-- The numbers that a dictionary consists of.
use Rattle.std.specs.Prelude.{◌≡◌, ℕ, true, false, if◌then◌else◌}
use Rattle.vc_base.specs.declared.addr.Addr.{Addr}
use Rattle.vc_base.specs.declared.dict_method.DictMethod.{DictMethod}
use Rattle.vc_base.specs.Methods.{has_table, is_ordered}
use Rattle.vc_dict.specs.declared.dict.Dict.{Dict}
use Rattle.vc_dict.specs.declared.form.Form.{Form}
use Rattle.vc_dict.specs.declared.form.Form.TheVariants.{Hash, Links, Order}
use Rattle.vc_dict.specs.declared.heads.Heads.{Heads}

abbrev no_address : Addr
no_address = record { 0 = 0 }

-- the numbers of a form; those that it has no use for are 0
abbrev pub heads_at : Form → Heads
heads_at (Hash hash) = record { first = hash.first; last = hash.last; table = hash.table; root = no_address; slots = hash.slots }
heads_at (Order ord) = record { first = no_address; last = no_address; table = no_address; root = ord.root; slots = 0 }
heads_at (Links list) = record { first = list.first; last = list.last; table = no_address; root = no_address; slots = 0 }

abbrev pub heads_in : Dict → Heads
heads_in dict = heads_at dict.heads

-- the form of a method, with those of these numbers that it has a use for
abbrev pub form_by : DictMethod → ℕ → Heads → Form
form_by method count heads =
    if has_table method then Hash (record { first = heads.first; last = heads.last; table = heads.table; slots = heads.slots; count = count })
    else (if is_ordered method then Order (record { root = heads.root }) else Links (record { first = heads.first; last = heads.last }))

-- the dictionary of a method, a kind, a count, a current holder and these numbers
abbrev pub dict_by : DictMethod → ℕ → ℕ → Addr → Heads → Dict
dict_by method kind count current heads = record { method = method; kind = kind; count = count; current = current; heads = form_by method count heads }

-- neither a first nor a last holder
pub record HasNoEnds (heads : Heads) : Type 0 where
  pub first : heads.first.0 ≡ 0
  pub last : heads.last.0 ≡ 0

-- no table
pub record HasNoTable (heads : Heads) : Type 0 where
  pub table : heads.table.0 ≡ 0
  pub slots : heads.slots ≡ 0

-- the numbers that a method has no use for are 0
pub record HasNoOtherHeads (method : DictMethod) (heads : Heads) : Type 0 where
  pub ends : is_ordered method ≡ true → HasNoEnds heads
  pub root : is_ordered method ≡ false → heads.root.0 ≡ 0
  pub table : has_table method ≡ false → HasNoTable heads
