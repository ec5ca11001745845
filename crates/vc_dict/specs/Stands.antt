-- Which holders a dictionary stands for.
use Rattle.std.specs.Prelude.{◌≡◌, ◌≢◌, ℕ, ◌%◌, Bool, List, [], ◌∷◌, None, true, false, length}
use Rattle.vc_base.specs.declared.addr.Addr.{Addr}
use Rattle.vc_base.specs.declared.dict_method.DictMethod.{DictMethod}
use Rattle.vc_base.specs.Cells.{Blocks, IsHolder}
use Rattle.vc_base.specs.Holders.{contains}
use Rattle.vc_dtdisc.specs.Finds.{find_key, object_at}
use Rattle.vc_dtdisc.specs.Rules.{Rules}
use Rattle.vc_dtlist.specs.TableWrites.{KeepsTables}
use Rattle.vc_dtlist.specs.Linked.{StandsFor}
use Rattle.vc_dthash.specs.Chained.{chain_of, hash_at}
use Rattle.vc_dthash.specs.Hashed.{HashFor, IsTable}
use Rattle.vc_dtord.specs.Ordered.{OrdFor}
use Rattle.vc_dict.specs.declared.dict.Dict.{Dict}
use Rattle.vc_dict.specs.declared.form.Form.{Form}
use Rattle.vc_dict.specs.declared.form.Form.TheVariants.{Hash, Links, Order}
use Rattle.vc_base.specs.Methods.{has_table, is_list, is_ordered, is_set}
use Rattle.vc_dict.specs.Methods.{wanted_by}

-- whether heads are of a method's form: a hash for a set or bag, an ordered one for an ordered set or bag, and else a list
abbrev pub IsForm : DictMethod → Form → Type 0
IsForm method (Hash hash) = has_table method ≡ true
IsForm method (Order ord) = is_ordered method ≡ true
IsForm method (Links list) = (has_table method ≡ false) × (is_ordered method ≡ false)

-- the table of a hash and its slots; other heads have none
abbrev pub table_at : Form → Addr
table_at (Hash hash) = hash.table
table_at (Order ord) = record { 0 = 0 }
table_at (Links list) = record { 0 = 0 }

abbrev pub slots_at : Form → ℕ
slots_at (Hash hash) = hash.slots
slots_at (Order ord) = 0
slots_at (Links list) = 0

abbrev pub table_in : Dict → Addr
table_in dict = table_at dict.heads

abbrev pub slots_in : Dict → ℕ
slots_in dict = slots_at dict.heads

-- heads stand for these holders in their own form
abbrev pub HeadsFor : Rules → Form → Blocks → List ℕ → Type 0
HeadsFor rules (Hash hash) blocks holders = HashFor rules hash blocks holders
HeadsFor rules (Order ord) blocks holders = OrdFor rules ord blocks holders
HeadsFor rules (Links list) blocks holders = StandsFor list blocks holders

-- they do so for some holders
pub record IsHeads (rules : Rules) (heads : Form) (blocks : Blocks) : Type 0 where
  pub holders : List ℕ
  pub stands : HeadsFor rules heads blocks holders

-- they do so for so many holders, by some kind's rules
pub record AreHeads (heads : Form) (blocks : Blocks) (count : ℕ) : Type 0 where
  pub rules : Rules
  pub holders : List ℕ
  pub stands : HeadsFor rules heads blocks holders
  pub length : count ≡ length holders

-- they do so for some holders by some kind's rules, and this is one of them
pub record HasHolder (heads : Form) (blocks : Blocks) (at : ℕ) : Type 0 where
  pub rules : Rules
  pub holders : List ℕ
  pub stands : HeadsFor rules heads blocks holders
  pub within : contains holders at ≡ true

-- they are of a method's form and stand for some holders, and this one may join them behind the current one or before it
pub record CanJoin (rules : Rules) (method : DictMethod) (heads : Form) (blocks : Blocks) (current at : ℕ) (append : Bool) : Type 0 where
  pub holders : List ℕ
  pub form : IsForm method heads
  pub stands : HeadsFor rules heads blocks holders
  pub apart : contains ((table_at heads).0 ∷ holders) at ≡ false
  pub holder : IsHolder blocks at
  pub mark : contains (0 ∷ holders) current ≡ true
  pub room : wanted_by method (slots_at heads) (length holders) 1 ≡ None
  pub list : append ≡ true → is_list method ≡ true

-- from old to new their holders change so; their form and table stay, and the blocks keep all but the words of some holders
-- and of the table
pub record HeadsTurned (rules : Rules) (written : List ℕ) (old : Form) (before : Blocks) (new : Form) (after : Blocks) (changed : List ℕ) : Type 0 where
  pub stands : HeadsFor rules new after changed
  pub form : (method : DictMethod) → IsForm method old → IsForm method new
  pub table : table_at new ≡ table_at old
  pub slots : slots_at new ≡ slots_at old
  pub keeps : KeepsTables ((table_at old).0 ∷ []) written before after

-- its heads are of its method's form and stand for these holders, which it counts
pub record Stands (rules : Rules) (dict : Dict) (blocks : Blocks) (holders : List ℕ) : Type 0 where
  pub form : IsForm dict.method dict.heads
  pub heads : HeadsFor rules dict.heads blocks holders
  pub count : dict.count ≡ length holders

-- so many compares does a search for a key make at most: one for each holder of the key's slot in a set or bag, and else
-- one for each holder
abbrev pub heads_compares : Rules → Form → Blocks → List ℕ → List ℕ → ℕ
heads_compares rules (Hash hash) blocks key holders = length (chain_of (hash_at rules blocks) hash.slots (rules.hash key % hash.slots) holders)
heads_compares rules (Order ord) blocks key holders = length holders
heads_compares rules (Links list) blocks key holders = length holders

abbrev pub compares_by : Rules → Dict → Blocks → List ℕ → List ℕ → ℕ
compares_by rules dict blocks key holders = heads_compares rules dict.heads blocks key holders

-- it stands for some holders
pub record IsDict (rules : Rules) (dict : Dict) (blocks : Blocks) : Type 0 where
  pub holders : List ℕ
  pub stands : Stands rules dict blocks holders

-- it does so by some kind's rules
pub record IsKept (dict : Dict) (blocks : Blocks) : Type 0 where
  pub rules : Rules
  pub is : IsDict rules dict blocks

-- it stands for some holders, and this is one of them
pub record IsMember (rules : Rules) (dict : Dict) (blocks : Blocks) (at : ℕ) : Type 0 where
  pub holders : List ℕ
  pub stands : Stands rules dict blocks holders
  pub within : contains holders at ≡ true

-- it is one by some kind's rules
pub record IsIn (dict : Dict) (blocks : Blocks) (at : ℕ) : Type 0 where
  pub rules : Rules
  pub is : IsMember rules dict blocks at

-- it stands for some holders, and this one may join them: it is neither one of them nor the table; the current one is
-- none or one of them; a set or bag has a table with room; in a set nothing matches; and to lists alone is appended
pub record CanLink (rules : Rules) (dict : Dict) (blocks : Blocks) (at : ℕ) (append : Bool) : Type 0 where
  pub holders : List ℕ
  pub stands : Stands rules dict blocks holders
  pub apart : contains ((table_in dict).0 ∷ holders) at ≡ false
  pub holder : IsHolder blocks at
  pub current : contains (0 ∷ holders) dict.current.0 ≡ true
  pub room : wanted_by dict.method (slots_in dict) dict.count 1 ≡ None
  pub lone : is_set dict.method ≡ true → find_key rules blocks (rules.key (object_at blocks at)) holders ≡ None
  pub list : append ≡ true → is_list dict.method ≡ true

-- a set or bag stands for some holders, and this block may be its table: it is another one
pub record CanAdopt (rules : Rules) (dict : Dict) (blocks : Blocks) (table slots : ℕ) : Type 0 where
  pub holders : List ℕ
  pub stands : Stands rules dict blocks holders
  pub method : has_table dict.method ≡ true
  pub fits : IsTable blocks holders table slots
  pub another : table ≢ (table_in dict).0

-- from old to new its holders change so, and the current one; its method, kind and table stay, and the blocks keep all
-- but the words of some holders and of the table
pub record Became (rules : Rules) (written : List ℕ) (old : Dict) (before : Blocks) (new : Dict) (after : Blocks) (changed : List ℕ) (at : ℕ) : Type 0 where
  pub stands : Stands rules new after changed
  pub current : new.current.0 ≡ at
  pub method : new.method ≡ old.method
  pub kind : new.kind ≡ old.kind
  pub table : table_in new ≡ table_in old
  pub slots : slots_in new ≡ slots_in old
  pub keeps : KeepsTables ((table_in old).0 ∷ []) written before after

-- from old to new it has that table in place of its own
pub record Adopted (rules : Rules) (block size : ℕ) (holders : List ℕ) (old : Dict) (before : Blocks) (new : Dict) (after : Blocks) : Type 0 where
  pub stands : Stands rules new after holders
  pub current : new.current ≡ old.current
  pub method : new.method ≡ old.method
  pub kind : new.kind ≡ old.kind
  pub table : (table_in new).0 ≡ block
  pub slots : slots_in new ≡ size
  pub keeps : KeepsTables ((table_in old).0 ∷ block ∷ []) holders before after
