-- What a method's form makes of the holders of a list.
use Rattle.std.specs.Prelude.{◌≡◌, ℕ, List, true, false}
use Rattle.vc_base.specs.declared.dict_method.DictMethod.{DictMethod}
use Rattle.vc_base.specs.Cells.{Blocks}
use Rattle.vc_base.specs.Holders.{KeepsBut}
use Rattle.vc_base.specs.Methods.{has_table, is_ordered}
use Rattle.vc_dtdisc.specs.Rules.{Rules}
use Rattle.vc_dtlist.specs.Linked.{StandsFor}
use Rattle.vc_dthash.specs.declared.dt_hash.DtHash.{DtHash}
use Rattle.vc_dthash.specs.Hashed.{HashFor, list_of}
use Rattle.vc_dtord.specs.Ordered.{IsSorted}
use Rattle.vc_dict.specs.declared.form.Form.{Form}
use Rattle.vc_dict.specs.Stands.{HeadsFor}

-- these are in the chains of a set or bag, or in a list, which stands in order where the method is ordered
pub record CanTakeForm (rules : Rules) (method : DictMethod) (hash : DtHash) (blocks : Blocks) (holders : List ℕ) : Type 0 where
  pub hashed : has_table method ≡ true → HashFor rules hash blocks holders
  pub listed : has_table method ≡ false → StandsFor (list_of hash) blocks holders
  pub sorted : is_ordered method ≡ true → IsSorted rules blocks holders

-- heads stand for these holders, and the blocks keep all but their words
pub record IsInForm (rules : Rules) (holders : List ℕ) (before : Blocks) (heads : Form) (after : Blocks) : Type 0 where
  pub stands : HeadsFor rules heads after holders
  pub keeps : KeepsBut holders before after
