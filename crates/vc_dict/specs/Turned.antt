-- A dictionary that is turned to another method.
use Rattle.std.specs.Prelude.{◌≡◌, ◌≢◌, ℕ, ◌%◌, ◌^◌, List, [], ◌∷◌, None, Some, ◌&&◌, ◌==◌, if◌then◌else◌}
use Rattle.vc_base.specs.declared.dict_method.DictMethod.{DictMethod}
use Rattle.vc_base.specs.Cells.{Blocks, IsHolder, word_at}
use Rattle.vc_dtdisc.specs.Rules.{Rules}
use Rattle.vc_dtlist.specs.TableWrites.{KeepsTables}
use Rattle.vc_dthash.specs.Hashed.{IsTable}
use Rattle.vc_dict.specs.declared.dict.Dict.{Dict}
use Rattle.vc_dict.specs.declared.dict.Dropped.{Dropped}
use Rattle.vc_base.specs.Methods.{has_table}
use Rattle.vc_dict.specs.Methods.{slots_between}
use Rattle.vc_dict.specs.Orders.{dropped_by, kept_by, ordered_by}
use Rattle.vc_dict.specs.Stands.{Stands, slots_in, table_in}

-- it stands for some holders; where the change needs a table this is one of so many slots, and else there is none
pub record CanRemethod (rules : Rules) (dict : Dict) (blocks : Blocks) (method : DictMethod) (table slots : ℕ) : Type 0 where
  pub holders : List ℕ
  pub stands : Stands rules dict blocks holders
  pub needs : slots_between dict.method method dict.count ≡ (if table == 0 then None else Some slots)
  pub fits : table ≢ 0 → IsTable blocks holders table slots
  pub none : table ≡ 0 → slots ≡ 0

-- what a dropped holder's words tell of the one dropped behind it
abbrev pub behind_dropped : Blocks → ℕ → ℕ
behind_dropped blocks at = word_at blocks at 1 % 2 ^ 32

-- these were dropped, the first of them at an address, and each tells of the one behind it, or of none
abbrev pub AreDropped : Blocks → ℕ → List ℕ → Type 0
AreDropped blocks at [] = at ≡ 0
AreDropped blocks at (x ∷ xs) = (at ≡ x) × IsHolder blocks x × AreDropped blocks (behind_dropped blocks x) xs

-- it stands for its holders in the method's order, those that the method drops aside; none is current; between set and
-- bag the table stays, and else it has the one that was brought; what is left is its table where it needs none
pub record Remethoded (rules : Rules) (turned : DictMethod) (block size : ℕ) (holders : List ℕ) (old : Dict) (before : Blocks) (new : Dict) (after : Blocks) (answer : Dropped) : Type 0 where
  pub stands : Stands rules new after (kept_by turned rules before (ordered_by turned rules before holders))
  pub dropped : AreDropped after answer.first.0 (dropped_by turned rules before (ordered_by turned rules before holders))
  pub method : new.method ≡ turned
  pub kind : new.kind ≡ old.kind
  pub current : new.current.0 ≡ 0
  pub table : (table_in new).0 ≡ (if has_table turned && has_table old.method then (table_in old).0 else block)
  pub slots : slots_in new ≡ (if has_table turned && has_table old.method then slots_in old else size)
  pub left : answer.table.0 ≡ (if has_table turned then 0 else (table_in old).0)
  pub keeps : KeepsTables ((table_in old).0 ∷ block ∷ []) holders before after

-- the present method changes nothing
pub record Unchanged (old : Dict) (before : Blocks) (new : Dict) (after : Blocks) (answer : Dropped) : Type 0 where
  pub dict : new ≡ old
  pub blocks : after ≡ before
  pub dropped : answer.first.0 ≡ 0
  pub left : answer.table.0 ≡ 0
