-- How a dictionary's list changes as objects come and go, and which one is current then.
use Rattle.std.specs.Prelude.{ℕ, Bool, List, Option, Some, None, unwrap_or}
use Rattle.vc_base.specs.declared.dict_method.DictMethod.{DictMethod}
use Rattle.vc_base.specs.Cells.{Blocks}
use Rattle.vc_base.specs.Holders.{some_address, without}
use Rattle.vc_dtdisc.specs.Finds.{object_at}
use Rattle.vc_dtdisc.specs.Objects as objects
use Rattle.vc_dtdisc.specs.Rules.{Rules}

-- in a list: directly before the current one, or first with none
abbrev pub before_current : ℕ → ℕ → List ℕ → List ℕ
before_current current at holders = objects.put_before_current (λ a. a) (some_address current) at holders

-- directly behind the current one, or last with none
abbrev pub behind_current : ℕ → ℕ → List ℕ → List ℕ
behind_current current at holders = objects.put_behind_current (λ a. a) (some_address current) at holders

-- where `insert` puts a holder
abbrev pub order_by_insert : DictMethod → Rules → Blocks → ℕ → ℕ → List ℕ → List ℕ
order_by_insert method rules blocks current at holders =
    objects.inserted_among (λ a. a) (object_at blocks) method rules (some_address current) at holders

-- where `insert` puts it, or `append`, which is for lists
abbrev pub order_by_link : Bool → DictMethod → Rules → Blocks → ℕ → ℕ → List ℕ → List ℕ
order_by_link append method rules blocks current at holders =
    objects.linked_among (λ a. a) (object_at blocks) append method rules (some_address current) at holders

-- without the one that was found, if any
abbrev pub order_without : Option ℕ → List ℕ → List ℕ
order_without None holders = holders
order_without (Some at) holders = without at holders

-- the current one then: where it is the one that goes, the one behind it, or none
abbrev pub current_without : Option ℕ → ℕ → List ℕ → ℕ
current_without None current holders = current
current_without (Some at) current holders =
    unwrap_or (objects.current_without (λ a. a) at (some_address current) holders) 0
