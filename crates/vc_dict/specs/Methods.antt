-- The slots that the methods want.
use Rattle.std.specs.Prelude.{ℕ, Option, Some, None, ◌&&◌, not, if◌then◌else◌}
use Rattle.vc_base.specs.declared.dict_method.DictMethod.{DictMethod}
use Rattle.vc_base.specs.Methods.{has_table}
use Rattle.vc_dthash.specs.Slots.{slots_for, wanted_slots}

-- the slots wanted before so many more objects are added
abbrev pub wanted_by : DictMethod → ℕ → ℕ → ℕ → Option ℕ
wanted_by method slots count more = if has_table method then wanted_slots slots count more else None

-- the slots of the table that a change from one method to another needs, by the count before any is dropped
abbrev pub slots_between : DictMethod → DictMethod → ℕ → Option ℕ
slots_between old new count = if has_table new && not (has_table old) then Some (slots_for count) else None
