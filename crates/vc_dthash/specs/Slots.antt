-- How many slots a table has: two objects for each are enough.
use Rattle.std.specs.Prelude.{◌≡◌, ℕ, ◌+◌, ◌*◌, ◌^◌, ◌≤◌, zero, suc, Option, Some, None, ◌==◌, ◌&&◌, nat_le, nat_lt, if◌then◌else◌}

-- no table has more slots
abbrev pub most_slots : ℕ
most_slots = 2097152

-- 16 slots, doubled so many times
pub record IsSlots (slots : ℕ) : Type 0 where
  pub doublings : ℕ
  pub few : doublings ≤ 17
  pub value : slots ≡ 16 * 2 ^ doublings

-- the least doubling of these slots that is enough for so many objects, or the last where none is
abbrev pub enough_slots : ℕ → ℕ → ℕ → ℕ
enough_slots zero slots objects = slots
enough_slots (suc doublings) slots objects =
    if nat_le objects (2 * slots) then slots else enough_slots doublings (2 * slots) objects

-- the slots of a first table for so many objects
abbrev pub slots_for : ℕ → ℕ
slots_for objects = enough_slots 17 16 objects

-- the slots wanted before so many more objects are added to a count, where there are none or so many
abbrev pub wanted_slots : ℕ → ℕ → ℕ → Option ℕ
wanted_slots slots count more =
    if slots == 0
    then Some (slots_for more)
    else if nat_lt (2 * slots) (count + more) && nat_lt slots most_slots then Some (2 * slots) else None
