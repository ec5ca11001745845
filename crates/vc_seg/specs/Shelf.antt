-- A shelf of disciplines as its slots, in order of putting and numbered from 1. A slot whose discipline was taken is None.
use Rattle.std.specs.Prelude.{ℕ, List, Option, Some, None, map, option_map}
use Rattle.vc_model.specs.Numbered.{at_number}
use Rattle.vc_model.specs.Discipline.{Discipline}
use Rattle.vc_seg.specs.declared.shelf.ShelfPlace.{ShelfPlace}
use Rattle.vc_seg.specs.declared.shelf.ShelfPlace.TheVariants.{Missing, Taken, Here}

-- the slots, with what each discipline means
abbrev pub slots_of : {D : Type 0} → (D → Discipline) → List (Option D) → List (Option Discipline)
slots_of state slots = map (option_map state) slots

-- what a slot is, where there is one
abbrev pub standing : Option (Option Discipline) → ShelfPlace
standing None = Missing
standing (Some None) = Taken
standing (Some (Some d)) = Here

-- the slot of a number
abbrev pub slot_at : List (Option Discipline) → ℕ → Option (Option Discipline)
slot_at slots n = at_number slots n

-- what stands at a number
abbrev pub place_at : List (Option Discipline) → ℕ → ShelfPlace
place_at slots n = standing (slot_at slots n)
