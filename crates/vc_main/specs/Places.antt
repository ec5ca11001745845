-- What the programs hand to their tools: the disciplines at the places of the shelf, and the kinds of dictionaries.
use Rattle.std.specs.Prelude.{ℕ, List, [], ◌∷◌, None, Some, false, true, nat_le, if◌then◌else◌}
use Rattle.vc_dtdisc.specs.declared.shape.Shape.{Shape}
use Rattle.vc_dtdisc.specs.declared.shape.Shape.TheVariants.{Whole, Field, Text, Fold, Reverse, Clip}
use Rattle.vc_model.specs.Discipline.{Discipline, no_exceptions}
use Rattle.vc_seg.specs.Budget.{Budget}
use Rattle.vc_seg.specs.Relief.{Relief}

-- up to place 8 a discipline that rounds to 4,096 bytes, and from 9 to 12 one that rounds to 65,536; it tells no room
abbrev pub heap_at : ℕ → Discipline
heap_at place = record { out = []; faults = 0; terms = record { round = if nat_le place 8 then 4096 else 65536; grows = false }; room = None; exceptions = no_exceptions }

-- from place 13 to 16 one that rounds to 4,096 bytes and has a budget of 1,048,576
abbrev pub budgeted : Budget
budgeted = record { budget = 1048576; out = []; faults = 0; terms = record { round = 4096; grows = false }; exceptions = no_exceptions }

-- at place 17 one that makes a segment longer, rounds to 4,096 bytes and has at most 33,554,432 bytes out
abbrev pub growing_budget : Budget
growing_budget = record { budget = 33554432; out = []; faults = 0; terms = record { round = 4096; grows = true }; exceptions = no_exceptions }

-- at place 18 one with a budget of 1,048,576, which its first exception raises by as much
abbrev pub relieved_budget : Relief
relieved_budget = record { budget = budgeted; relief = Some 1048576 }

-- the shapes of the kinds, from kind 1 on
abbrev pub shapes : List Shape
shapes = Whole ∷ Text 0 ∷ Fold ∷ Reverse ∷ Field 0 4 ∷ Clip 8 ∷ []
