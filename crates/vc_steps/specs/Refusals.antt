-- Where a step is refused a segment.
use Rattle.std.specs.Prelude.{ℕ, List, [], ◌∷◌, Option, Some, None}
use Rattle.vc_commands.specs.Home.{Home}
use Rattle.vc_script.specs.declared.command.Command.{Command}
use Rattle.vc_script.specs.declared.refusal.Refusal.TheVariants.{NoSegment, NoSegmentForTable, NoSegmentForObject}
use Rattle.vc_script.specs.declared.reply.Reply.{Reply}
use Rattle.vc_script.specs.declared.reply.Reply.TheVariants.{Refused}
use Rattle.vc_steps.specs.State.{State, home_named}
use Rattle.vc_steps.specs.Step.{region_asked}

abbrev pub home_place : Option Home → List ℕ
home_place None = []
home_place (Some h) = h.place ∷ []

abbrev pub place_named : State → Option (List ℕ) → List ℕ
place_named s None = []
place_named s (Some r) = home_place (home_named r s.homes)

-- the place of the discipline that refused a segment in a step, where one did
abbrev pub refusal_at : State → Command → Reply → List ℕ
refusal_at s command (Refused NoSegment) = place_named s (region_asked s command)
refusal_at s command (Refused NoSegmentForTable) = place_named s (region_asked s command)
refusal_at s command (Refused NoSegmentForObject) = place_named s (region_asked s command)
refusal_at s command reply = []
