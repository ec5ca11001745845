-- What a segment was wanting for, where a step tells that a table or an object got none.
use Rattle.std.specs.Prelude.{◌≡◌, ℕ, ◌⊎◌, List, Option, Some, None, false}
use Rattle.vc_model.specs.Discipline.{Discipline}
use Rattle.vc_model.specs.Numbered.{at_number}
use Rattle.vc_dtdisc.specs.Rules.{Rules}
use Rattle.vc_model.specs.Outcome as model
use Rattle.vc_model.specs.Outcome.{Outcome}
use Rattle.vc_region.specs.Region.{OfBest, layout_in}
use Rattle.vc_objects.specs.Insert.{Grown, grow}
use Rattle.vc_objects.specs.Leaves.{LacksTable}
use Rattle.vc_commands.specs.DictRun.{LacksBy}
use Rattle.vc_script.specs.declared.command.Command.{Command}
use Rattle.vc_script.specs.declared.command.Command.TheVariants.{Insert, Attach, OpenDict}
use Rattle.vc_script.specs.declared.refusal.Refusal.TheVariants.{NoSegment, NoSegmentForTable, NoSegmentForObject}
use Rattle.vc_script.specs.declared.reply.Reply.{Reply}
use Rattle.vc_script.specs.declared.reply.Reply.TheVariants.{Refused}
use Rattle.vc_commands.specs.Held.{Held}
use Rattle.vc_steps.specs.Account.{StepLacks, held_named}
use Rattle.vc_steps.specs.Dicts.{dict_of, seat_at_home, with_dict}
use Rattle.vc_steps.specs.State.{State, home_named, with_region}
use Rattle.vc_views.specs.Views.{DictHome, dict_named}
use Rattle.vc_commands.specs.Home.{Home, Label}
use Rattle.vc_steps.specs.Step.{region_asked}

-- by where a command on a dictionary works
abbrev pub SeatLacks : Command → Reply → Discipline → Discipline → DictHome → Option Home → Option Rules → Type 0
SeatLacks command reply old new d (Some h) (Some rules) = LacksBy (seat_at_home d h rules) command reply old new
SeatLacks command reply old new d (Some h) None = ⊥
SeatLacks command reply old new d None rules = ⊥

abbrev pub DictLacks : State → Command → Reply → Discipline → Discipline → Option DictHome → Type 0
DictLacks s command reply old new None = ⊥
DictLacks s command reply old new (Some d) =
    SeatLacks command reply old new d (home_named d.home s.homes) (at_number s.kinds d.kind)

abbrev pub dict_in_state : State → Option (List ℕ) → Option DictHome
dict_in_state s None = None
dict_in_state s (Some d) = dict_named d s.dicts

-- a table of 16 slots for a new dictionary, or what a command on one needs
abbrev pub CommandLacks : State → Command → Reply → Discipline → Discipline → Type 0
CommandLacks s (OpenDict d method r kind) reply old new = LacksTable (Some 16) old new
CommandLacks s command reply old new = DictLacks s command reply old new (dict_in_state s (dict_of command))

abbrev pub InHeld : Option Held → Option Held → (Discipline → Discipline → Type 0) → Type 0
InHeld (Some h) (Some g) P = P h.disc g.disc
InHeld (Some h) None P = ⊥
InHeld None g P = ⊥

-- from before a step to after it, the discipline of the region was asked for the segment that a block, a table or an object needs
abbrev pub StepLacksFor : State → List Held → List Held → Command → Reply → Type 0
StepLacksFor s before after command (Refused NoSegment) = StepLacks before after command
StepLacksFor s before after command (Refused NoSegmentForTable) =
    InHeld (held_named before (region_asked s command)) (held_named after (region_asked s command)) (CommandLacks s command (Refused NoSegmentForTable))
StepLacksFor s before after command (Refused NoSegmentForObject) =
    InHeld (held_named before (region_asked s command)) (held_named after (region_asked s command)) (CommandLacks s command (Refused NoSegmentForObject))
StepLacksFor s before after command reply = Unit {0}

-- the state in which the table grew for an object
abbrev pub GrewFor : Outcome (Grown Label) → State → DictHome → Home → State → Type 0
GrewFor (model.Done g) s d h after =
    after ≡ record s { homes = with_region h.name (OfBest g.region) h.kept s.homes; dicts = with_dict d.name g.dict s.dicts }
GrewFor (model.Refused fault) s d h after = ⊥

abbrev pub GrewIn : State → DictHome → Option Home → State → Type 0
GrewIn s d None after = ⊥
GrewIn s d (Some h) after = GrewFor (grow h.terms (layout_in h.region) None d.dict false) s d h after

abbrev pub GrewBy : State → Option DictHome → State → Type 0
GrewBy s None after = ⊥
GrewBy s (Some d) after = GrewIn s d (home_named d.home s.homes) after

-- with no memory for a step the state is as before it, or the table of a dictionary grew for the object that is put
abbrev pub IsCutOff : State → Command → State → Type 0
IsCutOff s (Insert d bytes) after = (after ≡ s) ⊎ GrewBy s (dict_named d s.dicts) after
IsCutOff s (Attach d bytes) after = (after ≡ s) ⊎ GrewBy s (dict_named d s.dicts) after
IsCutOff s command after = after ≡ s
