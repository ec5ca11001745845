-- Worked dictionaries for the rows of commands.
use Rattle.std.specs.Prelude.{ℕ, List, [], ◌∷◌, None, Some, codes}
use Rattle.vc_model.specs.Layout.{Layout}
use Rattle.vc_base.specs.declared.dict_method.DictMethod.{DictMethod}
use Rattle.vc_base.specs.declared.dict_method.DictMethod.TheVariants.{DtSet}
use Rattle.vc_dtdisc.specs.Rules.{Rules}
use Rattle.vc_objects.specs.Objects.{Dictionary}
use Rattle.vc_objects.specs.Rows.{bag, bag_of, by_fold, by_page, first_table, held_region, lower_a, lower_b, of_three, segment_with, table_alone, three_holders}
use Rattle.vc_script.specs.Needs.{Need}
use Rattle.vc_script.specs.declared.command.Command.{Command}
use Rattle.vc_script.specs.declared.reply.Reply.{Reply}
use Rattle.vc_commands.specs.DictCommands.{in_dict}
use Rattle.vc_commands.specs.Seat.{Seat}

-- a dictionary in a region, by keys without regard to case
abbrev pub seat_by_fold : Layout ℕ → Dictionary → Seat ℕ
seat_by_fold r d = record { rules = by_fold; terms = by_page; none = 0; region = r; dict = d }

-- b, a and B in a bag, in one segment of 4,096 bytes
abbrev pub of_bag : Seat ℕ
of_bag = seat_by_fold held_region bag

-- a set of b and a there
abbrev pub of_set : Seat ℕ
of_set =
    seat_by_fold held_region
    (record { method = DtSet; objects = lower_b ∷ lower_a ∷ []; current = None; table = Some first_table })

-- b, a and B there, by a method without a table
abbrev pub of_method : DictMethod → Seat ℕ
of_method method = seat_by_fold (segment_with 4096 three_holders) (of_three method None)

-- the same under the rules of another kind
abbrev pub under : Rules → Seat ℕ → Seat ℕ
under rules s = record { rules = rules; terms = s.terms; none = s.none; region = s.region; dict = s.dict }

-- a bag of so many objects in a segment of so many bytes, with a table that is full with 32
abbrev pub seat_of_many : ℕ → ℕ → Seat ℕ
seat_of_many bytes count = seat_by_fold (table_alone bytes) (bag_of count)

-- the name of a dictionary
abbrev pub name : List ℕ
name = codes "d"

-- the reply to a command
abbrev pub reply_to : Seat ℕ → Command → Need → Reply
reply_to s command need = (in_dict s command need).reply
