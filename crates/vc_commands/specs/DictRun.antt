-- What running a command on a dictionary promises.
use Rattle.std.specs.Prelude.{◌≡◌, ℕ, List, false, true, Option, Some, None, option_map}
use Rattle.std.specs.Prelude.{Result, Ok, Err, IfOk, OnErr}
use Rattle.vc_model.specs.Layout.{Layout}
use Rattle.vc_base.specs.declared.addr.Addr.{Addr}
use Rattle.vc_base.specs.Holders.{contains}
use Rattle.vc_model.specs.Discipline.{Discipline, NoneRefused}
use Rattle.vc_dtdisc.specs.Objects.{Object}
use Rattle.vc_dtdisc.specs.Rules.{Gone, Rules}
use Rattle.vc_dtlist.specs.Linked.{number_of}
use Rattle.vc_dict.specs.Listed.{holders_of}
use Rattle.vc_dict.specs.declared.dict.Dict.{Dict}
use Rattle.vc_best.specs.Cells.{cells_in, rest_in}
use Rattle.vc_best.specs.Parts.{disc_in}
use Rattle.vc_best.specs.declared.best.Best.{Best}
use Rattle.vc_objects.specs.Insert.{grow}
use Rattle.vc_objects.specs.Leaves.{IsHalted, LacksHolder, LacksTable, LeavesRest, told_each}
use Rattle.vc_objects.specs.Objects.{Dictionary}
use Rattle.vc_objects.specs.Parts.{dictionary_in, object_of}
use Rattle.vc_objects.specs.Promises.{IsStill}
use Rattle.vc_script.specs.Needs.{Need, NoNeed, need_shown}
use Rattle.vc_script.specs.declared.command.Command.{Command}
use Rattle.vc_script.specs.declared.command.Command.TheVariants.{Insert, Attach}
use Rattle.vc_script.specs.declared.refusal.Refusal.TheVariants.{NoSegmentForTable, NoSegmentForObject}
use Rattle.vc_script.specs.declared.reply.Reply.{Reply}
use Rattle.vc_script.specs.declared.reply.Reply.TheVariants.{Refused}
use Rattle.vc_commands.specs.DictCommands.{in_dict, object_asked, table_asked}
use Rattle.vc_commands.specs.Seat.{DictChanged, Seat}

-- the seat of a dictionary in a region whose blocks have tags for labels
abbrev pub seat_in : {I : Type 0} {V : I → Type 0} → ((x : I) × V x → Discipline) → Rules → Best I V → Dict → Seat ℕ
seat_in meaning rules region dict =
    record {
      rules = rules;
      terms = (disc_in meaning region).terms;
      none = 0;
      region = rest_in region;
      dict = dictionary_in dict region;
    }

-- what a command gives is this region, dictionary and reply, and the kind was told so
pub record GivesDict (c : DictChanged ℕ) (r : Layout ℕ) (d : Dictionary) (answer : Reply) (gone gone' : Gone) : Type 0 where
  pub region : c.region ≡ r
  pub dict : c.dict ≡ d
  pub reply : c.reply ≡ answer
  pub told : gone' ≡ told_each c.told gone

-- it is what a region and a dictionary in it then are
abbrev pub Gives : {I : Type 0} {V : I → Type 0} → DictChanged ℕ → Best I V → Dict → Reply → Gone → Gone → Type 0
Gives c region dict answer gone gone' = GivesDict c (rest_in region) (dictionary_in dict region) answer gone gone'

-- the object in a holder, where there is one
abbrev pub object_in_holder : {I : Type 0} {V : I → Type 0} → Best I V → Option Addr → Option Object
object_in_holder region at = option_map (object_of (cells_in region)) (option_map number_of at)

-- where there is an address, it is that of one of the dictionary's holders
abbrev pub IsOfHolder : {I : Type 0} {V : I → Type 0} → Dict → Best I V → Option Addr → Type 0
IsOfHolder dict region None = Unit {0}
IsOfHolder dict region (Some at) = contains (holders_of dict (cells_in region)) at.0 ≡ true

-- with no memory nothing changed, or the table grew for an object
abbrev pub IsSpent : Seat ℕ → Layout ℕ → Dictionary → Type 0
IsSpent s region d = IsHalted (grow s.terms s.region s.none s.dict false) s.region s.dict region d

-- by the command: only `insert` and `attach` put an object where a table can grow
abbrev pub IsSpentBy : Seat ℕ → Command → Layout ℕ → Dictionary → Type 0
IsSpentBy s (Insert name bytes) region d = IsSpent s region d
IsSpentBy s (Attach name bytes) region d = IsSpent s region d
IsSpentBy s command region d = (region ≡ s.region) × (d ≡ s.dict)

-- by a reply: a segment that was refused was asked for, for a table of these slots or a holder of this object, and else nothing was
abbrev pub LacksFor : Option ℕ → List ℕ → Reply → Discipline → Discipline → Type 0
LacksFor slots object (Refused NoSegmentForTable) old new = LacksTable slots old new
LacksFor slots object (Refused NoSegmentForObject) old new = LacksHolder slots object old new
LacksFor slots object reply old new = NoneRefused old new

-- by what a command asks for
abbrev pub LacksBy : {L : Type 0} → Seat L → Command → Reply → Discipline → Discipline → Type 0
LacksBy s command reply old new = LacksFor (table_asked s command) (object_asked s command) reply old new

-- by an answer: with no memory, too, nothing was refused
abbrev pub AskedFor : {E : Type 0} → Result Reply E → Option ℕ → List ℕ → Discipline → Discipline → Type 0
AskedFor (Ok reply) slots object old new = LacksFor slots object reply old new
AskedFor (Err why) slots object old new = NoneRefused old new

abbrev pub AskedBy : {E L : Type 0} → Result Reply E → Seat L → Command → Discipline → Discipline → Type 0
AskedBy result s command old new = AskedFor result (table_asked s command) (object_asked s command) old new

-- what a command on a dictionary promises that may ask for a table of these slots or a holder of
-- this object: it gives what it is to by the need that its reply shows, and leaves all else
pub record RunsDict {I : Type 0} {V : I → Type 0} (meaning : (x : I) × V x → Discipline)
    {E : Type 0} (result : Result Reply E) (rules : Rules) (gives : Need → DictChanged ℕ)
    (slots : Option ℕ) (object : List ℕ)
    (before : Best I V) (old : Dict) (told : Gone)
    (after : Best I V) (new : Dict) (told' : Gone) : Type 0 where
  pub step : IfOk result (λ reply. Gives (gives (need_shown reply)) after new reply told told')
  pub leaves : LeavesRest meaning rules before old after new
  pub asked : AskedFor result slots object (disc_in meaning before) (disc_in meaning after)

-- what a command promises whose table and object go by the command itself
abbrev pub RunsCommand : {I : Type 0} {V : I → Type 0} {E : Type 0} → ((x : I) × V x → Discipline)
    → Result Reply E → Rules → Command → Best I V → Dict → Gone → Best I V → Dict → Gone → Type 0
RunsCommand meaning result rules command before old told after new told' =
    RunsDict meaning result rules (in_dict (seat_in meaning rules before old) command)
    (table_asked (seat_in meaning rules before old) command) (object_asked (seat_in meaning rules before old) command)
    before old told after new told'

-- and with no memory: the kind was told of nothing, and what is left is spent by the command
abbrev pub HaltsCommand : {I : Type 0} {V : I → Type 0} {E : Type 0} → ((x : I) × V x → Discipline)
    → Result Reply E → Rules → Command → Best I V → Dict → Gone → Best I V → Dict → Gone → Type 0
HaltsCommand meaning result rules command before old told after new told' =
    OnErr result ((told' ≡ told)
    × IsSpentBy (seat_in meaning rules before old) command (rest_in after) (dictionary_in new after))

-- what one promises that takes an object out: it needs no segment, and with no memory nothing
-- changed
pub record TakesDict {I : Type 0} {V : I → Type 0} (meaning : (x : I) × V x → Discipline)
    {E : Type 0} (result : Result Reply E) (rules : Rules) (gives : DictChanged ℕ)
    (before : Best I V) (old : Dict) (told : Gone)
    (after : Best I V) (new : Dict) (told' : Gone) : Type 0 where
  pub step : IfOk result (λ reply. Gives gives after new reply told told')
  pub need : IfOk result (λ reply. need_shown reply ≡ NoNeed)
  pub leaves : LeavesRest meaning rules before old after new
  pub disc : disc_in meaning after ≡ disc_in meaning before
  pub err : OnErr result ((told' ≡ told) × IsStill before old after new)
