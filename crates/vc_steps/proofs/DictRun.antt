-- A command on a dictionary, over the regions and dictionaries of a session as they are stored.
use Rattle.vc_base.proofs.Common.{◌≡◌, ◌⊎◌, ℕ, ◌-◌, true, false, cond, List, [], length, set, IfOk, OnErr, slice_get, Some, None, Ok, Err, Result, position, bytes_eq, sym, refl, ap, ◌∙◌, subst, ⊎_elim, cases_Bool, false≢true, same_Some, IsDistinct, keys_of, Discipline, HasOut, at_number}
use Rattle.vc_model.specs.Discipline.{Excused}
use Rattle.indexmap.specs.IndexMap.{set_value_at}
use Rattle.vc_dict.specs.declared.dict.Dict.{Dict}
use Rattle.vc_dtdisc.specs.Rules.{Gone, Rules}
use Rattle.vc_best.specs.Cells.{cells_in, rest_in}
use Rattle.vc_best.specs.Parts.{disc_in}
use Rattle.vc_best.specs.declared.best.Best.{Best}
use Rattle.vc_objects.specs.Leaves.{LeavesRest}
use Rattle.vc_objects.specs.Objects.{own_blocks}
use Rattle.vc_objects.specs.Parts.{IsWhole, dictionary_in}
use Rattle.vc_commands.specs.DictCommands.{in_dict}
use Rattle.vc_commands.specs.DictRun.{AskedBy, GivesDict, IsSpentBy, LacksBy, seat_in}
use Rattle.vc_commands.specs.Seat.{Seat}
use Rattle.vc_script.specs.Needs.{Need, need_shown}
use Rattle.vc_script.specs.declared.command.Command.{Command}
use Rattle.vc_script.specs.declared.command.Command.TheVariants.{First, Last, MatchKey, Next, Prev, Remethod, Search, Shut, View, Walk}
use Rattle.vc_script.specs.declared.refusal.Refusal.TheVariants as why
use Rattle.vc_script.specs.declared.reply.Reply.{Reply}
use Rattle.vc_commands.specs.declared.dict.entry.DictEntry.{DictEntry}
use Rattle.vc_commands.specs.Held.{Held, IsChange, home_of}
use Rattle.vc_steps.specs.Account.{IsHeldFrom, IsSession, Settles, accounts, settled_accounts, state_of}
use Rattle.vc_steps.specs.DictHomes.{AreDicts, IsDictOf, dict_home, dicts_in}
use Rattle.vc_steps.specs.Dicts.{dict_changed, dict_command, dict_of, dict_step, is_turn, runs_alone, seat_at_home}
use Rattle.vc_views.specs.Views.{is_linked_in, DictHome}
use Rattle.vc_steps.specs.Homes.{held_all}
use Rattle.vc_region.specs.Region.{segments_of}
use Rattle.vc_commands.specs.RegionRun.{held_of}
use Rattle.vc_steps.specs.WantedSegments.{IsCutOff, StepLacksFor}
use Rattle.vc_steps.specs.Refusals.{refusal_at}
use Rattle.vc_steps.specs.State.{State, step_with_refusal}
use Rattle.vc_commands.specs.Home.{Home}
use Rattle.vc_steps.specs.Moment.{Moment}
use Rattle.vc_steps.specs.Step.{GivesStep}
use Rattle.vc_steps.specs.Steps.{StepsBy}
use Rattle.vc_views.specs.Numbers.{AreLinked, is_barred, views_by}
use Rattle.vc_views.proofs.LinkChanges.{linked-changed, linked-remade, views-changed}
use Rattle.vc_views.proofs.LinkLemmas.{unlinked}
use Rattle.vc_steps.proofs.DictMethod.{method-ran}
use Rattle.vc_steps.proofs.Cells.{at_number_some, set_same}
use Rattle.vc_steps.proofs.RegionChange.{session-change, settles-none}
use Rattle.vc_steps.proofs.DictChange.{Touches}
use Rattle.vc_views.proofs.Firsts.{value-set}
use Rattle.vc_steps.proofs.DictRegion.{best_entry, region-change, touches}
use Rattle.vc_steps.proofs.DictReplies.{IsOther, other-dict}
use Rattle.vc_steps.proofs.DictStep.{cut-after, dicts-after, lacks-after, settles-after, step-after}
use Rattle.vc_steps.proofs.DictsStay.{Entry, Vs}
use Rattle.vc_steps.proofs.Sessions.{held-at}
use Rattle.vc_steps.proofs.BarredCommands.{free-turn, linked-here}
use Rattle.vc_steps.proofs.DictThere.{DictIn, its, whole-there}
use Rattle.vc_steps.proofs.RegionAt.{helds-set, named-set, region-stands, region_at}
use Rattle.vc_steps.proofs.SessionHere.{parts}

-- a command runs on a dictionary alone, and turns none that is linked
pub record RunsAlone (s : State) (d : DictHome) (command : Command) : Type 0 where
  pub alone : runs_alone command ≡ true
  pub free : is_turn command ≡ true → is_linked_in s.dicts d ≡ false

-- such a command
pub alone-command : (s : State) (command : Command) (need : Need) (d : DictHome) (h : Home) (rules : Rules) → RunsAlone s d command → dict_command s command need d h rules ≡ dict_changed s d h (in_dict (seat_at_home d h rules) command need)
alone-command s (Shut x) need d h rules is = absurd (false≢true is.alone)
alone-command s (View x viewed) need d h rules is = absurd (false≢true is.alone)
alone-command s (Search x bytes) need d h rules is = absurd (false≢true is.alone)
alone-command s (MatchKey x key) need d h rules is = absurd (false≢true is.alone)
alone-command s (First x) need d h rules is = absurd (false≢true is.alone)
alone-command s (Last x) need d h rules is = absurd (false≢true is.alone)
alone-command s (Next x bytes) need d h rules is = absurd (false≢true is.alone)
alone-command s (Prev x bytes) need d h rules is = absurd (false≢true is.alone)
alone-command s (Walk x) need d h rules is = absurd (false≢true is.alone)
alone-command s (Remethod x method) need d h rules is =
    ap (λ t. cond t (step_with_refusal s why.Viewed) (dict_changed s d h (in_dict (seat_at_home d h rules) (Remethod x method) need))) (is.free refl)
alone-command s command need d h rules is = refl

module _ {I : Type 0} {V : I → Type 0} {meaning : (x : I) × V x → Discipline} (place : ℕ) (before : Best I V) (x : DictIn meaning (best_entry place before)) (index : position (bytes_eq x.e.0) (keys_of x.here.es) ≡ Some x.i) where
  open x use {here, i, e}
  open (parts here) use {kinds, slots, hs, es, vs, s}

  abbrev name : List ℕ
  name = x.e.0

  abbrev entry : DictEntry
  entry = x.e.1

  abbrev h : Held
  h = region_at meaning x.region

  at : slice_get hs x.j ≡ Some h
  at = region-stands meaning x.region

  abbrev is : IsDictOf kinds hs e
  is = its x

  is_held : IsHeldFrom here.armed slots h
  is_held = held-at here.armed slots hs x.j h at here.held

  -- the region's segments are the last that its discipline lent
  pub lent-by : HasOut h.disc (segments_of h.region)
  lent-by = is_held.lent

  module _ (rules : Rules) (at_rules : at_number kinds entry.dict.kind ≡ Some rules) where
    rules-are : rules ≡ is.rules
    rules-are = same_Some rules is.rules (sym at_rules ∙ is.kind)

    pub whole-by : IsWhole rules entry.dict (cells_in before)
    whole-by = subst (λ r. IsWhole r entry.dict (cells_in before)) (sym rules-are) (whole-there x)

  -- what a command on it left, by the rules of its kind
  pub record DictRan : Type 0 where
    pub rules : Rules
    pub at_rules : at_number kinds entry.dict.kind ≡ Some rules
    pub after : Best I V
    pub new : Dict
    pub leaves : LeavesRest meaning rules before entry.dict after new
    pub kinds' : List Rules
    pub same_kinds : kinds' ≡ kinds

  module _ (ran : DictRan) where
    abbrev rules : Rules
    rules = ran.rules

    abbrev after : Best I V
    after = ran.after

    abbrev new : Dict
    new = ran.new

    abbrev kinds' : List Rules
    kinds' = ran.kinds'

    rules-is : rules ≡ is.rules
    rules-is = rules-are ran.rules ran.at_rules

    abbrev g : Held
    g = held_of meaning entry.home (best_entry place after) x.region.l

    abbrev mine : List ℕ
    mine = own_blocks (dictionary_in entry.dict before)

    abbrev mine' : List ℕ
    mine' = own_blocks (dictionary_in new after)

    change : IsChange (let k : Held = record h { cells = cells_in after } in k) g
    change = region-change meaning entry.home place before after x.region.l mine mine' ran.leaves.rest is_held.lent is_held.names

    touch : Touches h g mine mine'
    touch = touches meaning entry.home place before after x.region.l mine mine' ran.leaves.rest

    whole-new : IsWhole is.rules new (cells_in after)
    whole-new = subst (λ r. IsWhole r new (cells_in after)) rules-is ran.leaves.whole

    abbrev lain : DictEntry
    lain = record { home = entry.home; number = entry.number; dict = new }

    abbrev n : Entry
    n = (name, lain)

    abbrev hs' : List Held
    hs' = held_all meaning (set_value_at here.homes x.j (best_entry place after)) here.labels

    abbrev es' : List Entry
    es' = set_value_at es i lain

    held-is : hs' ≡ set hs x.j g
    held-is = helds-set meaning x.region (best_entry place after)

    es-is : es' ≡ set es i n
    es-is = value-set es i (name, entry) lain x.there

    carry : (P : List Rules → List Held → List Entry → Type 0) → P kinds (set hs x.j g) (set es i n) → P kinds' hs' es'
    carry P p = subst (λ y. P y hs' es') (sym ran.same_kinds) (subst (λ y. P kinds y es') (sym held-is) (subst (P kinds (set hs x.j g)) (sym es-is) p))

    pub session-ran : IsSession here.armed slots hs'
    session-ran = carry (λ ks xs ys. IsSession here.armed slots xs) (session-change here.armed slots hs x.j h g at here.held change)

    pub named-ran : length here.labels ≡ length (set_value_at here.homes x.j (best_entry place after))
    named-ran = named-set meaning x.region (best_entry place after)

    pub dicts-ran : AreDicts kinds' hs' es'
    dicts-ran =
        carry AreDicts
        (dicts-after x index g new change touch refl ran.leaves.kind whole-new)

    -- with no fault counted
    quiet-ran : ((disc_in meaning after).faults ≡ (disc_in meaning before).faults) ⊎ Excused (disc_in meaning before) (disc_in meaning after) → Settles here.armed (settled_accounts (accounts slots) hs) (settled_accounts (accounts slots) hs') []
    quiet-ran same =
        carry (λ ks xs ys. Settles here.armed (settled_accounts (accounts slots) hs) (settled_accounts (accounts slots) xs) [])
        (settles-none here.armed slots hs x.j h g at here.held change same)

    abbrev tags : Seat ℕ
    tags = seat_in meaning rules before entry.dict

    -- the seat by the rules that the kind has
    abbrev seat_by : Rules → Seat ℕ
    seat_by r = record { rules = r; terms = tags.terms; none = tags.none; region = tags.region; dict = tags.dict }

    abbrev GivesSo : Command → Gone → Gone → Reply → Type 0
    GivesSo command old told reply = GivesDict (in_dict tags command (need_shown reply)) (rest_in after) (dictionary_in new after) reply old told

    step-ran : (command : Command) (reply : Reply) (gone gone' : List Gone) (old told : Gone) → RunsAlone s (dict_home hs vs e) command → GivesSo command old told reply → at_number gone entry.dict.kind ≡ Some old → gone' ≡ set gone (entry.dict.kind - 1) told
        → GivesStep (dict_step s name command (need_shown reply)) gone reply (state_of kinds' slots hs' (dicts_in hs' vs es')) gone'
    step-ran command reply gone gone' old told alone gives at_gone is_gone =
        carry (λ ks xs ys. GivesStep (dict_step s name command (need_shown reply)) gone reply (state_of ks slots xs (dicts_in xs vs ys)) gone')
        (step-after x index g new change touch refl ran.leaves.kind whole-new command reply gone gone' old told
        (alone-command s command (need_shown reply) (dict_home hs vs e) (home_of h) is.rules alone)
        (subst (λ r. GivesDict (in_dict (seat_by r) command (need_shown reply)) (rest_in after) (dictionary_in new after) reply old told) rules-is gives)
        at_gone is_gone)

    lacks-by : (command : Command) (reply : Reply) → LacksBy tags command reply (disc_in meaning before) (disc_in meaning after) → LacksBy (seat_by is.rules) command reply (disc_in meaning before) (disc_in meaning after)
    lacks-by command reply lacks = subst (λ r. LacksBy (seat_by r) command reply (disc_in meaning before) (disc_in meaning after)) rules-is lacks

    settles-ran : (command : Command) (reply : Reply) → dict_of command ≡ Some name → IsOther reply → LacksBy tags command reply (disc_in meaning before) (disc_in meaning after) → Settles here.armed (settled_accounts (accounts slots) hs) (settled_accounts (accounts slots) hs') (refusal_at s command reply)
    settles-ran command reply works other lacks =
        carry (λ ks xs ys. Settles here.armed (settled_accounts (accounts slots) hs) (settled_accounts (accounts slots) xs) (refusal_at s command reply))
        (settles-after x index g new change touch refl ran.leaves.kind whole-new command reply works other (lacks-by command reply lacks))

    lacks-ran : (command : Command) (reply : Reply) → dict_of command ≡ Some name → IsOther reply → LacksBy tags command reply (disc_in meaning before) (disc_in meaning after) → StepLacksFor s hs hs' command reply
    lacks-ran command reply works other lacks =
        carry (λ ks xs ys. StepLacksFor s hs xs command reply)
        (lacks-after x index g new change touch refl ran.leaves.kind whole-new command reply works other (lacks-by command reply lacks))

    cut-ran : (command : Command) → dict_of command ≡ Some name → IsSpentBy tags command (rest_in after) (dictionary_in new after) → IsCutOff s command (state_of kinds' slots hs' (dicts_in hs' vs es'))
    cut-ran command works spent =
        carry (λ ks xs ys. IsCutOff s command (state_of ks slots xs (dicts_in xs vs ys)))
        (cut-after x index g new change touch refl ran.leaves.kind whole-new command works
        (subst (λ r. IsSpentBy (seat_by r) command (rest_in after) (dictionary_in new after)) rules-is spent))

    -- its reply is of no block's segment
    other-ran : (command : Command) (reply : Reply) (old told : Gone) → GivesSo command old told reply → IsOther reply
    other-ran command reply old told gives = subst IsOther gives.reply (other-dict tags command (need_shown reply))

    abbrev moment_after : Vs → List Gone → Moment
    moment_after seen gone = record { state = state_of kinds' slots hs' (dicts_in hs' seen es'); regions = hs'; armed = here.armed; written = None; accounts = settled_accounts (accounts slots) hs'; gone = gone }

    abbrev moment_before : Moment
    moment_before = record { state = s; regions = hs; armed = here.armed; written = None; accounts = settled_accounts (accounts slots) hs; gone = here.gone }

    views-ran : views_by here.links es' ≡ vs
    views-ran = ap (views_by here.links) es-is ∙ views-changed here.links es i e x.there new

    -- the command, what it answered, and what the kind was told of before and after
    module _ {E : Type 0} (answer : Result Reply E) (command : Command) (old told : Gone) where
      -- no view stands against it
      pub record CommandRan : Type 0 where
        pub works : dict_of command ≡ Some name
        pub alone : runs_alone command ≡ true
        pub names : IsDistinct bytes_eq (keys_of es)
        pub free : is_barred here.links entry.number command ≡ false
        pub gives : IfOk answer (GivesSo command old told)
        pub err : OnErr answer ((told ≡ old) × IsSpentBy tags command (rest_in after) (dictionary_in new after))
        pub asked : AskedBy answer tags command (disc_in meaning before) (disc_in meaning after)

      alone-ran : CommandRan → RunsAlone s (dict_home hs vs e) command
      alone-ran did = record {
        alone = did.alone;
        free = λ turn. linked-here kinds slots hs here.links es did.names here.are i e x.there ∙ free-turn here.links entry.number command did.free turn;
      }

    -- the step by what the command answered
    steps-same : {E : Type 0} (answer : Result Reply E) (command : Command) (gone' : List Gone) (old told : Gone) → CommandRan answer command old told → at_number here.gone entry.dict.kind ≡ Some old → gone' ≡ set here.gone (entry.dict.kind - 1) told
        → StepsBy answer moment_before (moment_after vs gone') command (λ st. dict_step st name command)
    steps-same (Ok reply) command gone' old told did at_gone is_gone =
        let plain = other-ran command reply old told did.gives in
        record {
          gives = step-ran command reply here.gone gone' old told (alone-ran (Ok reply) command old told did) did.gives at_gone is_gone;
          settles = settles-ran command reply did.works plain did.asked;
          armed = refl;
          lacks = lacks-ran command reply did.works plain did.asked;
        }
    steps-same (Err y) command gone' old told did at_gone is_gone =
        record {
          state = cut-ran command did.works did.err.1;
          gone = is_gone ∙ (ap (set here.gone (entry.dict.kind - 1)) did.err.0 ∙ set_same here.gone (entry.dict.kind - 1) old (at_number_some here.gone entry.dict.kind old at_gone).1);
          settles = quiet-ran did.asked.faults;
          armed = refl;
        }

    -- and each views what it did
    pub steps-ran : {E : Type 0} (answer : Result Reply E) (command : Command) (gone' : List Gone) (old told : Gone) → CommandRan answer command old told → at_number here.gone entry.dict.kind ≡ Some old → gone' ≡ set here.gone (entry.dict.kind - 1) told
        → StepsBy answer moment_before (moment_after (views_by here.links es') gone') command (λ st. dict_step st name command)
    steps-ran answer command gone' old told did at_gone is_gone =
        subst (λ w. StepsBy answer moment_before (moment_after w gone') command (λ st. dict_step st name command)) (sym views-ran)
        (steps-same answer command gone' old told did at_gone is_gone)

    -- links stay between the dictionaries
    pub linked-ran : {E : Type 0} (answer : Result Reply E) (command : Command) (old told : Gone) → CommandRan answer command old told → AreLinked here.links es'
    linked-ran answer command old told did =
        subst (AreLinked here.links) (sym es-is)
        (⊎_elim
        (λ turn.
        let apart = unlinked here.links entry.number (free-turn here.links entry.number command did.free turn) in
        linked-remade here.links es here.are i e x.there apart.0 apart.1 n refl)
        (λ still.
        linked-changed here.links es i e x.there new (method-ran tags (rest_in after) (dictionary_in new after) answer command old told still did.gives did.err) ran.leaves.kind here.are)
        (cases_Bool (is_turn command)))
