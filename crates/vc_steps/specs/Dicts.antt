-- The dictionaries of a session, and the commands that open one, work on one, and end it.
use Rattle.std.specs.Prelude.{ℕ, List, [], ◌∷◌, ◌++◌, Option, Some, None, Bool, true, false, length, map, nat_le, not, option_map, ◌&&◌, if◌then◌else◌}
use Rattle.std.specs.List.{list_any}
use Rattle.std.specs.Str.{bytes_eq}
use Rattle.vc_base.specs.declared.dict_method.DictMethod.{DictMethod}
use Rattle.vc_model.specs.Numbered.{at_number}
use Rattle.vc_model.specs.Outcome as model
use Rattle.vc_model.specs.Outcome.{Outcome}
use Rattle.vc_dtdisc.specs.Rules.{Rules}
use Rattle.vc_objects.specs.Insert.{Grown, open_dictionary, want_of}
use Rattle.vc_objects.specs.Objects.{Dictionary}
use Rattle.vc_objects.specs.Remove.{bytes_of, region_without}
use Rattle.vc_commands.specs.DictCommands.{in_dict, is_for_table, table_refusal}
use Rattle.vc_commands.specs.Seat.{DictChanged, Seat}
use Rattle.vc_script.specs.Needs.{Need}
use Rattle.vc_script.specs.declared.command.Command.{Command}
use Rattle.vc_script.specs.declared.command.Command.TheVariants.{View, Remethod, Shut}
use Rattle.vc_script.specs.Target.{dict_at, target_of, works_alone}
use Rattle.vc_script.specs.declared.refusal.Refusal.{Refusal}
use Rattle.vc_script.specs.declared.refusal.Refusal.TheVariants as why
use Rattle.vc_script.specs.declared.reply.Reply.TheVariants.{Opened, ShutDown, Views}
use Rattle.vc_region.specs.Region.{OfBest, is_best, layout_in}
use Rattle.vc_commands.specs.Looking.{current_or, is_look, look_found, look_reply, own_place}
use Rattle.vc_paths.specs.Visible.{Seen}
use Rattle.vc_steps.specs.State.{State, Stepped, home_named, step_with_refusal, step_with_reply, with_region}
use Rattle.vc_views.specs.Views.{DictHome, dict_named, is_dict, is_linked_in, is_viewed_in, seen_through, view_refusal, with_view}
use Rattle.vc_commands.specs.Home.{Home, Label}

-- the dictionary that a command works on
abbrev pub dict_of : Command → Option (List ℕ)
dict_of command = dict_at (target_of command)

-- the dictionaries with another one of that name, and those without it
abbrev pub with_dict : List ℕ → Dictionary → List DictHome → List DictHome
with_dict d dict [] = []
with_dict d dict (h ∷ hs) = if is_dict d h then (record h { dict = dict }) ∷ hs else h ∷ with_dict d dict hs

abbrev pub without_dict : List ℕ → List DictHome → List DictHome
without_dict d [] = []
without_dict d (h ∷ hs) = if is_dict d h then hs else h ∷ without_dict d hs

-- objects that a kind is told of, each with the kind's number
abbrev pub told_of : ℕ → List (List ℕ) → List (ℕ × List ℕ)
told_of kind objects = map (λ o. (kind, o)) objects

-- where a command on a dictionary works, in its best region
abbrev pub seat_at_home : DictHome → Home → Rules → Seat Label
seat_at_home d h rules = record { rules = rules; terms = h.terms; none = None; region = layout_in h.region; dict = d.dict }

-- the state with the change of a dictionary and of its region
abbrev pub dict_changed : State → DictHome → Home → DictChanged Label → Stepped
dict_changed s d h c =
    record {
      state = record s { homes = with_region h.name (OfBest c.region) h.kept s.homes; dicts = with_dict d.name c.dict s.dicts };
      reply = c.reply;
      told = told_of d.kind c.told;
      granted = c.granted;
    }

-- a dictionary ends: its objects are told to its kind, and its blocks go
abbrev pub shut_in : State → DictHome → Option Home → State
shut_in s d None = s
shut_in s d (Some h) =
    record s {
      homes = with_region h.name (OfBest (region_without (layout_in h.region) d.dict)) h.kept s.homes;
      dicts = without_dict d.name s.dicts;
    }

abbrev pub shut_state : State → DictHome → State
shut_state s d = shut_in s d (home_named d.home s.homes)

abbrev pub dict_shut : State → DictHome → Stepped
dict_shut s d =
    record {
      state = shut_state s d;
      reply = ShutDown d.name;
      told = told_of d.kind (bytes_of d.dict.objects);
      granted = [];
    }

-- no dictionary that another one views is shut, and none that is viewed or views one gets another method
abbrev pub unless_viewed : State → DictHome → Stepped → Stepped
unless_viewed s d t = if is_viewed_in s.dicts d.name then step_with_refusal s why.Viewed else t

abbrev pub unless_linked : State → DictHome → Stepped → Stepped
unless_linked s d t = if is_linked_in s.dicts d then step_with_refusal s why.Viewed else t

-- a dictionary views another one from here on, in place of what it viewed, or none
abbrev pub view_set : State → DictHome → Option (List ℕ) → Stepped
view_set s d viewed =
    step_with_reply (record s { dicts = with_view d.name viewed s.dicts }) (Views d.name viewed)

abbrev pub view_unless : State → DictHome → DictHome → Option Refusal → Stepped
view_unless s d e (Some refusal) = step_with_refusal s refusal
view_unless s d e None = view_set s d (Some e.name)

abbrev pub view_found : State → DictHome → Option DictHome → Stepped
view_found s d None = step_with_refusal s why.NoDictionary
view_found s d (Some e) = view_unless s d e (view_refusal s.dicts d e)

abbrev pub view_step : State → DictHome → Option (List ℕ) → Stepped
view_step s d None = view_set s d None
view_step s d (Some name) = view_found s d (dict_named name s.dicts)

-- what is looked for among the objects that are seen through a dictionary is current where it is the dictionary's own
abbrev pub look_current : Rules → Command → DictHome → List (Seen (List ℕ)) → Option ℕ
look_current rules command d seen =
    current_or d.dict.current (own_place (λ name. bytes_eq name d.name) (look_found rules command seen))

abbrev pub looked_at : State → Rules → Command → DictHome → List (Seen (List ℕ)) → Stepped
looked_at s rules command d seen =
    step_with_reply
    (record s { dicts = with_dict d.name (record d.dict { current = look_current rules command d seen }) s.dicts })
    (look_reply rules command seen)

abbrev pub look_step : State → Rules → Command → DictHome → Stepped
look_step s rules command d = looked_at s rules command d (seen_through rules s.dicts d)

-- whether a command runs on a dictionary alone: it neither ends it, nor lets it view another one, nor looks through its path
abbrev pub runs_alone : Command → Bool
runs_alone command = works_alone (target_of command)

-- whether a command gives a dictionary another method
abbrev pub is_turn : Command → Bool
is_turn (Remethod d method) = true
is_turn command = false

abbrev pub dict_command : State → Command → Need → DictHome → Home → Rules → Stepped
dict_command s (Shut name) need d h rules = unless_viewed s d (dict_shut s d)
dict_command s (View name viewed) need d h rules = view_step s d viewed
dict_command s (Remethod name method) need d h rules =
    unless_linked s d (dict_changed s d h (in_dict (seat_at_home d h rules) (Remethod name method) need))
dict_command s command need d h rules =
    if is_look command then look_step s rules command d
    else dict_changed s d h (in_dict (seat_at_home d h rules) command need)

-- what is done with a dictionary, in its region and by its kind's rules
abbrev pub on_seat : State → DictHome → (DictHome → Home → Rules → Stepped) → Option Home → Option Rules → Stepped
on_seat s d act None rules = step_with_refusal s why.NoDictionary
on_seat s d act (Some h) None = step_with_refusal s why.NoDictionary
on_seat s d act (Some h) (Some rules) = act d h rules

abbrev pub on_found : State → (DictHome → Home → Rules → Stepped) → Option DictHome → Stepped
on_found s act None = step_with_refusal s why.NoDictionary
on_found s act (Some d) = on_seat s d act (home_named d.home s.homes) (at_number s.kinds d.kind)

-- a command on the dictionary of that name
abbrev pub dict_step : State → List ℕ → Command → Need → Stepped
dict_step s name command need = on_found s (dict_command s command need) (dict_named name s.dicts)

-- a session has at most so many dictionaries at once
abbrev pub dict_limit : ℕ
dict_limit = 256

-- whether there is a kind of that number, from 1 on
abbrev pub is_kind : State → ℕ → Bool
is_kind s k = nat_le 1 k && nat_le k (length s.kinds)

-- why no dictionary is opened in a region, before its table is asked for
abbrev pub dict_refused : State → Home → List ℕ → ℕ → Option Refusal
dict_refused s h d k =
    if list_any (is_dict d) s.dicts then Some why.DictionaryExists
    else if not (is_kind s k) then Some why.NoSuchKind
    else if not (is_best h.region) then Some why.WrongMethod
    else if nat_le dict_limit (length s.dicts) then Some why.TooManyDictionaries
    else None

abbrev pub dict_opened : State → Home → List ℕ → ℕ → Outcome (Grown Label) → Stepped
dict_opened s h d k (model.Refused fault) = step_with_refusal s (table_refusal (want_of fault))
dict_opened s h d k (model.Done g) =
    record {
      state = record s {
        homes = with_region h.name (OfBest g.region) h.kept s.homes;
        dicts = s.dicts ++ record { name = d; home = h.name; kind = k; views = None; dict = g.dict } ∷ [];
      };
      reply = Opened d;
      told = [];
      granted = g.granted;
    }

abbrev pub open_dict_unless : State → Home → List ℕ → DictMethod → ℕ → Need → Option Refusal → Stepped
open_dict_unless s h d method k need (Some refusal) = step_with_refusal s refusal
open_dict_unless s h d method k need None =
    dict_opened s h d k (open_dictionary h.terms (layout_in h.region) None method (is_for_table need))

abbrev pub open_dict_in : State → List ℕ → DictMethod → ℕ → Need → Option Home → Stepped
open_dict_in s d method k need None = step_with_refusal s why.NoRegion
open_dict_in s d method k need (Some h) = open_dict_unless s h d method k need (dict_refused s h d k)

-- a dictionary of a method is opened in a region, by the kind of that number
abbrev pub open_dict_step : State → List ℕ → DictMethod → List ℕ → ℕ → Need → Stepped
open_dict_step s d method r k need = open_dict_in s d method k need (home_named r s.homes)

-- the region in which a command asks for segments
abbrev pub region_asked_for : State → Option (List ℕ) → Option (List ℕ) → Option (List ℕ)
region_asked_for s None region = region
region_asked_for s (Some d) region = option_map (λ h. h.home) (dict_named d s.dicts)
