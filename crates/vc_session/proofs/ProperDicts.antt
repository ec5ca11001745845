-- Commands on dictionaries reply with names, and leave the labels of a region names.
use Rattle.vc_base.proofs.Common.{◌≡◌, ℕ, Bool, true, false, cond, List, Some, None, Option, sym, ap, ◌∙◌, is_list, Terms, Layout, relabel_layout, Done, Outcome, done_as}
use Rattle.vc_base.specs.declared.dict_method.DictMethod.{DictMethod}
use Rattle.vc_model.specs.Outcome as model
use Rattle.vc_dtdisc.specs.Objects.{Object, bytes_of, first_with}
use Rattle.vc_dtdisc.specs.Rules.{Rules}
use Rattle.vc_region.specs.Region.{OfBest, Region, layout_in}
use Rattle.vc_region.proofs.Relabel.{layout-relabelled}
use Rattle.vc_objects.specs.Insert.{Grown, insert, open_dictionary}
use Rattle.vc_objects.specs.Objects.{Dictionary}
use Rattle.vc_objects.specs.Remove.{region_without, remove_found, next_to_go}
use Rattle.vc_objects.specs.Turn.{Turned, turn}
use Rattle.vc_objects.specs.declared.fate.Fate.{Fate}
use Rattle.vc_objects.specs.declared.fate.Fate.TheVariants.{Stored, NoTable, NoHolder}
use Rattle.vc_objects.proofs.Named.{open_dictionary-named, region_without-named, relabel_grown}
use Rattle.vc_commands.specs.DictCommands.{append_in, delete_in, fate_reply, gone_reply, in_dict, insert_in, is_for_object, is_for_table, is_object, put_object, put_unless, remove_in, removed_as, matched_in_set, turned_as, where_object}
use Rattle.vc_commands.specs.Seat.{DictChanged, Seat, seat_with_refusal}
use Rattle.vc_commands.proofs.Named.{in_dict-named}
use Rattle.vc_script.specs.Needs.{Need}
use Rattle.vc_script.specs.Proper.{IsName, IsProperCommand}
use Rattle.vc_script.specs.ProperReply.{IsProperReply}
use Rattle.vc_script.specs.declared.command.Command.{Command}
use Rattle.vc_script.specs.declared.command.Command.TheVariants.{Insert, Append, Attach, Delete, Detach, Count, Remethod, Empty}
use Rattle.vc_script.specs.declared.refusal.Refusal.TheVariants as why
use Rattle.vc_session.specs.ProperState.{IsProperRegion, name_or_none}
use Rattle.vc_commands.specs.Home.{Label}

-- the names in a reply are names
abbrev IsGood : DictChanged Label → Type 0
IsGood c = IsProperReply c.reply

good-cond : (t : Bool) (a b : DictChanged Label) → IsGood a → IsGood b → IsGood (cond t a b)
good-cond true a b p q = p
good-cond false a b p q = q

fate-proper : (bytes : List ℕ) (fate : Fate) → IsProperReply (fate_reply bytes fate)
fate-proper bytes Stored = tt
fate-proper bytes (NoTable wants) = tt
fate-proper bytes (NoHolder wants) = tt

gone-proper : (tells : Bool) (gone : Option (List ℕ)) → IsProperReply (gone_reply tells gone)
gone-proper tells None = tt
gone-proper true (Some bytes) = tt
gone-proper false (Some bytes) = tt

module _ (s : Seat Label) where
  good-object : (bytes : List ℕ) (c : DictChanged Label) → IsGood c → IsGood (where_object s bytes c)
  good-object bytes c good = good-cond (is_object bytes) c (seat_with_refusal s why.Size) good tt

  good-put : (append : Bool) (bytes : List ℕ) (need : Need) → IsGood (put_object s append bytes need)
  good-put append bytes need = fate-proper bytes (insert s.rules s.terms s.region s.none s.dict append bytes (is_for_table need) (is_for_object need)).fate

  good-unless : (bytes : List ℕ) (need : Need) (found : Option Object) → IsGood (put_unless s bytes need found)
  good-unless bytes need (Some o) = tt
  good-unless bytes need None = good-put false bytes need

  good-insert : (bytes : List ℕ) (need : Need) → IsGood (insert_in s bytes need)
  good-insert bytes need = good-unless bytes need (matched_in_set s bytes)

  good-append : (bytes : List ℕ) (need : Need) → IsGood (append_in s bytes need)
  good-append bytes need =
      let put = put_object s true (s.rules.made bytes) need in
      good-cond (is_list s.dict.method) (where_object s bytes put) (seat_with_refusal s why.WrongMethod) (good-object bytes put (good-put true (s.rules.made bytes) need)) tt

  good-removed : (tells : Bool) (found : Option Object) → IsGood (removed_as tells (remove_found s.region s.dict found))
  good-removed tells found = gone-proper tells (remove_found s.region s.dict found).gone

  good-remove : (tells : Bool) (bytes : List ℕ) → IsGood (remove_in s tells bytes)
  good-remove tells bytes =
      let found = first_with bytes_of s.rules (s.rules.key bytes) s.dict.objects in
      good-object bytes (removed_as tells (remove_found s.region s.dict found)) (good-removed tells found)

  good-delete : (object : Option (List ℕ)) → IsGood (delete_in s object)
  good-delete None = good-removed true (next_to_go s.dict.method s.dict.objects)
  good-delete (Some bytes) = good-remove true bytes

  good-turned : (name : List ℕ) (method : DictMethod) (o : Outcome (Turned Label)) → IsName name → IsGood (turned_as s name method o)
  good-turned name method (model.Refused fault) proper = tt
  good-turned name method (Done t) proper = proper

  good-in_dict : (c : Command) (need : Need) → IsProperCommand c → IsGood (in_dict s c need)
  good-in_dict (Insert d bytes) need proper = good-object bytes (insert_in s (s.rules.made bytes) need) (good-insert (s.rules.made bytes) need)
  good-in_dict (Append d bytes) need proper = good-append bytes need
  good-in_dict (Attach d bytes) need proper = good-object bytes (insert_in s bytes need) (good-insert bytes need)
  good-in_dict (Delete d object) need proper = good-delete object
  good-in_dict (Detach d bytes) need proper = good-remove false bytes
  good-in_dict (Count d) need proper = tt
  good-in_dict (Remethod d method) need proper =
      good-turned d method (turn s.rules s.terms s.region s.none s.dict method (is_for_table need)) proper
  good-in_dict (Empty d) need proper = proper
  good-in_dict command need proper = tt

-- a layout whose labels are names: it stays the same where others are taken away
abbrev pub IsProperLayout : Layout Label → Type 0
IsProperLayout r = relabel_layout name_or_none r ≡ r

-- that of a region whose labels are names, and the best region of one
pub proper-layout : (r : Region Label) → IsProperRegion r → IsProperLayout (layout_in r)
proper-layout r proper = sym (layout-relabelled name_or_none r) ∙ ap (λ (q : Region Label). layout_in q) proper

pub proper-best : (r : Layout Label) → IsProperLayout r → IsProperRegion (OfBest r)
proper-best r proper = ap (λ (q : Layout Label). OfBest q) proper

-- the seat of an unlabelled dictionary in a layout whose labels are names
module _ (rules : Rules) (terms : Terms) (r : Layout Label) (d : Dictionary) where
  abbrev seat : Layout Label → Seat Label
  seat q = record { rules = rules; terms = terms; none = None; region = q; dict = d }

  pub proper-in_dict : (c : Command) (need : Need) → IsProperCommand c → IsProperLayout r → IsProperReply (in_dict (seat r) c need).reply × IsProperLayout (in_dict (seat r) c need).region
  proper-in_dict c need proper all =
      let named = ap (λ (x : DictChanged Label). x.region) (in_dict-named name_or_none (seat r) c need) in
      (good-in_dict (seat r) c need proper, sym named ∙ ap (λ q. (in_dict (seat q) c need).region) all)

pub proper-region_without : (r : Layout Label) (d : Dictionary) → IsProperLayout r → IsProperLayout (region_without r d)
proper-region_without r d all = sym (region_without-named name_or_none r d) ∙ ap (λ q. region_without q d) all

-- the region that a new dictionary grew in
abbrev pub IsProperGrown : Outcome (Grown Label) → Type 0
IsProperGrown (Done g) = IsProperLayout g.region
IsProperGrown (model.Refused fault) = Unit {0}

abbrev layout_grown : Layout Label → Outcome (Grown Label) → Layout Label
layout_grown r (Done g) = g.region
layout_grown r (model.Refused fault) = r

proper-grown : (o : Outcome (Grown Label)) → o ≡ done_as (relabel_grown name_or_none) o → IsProperGrown o
proper-grown (Done g) same = sym (ap (layout_grown g.region) same)
proper-grown (model.Refused fault) same = tt

pub proper-open : (terms : Terms) (r : Layout Label) (method : DictMethod) (refused : Bool) → IsProperLayout r → IsProperGrown (open_dictionary terms r None method refused)
proper-open terms r method refused all =
    proper-grown (open_dictionary terms r None method refused)
    (sym (ap (λ q. open_dictionary terms q None method refused) all) ∙ open_dictionary-named name_or_none terms r None method refused)
