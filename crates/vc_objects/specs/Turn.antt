-- Turning a dictionary to another method.
use Rattle.std.specs.Prelude.{ℕ, List, [], Bool, Option, Some, None, length, ◌==◌, if◌then◌else◌}
use Rattle.vc_model.specs.Layout.{Layout}
use Rattle.vc_base.specs.declared.dict_method.DictMethod.{DictMethod}
use Rattle.vc_model.specs.Addr.{address}
use Rattle.vc_model.specs.Discipline.{Terms}
use Rattle.vc_model.specs.Segments.{Grant}
use Rattle.vc_model.specs.Outcome.{Outcome, Done, Refused, Put}
use Rattle.vc_base.specs.Methods.{has_table, method_number}
use Rattle.vc_dict.specs.Methods.{slots_between}
use Rattle.vc_dtdisc.specs.Objects as objects
use Rattle.vc_dtdisc.specs.Objects.{Object, dropped_by, kept_by, ordered_by}
use Rattle.vc_dtdisc.specs.Rules.{Rules}
use Rattle.vc_objects.specs.Insert.{alloc_unlabelled, without_table}
use Rattle.vc_objects.specs.Objects.{Dictionary, Table, option_list, table_size}
use Rattle.vc_objects.specs.Remove.{bytes_of, freed_all}

-- a region and a dictionary in it, turned; the bytes of the objects that were dropped; and what was granted
pub record Turned (L : Type 0) : Type 0 where
  pub region : Layout L
  pub dict : Dictionary
  pub gone : List (List ℕ)
  pub granted : List Grant

-- a region with the table that the new method brings, where it brings one
pub record Brought (L : Type 0) : Type 0 where
  pub region : Layout L
  pub table : Option Table
  pub granted : List Grant

abbrev pub turn_with : {L : Type 0} → ℕ → Outcome (Put (Layout L)) → Outcome (Brought L)
turn_with slots (Refused why) = Refused why
turn_with slots (Done p) =
    Done (record { region = p.region; table = Some (record { at = address p.at; slots = slots }); granted = option_list p.granted })

abbrev pub bring_of : {L : Type 0} → Terms → Layout L → L → Bool → Option ℕ → Outcome (Brought L)
bring_of terms r none refused None = Done (record { region = r; table = None; granted = [] })
bring_of terms r none refused (Some slots) = turn_with slots (alloc_unlabelled terms r none (table_size slots) refused)

-- the table comes before all else, with slots for the count before any object is dropped
abbrev pub bring : {L : Type 0} → Terms → Layout L → L → Dictionary → DictMethod → Bool → Outcome (Brought L)
bring terms r none d method refused = bring_of terms r none refused (slots_between d.method method (length d.objects))

-- between set and bag the table stays, and else it is the one that was brought
abbrev pub table_then : Dictionary → DictMethod → Option Table → Option Table
table_then d method new = if has_table method then (if has_table d.method then d.table else new) else None

-- the table that is no longer used
abbrev pub table_left : Dictionary → DictMethod → Option Table
table_left d method = if has_table method then None else d.table

-- the objects in the order of the method, without those that it drops; none is current
abbrev pub turned_to : Rules → DictMethod → Dictionary → Option Table → Dictionary
turned_to rules method d new =
    record {
      method = method;
      objects =
          kept_by objects.bytes_of method rules
          (ordered_by objects.bytes_of method rules d.objects);
      current = None;
      table = table_then d method new;
    }

abbrev pub objects_dropped : Rules → DictMethod → Dictionary → List Object
objects_dropped rules method d =
    dropped_by objects.bytes_of method rules (ordered_by objects.bytes_of method rules d.objects)

abbrev pub turned_with : {L : Type 0} → Rules → DictMethod → Dictionary → Outcome (Brought L) → Outcome (Turned L)
turned_with rules method d (Refused why) = Refused why
turned_with rules method d (Done b) =
    Done (record {
      region = without_table (freed_all b.region (objects_dropped rules method d)) (table_left d method);
      dict = turned_to rules method d b.table;
      gone = bytes_of (objects_dropped rules method d);
      granted = b.granted;
    })

-- a dictionary is turned to a method; the present one changes nothing
abbrev pub turn : {L : Type 0} → Rules → Terms → Layout L → L → Dictionary → DictMethod → Bool → Outcome (Turned L)
turn rules terms r none d method refused =
    if method_number method == method_number d.method
    then Done (record { region = r; dict = d; gone = []; granted = [] })
    else turned_with rules method d (bring terms r none d method refused)
