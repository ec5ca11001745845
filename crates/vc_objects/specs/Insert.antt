-- Opening a dictionary and putting objects into it: the table and the holder are blocks of its region.
use Rattle.std.specs.Prelude.{ℕ, List, [], ◌++◌, Bool, Option, Some, None, length, if◌then◌else◌}
use Rattle.vc_model.specs.Layout.{Layout}
use Rattle.vc_base.specs.declared.dict_method.DictMethod.{DictMethod}
use Rattle.vc_model.specs.Addr.{address, place_of}
use Rattle.vc_model.specs.Best.{best_alloc, without_block_at}
use Rattle.vc_model.specs.Discipline.{Terms}
use Rattle.vc_model.specs.Segments.{Grant}
use Rattle.vc_model.specs.Outcome as model
use Rattle.vc_model.specs.Outcome.{Fault, Outcome, Done, Refused, Put}
use Rattle.vc_base.specs.Methods.{has_table}
use Rattle.vc_dict.specs.Methods.{wanted_by}
use Rattle.vc_dtdisc.specs.Objects.{address_of, bytes_of, linked_among}
use Rattle.vc_dtdisc.specs.Rules.{Rules}
use Rattle.vc_objects.specs.declared.fate.Fate.{Fate}
use Rattle.vc_objects.specs.declared.fate.Fate.TheVariants.{Stored, NoTable, NoHolder}
use Rattle.vc_objects.specs.declared.fate.Want.{Want}
use Rattle.vc_objects.specs.declared.fate.Want.TheVariants.{TooManySegments, NoSegment}
use Rattle.vc_objects.specs.Objects.{Dictionary, Table, holder_size, option_list, slots_of, table_size}

-- an unlabelled block of zeros is allocated; whether a segment is refused is a free choice
abbrev pub alloc_unlabelled : {L : Type 0} → Terms → Layout L → L → ℕ → Bool → Outcome (Put (Layout L))
alloc_unlabelled terms r none size refused = best_alloc terms r none size 32 refused

-- the block at an address goes
abbrev pub layout_without : {L : Type 0} → Layout L → ℕ → Layout L
layout_without r at = without_block_at r (place_of at)

-- a table goes, where there is one
abbrev pub without_table : {L : Type 0} → Layout L → Option Table → Layout L
without_table r None = r
without_table r (Some t) = layout_without r t.at

-- what a block wants that a best region doesn't put
abbrev pub want_of : Fault → Want
want_of model.NoSegment = NoSegment
want_of fault = TooManySegments

-- a region and a dictionary in it, and what was granted
pub record Grown (L : Type 0) : Type 0 where
  pub region : Layout L
  pub dict : Dictionary
  pub granted : List Grant

-- a block that was put becomes the table, and the one before it goes
abbrev pub grown_with : {L : Type 0} → Dictionary → ℕ → Outcome (Put (Layout L)) → Outcome (Grown L)
grown_with d slots (Refused why) = Refused why
grown_with d slots (Done p) =
    Done (record {
      region = without_table p.region d.table;
      dict = record d { table = Some (record { at = address p.at; slots = slots }) };
      granted = option_list p.granted;
    })

abbrev pub grown_to : {L : Type 0} → Terms → Layout L → L → Dictionary → Bool → Option ℕ → Outcome (Grown L)
grown_to terms r none d refused None = Done (record { region = r; dict = d; granted = [] })
grown_to terms r none d refused (Some slots) = grown_with d slots (alloc_unlabelled terms r none (table_size slots) refused)

-- the slots that are wanted before one more object is added, where the table has too few
abbrev pub slots_wanted : Dictionary → Option ℕ
slots_wanted d = wanted_by d.method (slots_of d.table) (length d.objects) 1

-- the table grows where one more object wants it
abbrev pub grow : {L : Type 0} → Terms → Layout L → L → Dictionary → Bool → Outcome (Grown L)
grow terms r none d refused = grown_to terms r none d refused (slots_wanted d)

-- a dictionary of a method with no object; a set or bag has a table of 16 slots
abbrev pub empty_dictionary : DictMethod → Dictionary
empty_dictionary method = record { method = method; objects = []; current = None; table = None }

abbrev pub open_dictionary : {L : Type 0} → Terms → Layout L → L → DictMethod → Bool → Outcome (Grown L)
open_dictionary terms r none method refused = grown_to terms r none (empty_dictionary method) refused (if has_table method then Some 16 else None)

-- an object stands in its holder, and is current
abbrev pub with_object : Rules → Bool → List ℕ → Dictionary → ℕ → Dictionary
with_object rules append bytes d at =
    record {
      method = d.method;
      objects =
          linked_among address_of bytes_of append d.method rules d.current
          (record { at = at; bytes = bytes }) d.objects;
      current = Some at;
      table = d.table;
    }

-- what becomes of an object that is put: the region and the dictionary then, what was granted, and whether it is stored or what it wants
pub record Inserted (L : Type 0) : Type 0 where
  pub region : Layout L
  pub dict : Dictionary
  pub granted : List Grant
  pub fate : Fate

-- the holder's block was put, or not: a larger table stays
abbrev pub insert_of : {L : Type 0} → Rules → Bool → List ℕ → Grown L → Outcome (Put (Layout L)) → Inserted L
insert_of rules append bytes g (Refused why) =
    record { region = g.region; dict = g.dict; granted = g.granted; fate = NoHolder (want_of why) }
insert_of rules append bytes g (Done p) =
    record {
      region = p.region;
      dict = with_object rules append bytes g.dict (address p.at);
      granted = g.granted ++ option_list p.granted;
      fate = Stored;
    }

abbrev pub held_in : {L : Type 0} → Rules → Terms → Layout L → L → Dictionary → Bool → List ℕ → Bool → Outcome (Grown L) → Inserted L
held_in rules terms r none d append bytes no_holder (Refused why) =
    record { region = r; dict = d; granted = []; fate = NoTable (want_of why) }
held_in rules terms r none d append bytes no_holder (Done g) =
    insert_of rules append bytes g (alloc_unlabelled terms g.region none (holder_size bytes) no_holder)

-- an object is put where `insert` does, or `append`: the table grows first where it must, then comes the holder; whether a segment is refused for either is a free choice
abbrev pub insert : {L : Type 0} → Rules → Terms → Layout L → L → Dictionary → Bool → List ℕ → Bool → Bool → Inserted L
insert rules terms r none d append bytes no_table no_holder =
    held_in rules terms r none d append bytes no_holder (grow terms r none d no_table)
