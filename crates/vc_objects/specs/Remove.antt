-- Taking objects out of a dictionary: their holders go.
use Rattle.std.specs.Prelude.{ℕ, List, [], ◌∷◌, Option, Some, None, map}
use Rattle.vc_model.specs.Layout.{Layout}
use Rattle.vc_base.specs.declared.dict_method.DictMethod.{DictMethod}
use Rattle.vc_base.specs.declared.dict_method.DictMethod.TheVariants.{DtSet, DtBag, DtOset, DtObag, DtList, DtStack, DtQueue}
use Rattle.vc_dtdisc.specs.Finding.{first_of}
use Rattle.vc_dtdisc.specs.Objects as objects
use Rattle.vc_dtdisc.specs.Objects.{Object, address_of, current_without, first_with, without_object}
use Rattle.vc_dtdisc.specs.Rules.{Rules}
use Rattle.vc_objects.specs.Insert.{layout_without, without_table}
use Rattle.vc_objects.specs.Objects.{Dictionary, option_list}

-- a region and a dictionary in it after an object was taken out, and that object's bytes, where there was one
pub record Removed (L : Type 0) : Type 0 where
  pub region : Layout L
  pub dict : Dictionary
  pub gone : Option (List ℕ)

abbrev pub remove_found : {L : Type 0} → Layout L → Dictionary → Option Object → Removed L
remove_found r d None = record { region = r; dict = d; gone = None }
remove_found r d (Some o) =
    record {
      region = layout_without r o.at;
      dict = record {
        method = d.method;
        objects = without_object address_of o.at d.objects;
        current = current_without address_of o.at d.current d.objects;
        table = d.table;
      };
      gone = Some o.bytes;
    }

-- the first object that has a key is taken out
abbrev pub remove : {L : Type 0} → Rules → Layout L → Dictionary → List ℕ → Removed L
remove rules r d key = remove_found r d (first_with objects.bytes_of rules key d.objects)

-- the first object is taken out
abbrev pub remove_first : {L : Type 0} → Layout L → Dictionary → Removed L
remove_first r d = remove_found r d (first_of d.objects)

-- the object that goes where none is named: the first one of a stack or queue
abbrev pub next_to_go : DictMethod → List Object → Option Object
next_to_go DtSet objects = None
next_to_go DtBag objects = None
next_to_go DtOset objects = None
next_to_go DtObag objects = None
next_to_go DtList objects = None
next_to_go DtStack objects = first_of objects
next_to_go DtQueue objects = first_of objects

-- the first object is taken out, of a stack or queue
abbrev pub remove_unnamed : {L : Type 0} → Layout L → Dictionary → Removed L
remove_unnamed r d = remove_found r d (next_to_go d.method d.objects)

-- the holders of these objects go
abbrev pub freed_all : {L : Type 0} → Layout L → List Object → Layout L
freed_all r [] = r
freed_all r (o ∷ os) = freed_all (layout_without r o.at) os

-- what objects are, in order
abbrev pub bytes_of : List Object → List (List ℕ)
bytes_of items = map objects.bytes_of items

-- a dictionary without its objects; the table stays
abbrev pub without_objects : Dictionary → Dictionary
without_objects d = record { method = d.method; objects = []; current = None; table = d.table }

-- a region and a dictionary in it after objects were taken out, and what they were, in order
pub record Emptied (L : Type 0) : Type 0 where
  pub region : Layout L
  pub dict : Dictionary
  pub gone : List (List ℕ)

-- the first object is taken out, where there is one, and all are
abbrev pub first_out : {L : Type 0} → Layout L → Dictionary → Emptied L
first_out r d =
    record {
      region = (remove_first r d).region;
      dict = (remove_first r d).dict;
      gone = option_list (remove_first r d).gone;
    }

abbrev pub all_out : {L : Type 0} → Layout L → Dictionary → Emptied L
all_out r d = record { region = freed_all r d.objects; dict = without_objects d; gone = bytes_of d.objects }

-- the region when a dictionary ends: without its holders and its table
abbrev pub region_without : {L : Type 0} → Layout L → Dictionary → Layout L
region_without r d = without_table (freed_all r d.objects) d.table
