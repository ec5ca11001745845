-- The commands on one dictionary: each gives the first refusal that applies, else the dictionary after it and the reply.
use Rattle.std.specs.Prelude.{ℕ, List, [], Bool, true, false, Option, Some, None, length, nat_le, ◌&&◌, if◌then◌else◌}
use Rattle.vc_base.specs.declared.dict_method.DictMethod.{DictMethod}
use Rattle.vc_model.specs.Outcome as model
use Rattle.vc_model.specs.Outcome.{Outcome}
use Rattle.vc_base.specs.Methods.{is_list, is_set}
use Rattle.vc_dtdisc.specs.Objects as objects
use Rattle.vc_dtdisc.specs.Objects.{Object, first_with}
use Rattle.vc_dict.specs.Methods.{slots_between}
use Rattle.vc_objects.specs.Insert.{Inserted, insert, slots_wanted, want_of}
use Rattle.vc_objects.specs.Objects.{option_list}
use Rattle.vc_objects.specs.Remove.{Removed, bytes_of, without_objects, freed_all, remove, remove_unnamed}
use Rattle.vc_objects.specs.Turn.{Turned, turn}
use Rattle.vc_objects.specs.declared.fate.Fate.{Fate}
use Rattle.vc_objects.specs.declared.fate.Fate.TheVariants.{Stored, NoTable, NoHolder}
use Rattle.vc_objects.specs.declared.fate.Want.{Want}
use Rattle.vc_objects.specs.declared.fate.Want.TheVariants as want
use Rattle.vc_script.specs.Needs.{Need, NoNeed, ForBlock, ForTable, ForObject}
use Rattle.vc_script.specs.declared.command.Command.{Command}
use Rattle.vc_script.specs.declared.command.Command.TheVariants.{Insert, Append, Attach, Delete, Detach, Count, Remethod, Empty}
use Rattle.vc_script.specs.declared.refusal.Refusal.{Refusal}
use Rattle.vc_script.specs.declared.refusal.Refusal.TheVariants as why
use Rattle.vc_script.specs.declared.reply.Reply.{Reply}
use Rattle.vc_script.specs.declared.reply.Reply.TheVariants.{New, Old, Gone, Out, Nothing, Number, MethodIs, Emptied, Refused}
use Rattle.vc_commands.specs.Seat.{DictChanged, Seat, seat_with_reply, seat_with_refusal}

abbrev pub is_for_table : Need → Bool
is_for_table NoNeed = false
is_for_table ForBlock = false
is_for_table ForTable = true
is_for_table ForObject = false

abbrev pub is_for_object : Need → Bool
is_for_object NoNeed = false
is_for_object ForBlock = false
is_for_object ForTable = false
is_for_object ForObject = true

-- an object or a key of a script has 1 to 1,024 bytes
abbrev pub is_object : List ℕ → Bool
is_object bytes = nat_le 1 (length bytes) && nat_le (length bytes) 1024

abbrev pub where_object : {L : Type 0} → Seat L → List ℕ → DictChanged L → DictChanged L
where_object s bytes c = if is_object bytes then c else seat_with_refusal s why.Size

-- the refusal of a script for what a table wants, and for what a holder does
abbrev pub table_refusal : Want → Refusal
table_refusal want.TooManySegments = why.TooManySegments
table_refusal want.NoSegment = why.NoSegmentForTable

abbrev pub object_refusal : Want → Refusal
object_refusal want.TooManySegments = why.TooManySegments
object_refusal want.NoSegment = why.NoSegmentForObject

-- the reply to an object that is put
abbrev pub fate_reply : List ℕ → Fate → Reply
fate_reply bytes Stored = New bytes
fate_reply bytes (NoTable wants) = Refused (table_refusal wants)
fate_reply bytes (NoHolder wants) = Refused (object_refusal wants)

abbrev pub inserted_as : {L : Type 0} → List ℕ → Inserted L → DictChanged L
inserted_as bytes c = record { region = c.region; dict = c.dict; reply = fate_reply bytes c.fate; told = []; granted = c.granted }

abbrev pub put_object : {L : Type 0} → Seat L → Bool → List ℕ → Need → DictChanged L
put_object s append bytes need =
    inserted_as bytes (insert s.rules s.terms s.region s.none s.dict append bytes (is_for_table need) (is_for_object need))

-- the object of a set that an object matches
abbrev pub matched_in_set : {L : Type 0} → Seat L → List ℕ → Option Object
matched_in_set s bytes =
    if is_set s.dict.method
    then first_with objects.bytes_of s.rules (s.rules.key bytes) s.dict.objects
    else None

abbrev pub put_unless : {L : Type 0} → Seat L → List ℕ → Need → Option Object → DictChanged L
put_unless s bytes need (Some o) = seat_with_reply s (Old o.bytes)
put_unless s bytes need None = put_object s false bytes need

-- an object is put, unless one of a set matches it
abbrev pub insert_in : {L : Type 0} → Seat L → List ℕ → Need → DictChanged L
insert_in s bytes need = put_unless s bytes need (matched_in_set s bytes)

-- so is the object itself, or the one that is made of these bytes
abbrev pub attach_in : {L : Type 0} → Seat L → List ℕ → Need → DictChanged L
attach_in s bytes need = where_object s bytes (insert_in s bytes need)

abbrev pub insert_made_in : {L : Type 0} → Seat L → List ℕ → Need → DictChanged L
insert_made_in s bytes need = where_object s bytes (insert_in s (s.rules.made bytes) need)

-- lists alone are appended to
abbrev pub append_in : {L : Type 0} → Seat L → List ℕ → Need → DictChanged L
append_in s bytes need =
    if is_list s.dict.method
    then where_object s bytes (put_object s true (s.rules.made bytes) need)
    else seat_with_refusal s why.WrongMethod

-- what was taken out is told to the script, and to the kind where that is wanted
abbrev pub gone_reply : Bool → Option (List ℕ) → Reply
gone_reply tells None = Nothing
gone_reply tells (Some bytes) = if tells then Gone bytes else Out bytes

abbrev pub removed_as : {L : Type 0} → Bool → Removed L → DictChanged L
removed_as tells c =
    record {
      region = c.region;
      dict = c.dict;
      reply = gone_reply tells c.gone;
      told = if tells then option_list c.gone else [];
      granted = [];
    }

abbrev pub remove_in : {L : Type 0} → Seat L → Bool → List ℕ → DictChanged L
remove_in s tells bytes = where_object s bytes (removed_as tells (remove s.rules s.region s.dict (s.rules.key bytes)))

abbrev pub delete_in : {L : Type 0} → Seat L → Option (List ℕ) → DictChanged L
delete_in s None = removed_as true (remove_unnamed s.region s.dict)
delete_in s (Some bytes) = remove_in s true bytes

-- all objects go, and the kind is told of each
abbrev pub empty_in : {L : Type 0} → Seat L → List ℕ → DictChanged L
empty_in s name =
    record {
      region = freed_all s.region s.dict.objects;
      dict = without_objects s.dict;
      reply = Emptied name (length s.dict.objects);
      told = bytes_of s.dict.objects;
      granted = [];
    }

-- another method
abbrev pub turned_as : {L : Type 0} → Seat L → List ℕ → DictMethod → Outcome (Turned L) → DictChanged L
turned_as s name method (model.Refused fault) = seat_with_refusal s (table_refusal (want_of fault))
turned_as s name method (model.Done t) =
    record { region = t.region; dict = t.dict; reply = MethodIs name method; told = t.gone; granted = t.granted }

-- a command on one dictionary; the need is the one free choice. The others look through a view path, begin or end a dictionary or a view
abbrev pub in_dict : {L : Type 0} → Seat L → Command → Need → DictChanged L
in_dict s (Insert d bytes) need = insert_made_in s bytes need
in_dict s (Append d bytes) need = append_in s bytes need
in_dict s (Attach d bytes) need = attach_in s bytes need
in_dict s (Delete d object) need = delete_in s object
in_dict s (Detach d bytes) need = remove_in s false bytes
in_dict s (Count d) need = seat_with_reply s (Number (length s.dict.objects))
in_dict s (Remethod d method) need =
    turned_as s d method (turn s.rules s.terms s.region s.none s.dict method (is_for_table need))
in_dict s (Empty d) need = empty_in s d
in_dict s command need = seat_with_refusal s why.NoDictionary

-- whether a command may ask for a segment: it puts an object, or turns the dictionary
abbrev pub asks : Command → Bool
asks (Insert d bytes) = true
asks (Append d bytes) = true
asks (Attach d bytes) = true
asks (Remethod d method) = true
asks command = false

-- the slots of the table that a command may need
abbrev pub table_asked : {L : Type 0} → Seat L → Command → Option ℕ
table_asked s (Insert d bytes) = slots_wanted s.dict
table_asked s (Attach d bytes) = slots_wanted s.dict
table_asked s (Remethod d method) = slots_between s.dict.method method (length s.dict.objects)
table_asked s command = None

-- the object that it may put into a holder
abbrev pub object_asked : {L : Type 0} → Seat L → Command → List ℕ
object_asked s (Insert d bytes) = s.rules.made bytes
object_asked s (Append d bytes) = s.rules.made bytes
object_asked s (Attach d bytes) = bytes
object_asked s command = []
