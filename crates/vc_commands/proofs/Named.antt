-- Commands on a dictionary commute with a change of the labels of its region.
use Rattle.vc_base.proofs.Common.{◌≡◌, ℕ, Bool, true, false, cond, List, [], length, Some, None, Option, sym, refl, ap, ◌∙◌, subst, is_list, Discipline, Layout, relabel_layout, Outcome, done_as}
use Rattle.vc_base.specs.declared.dict_method.DictMethod.{DictMethod}
use Rattle.vc_model.specs.Outcome as model
use Rattle.vc_dtdisc.specs.Objects.{Object}
use Rattle.vc_objects.specs.Insert.{Inserted}
use Rattle.vc_objects.specs.Leaves.{LacksHolder, LacksTable}
use Rattle.vc_objects.specs.Remove.{Removed, bytes_of, without_objects, remove}
use Rattle.vc_objects.specs.Turn.{Turned, turn}
use Rattle.vc_objects.proofs.Named.{freed_all-named, insert-named, relabel_turned, remove-named, remove_unnamed-named, turn-named}
use Rattle.vc_script.specs.Needs.{Need}
use Rattle.vc_script.specs.declared.command.Command.{Command}
use Rattle.vc_script.specs.declared.command.Command.TheVariants.{Insert, Append, Attach, Delete, Detach, Count, Remethod, Empty}
use Rattle.vc_script.specs.declared.refusal.Refusal.TheVariants.{NoSegmentForTable, NoSegmentForObject, Size, WrongMethod}
use Rattle.vc_script.specs.declared.reply.Reply.{Reply}
use Rattle.vc_script.specs.declared.reply.Reply.TheVariants.{Emptied, Refused}
use Rattle.vc_commands.specs.DictCommands.{append_in, delete_in, empty_in, in_dict, insert_in, is_for_object, is_for_table, is_object, object_asked, inserted_as, put_object, put_unless, remove_in, removed_as, matched_in_set, table_asked, turned_as, where_object}
use Rattle.vc_commands.specs.DictRun.{LacksBy}
use Rattle.vc_commands.specs.Seat.{DictChanged, Seat, seat_with_refusal}

module _ {L M : Type 0} (f : L → M) where
  -- a seat, and what a command gives, with other labels
  abbrev pub relabel_seat : Seat L → Seat M
  relabel_seat s = record { rules = s.rules; terms = s.terms; none = f s.none; region = relabel_layout f s.region; dict = s.dict }

  abbrev pub relabel_changed : DictChanged L → DictChanged M
  relabel_changed c = record { region = relabel_layout f c.region; dict = c.dict; reply = c.reply; told = c.told; granted = c.granted }

  -- by whether a word is an object
  by_size : (s : Seat L) (c : DictChanged L) (fits : Bool) → cond fits (relabel_changed c) (seat_with_refusal (relabel_seat s) Size) ≡ relabel_changed (cond fits c (seat_with_refusal s Size))
  by_size s c true = refl
  by_size s c false = refl

  where_object-named : (s : Seat L) (bytes : List ℕ) (c : DictChanged L) (c' : DictChanged M) → c' ≡ relabel_changed c → where_object (relabel_seat s) bytes c' ≡ relabel_changed (where_object s bytes c)
  where_object-named s bytes c c' same =
      ap (λ (x : DictChanged M). where_object (relabel_seat s) bytes x) same ∙ by_size s c (is_object bytes)

  put_object-named : (s : Seat L) (append : Bool) (bytes : List ℕ) (need : Need) → put_object (relabel_seat s) append bytes need ≡ relabel_changed (put_object s append bytes need)
  put_object-named s append bytes need =
      ap (λ (c : Inserted M). inserted_as bytes c) (insert-named f s.rules s.terms s.region s.none s.dict append bytes (is_for_table need) (is_for_object need))

  put_unless-named : (s : Seat L) (bytes : List ℕ) (need : Need) (found : Option Object) → put_unless (relabel_seat s) bytes need found ≡ relabel_changed (put_unless s bytes need found)
  put_unless-named s bytes need (Some o) = refl
  put_unless-named s bytes need None = put_object-named s false bytes need

  insert_in-named : (s : Seat L) (bytes : List ℕ) (need : Need) → insert_in (relabel_seat s) bytes need ≡ relabel_changed (insert_in s bytes need)
  insert_in-named s bytes need = put_unless-named s bytes need (matched_in_set s bytes)

  by_method : (s : Seat L) (bytes : List ℕ) (need : Need) (list : Bool) → cond list (where_object (relabel_seat s) bytes (put_object (relabel_seat s) true (s.rules.made bytes) need)) (seat_with_refusal (relabel_seat s) WrongMethod) ≡ relabel_changed (cond list (where_object s bytes (put_object s true (s.rules.made bytes) need)) (seat_with_refusal s WrongMethod))
  by_method s bytes need true = where_object-named s bytes (put_object s true (s.rules.made bytes) need) _ (put_object-named s true (s.rules.made bytes) need)
  by_method s bytes need false = refl

  append_in-named : (s : Seat L) (bytes : List ℕ) (need : Need) → append_in (relabel_seat s) bytes need ≡ relabel_changed (append_in s bytes need)
  append_in-named s bytes need = by_method s bytes need (is_list s.dict.method)

  remove_in-named : (s : Seat L) (tells : Bool) (bytes : List ℕ) → remove_in (relabel_seat s) tells bytes ≡ relabel_changed (remove_in s tells bytes)
  remove_in-named s tells bytes =
      where_object-named s bytes (removed_as tells (remove s.rules s.region s.dict (s.rules.key bytes))) _ (ap (λ (c : Removed M). removed_as tells c) (remove-named f s.rules s.region s.dict (s.rules.key bytes)))

  delete_in-named : (s : Seat L) (object : Option (List ℕ)) → delete_in (relabel_seat s) object ≡ relabel_changed (delete_in s object)
  delete_in-named s None = ap (λ (c : Removed M). removed_as true c) (remove_unnamed-named f s.region s.dict)
  delete_in-named s (Some bytes) = remove_in-named s true bytes

  empty_in-named : (s : Seat L) (name : List ℕ) → empty_in (relabel_seat s) name ≡ relabel_changed (empty_in s name)
  empty_in-named s name =
      ap (λ (r : Layout M). record { region = r; dict = without_objects s.dict; reply = Emptied name (length s.dict.objects); told = bytes_of s.dict.objects; granted = [] }) (freed_all-named f s.region s.dict.objects)

  turned_as-named : (s : Seat L) (name : List ℕ) (method : DictMethod) (o : Outcome (Turned L)) → turned_as (relabel_seat s) name method (done_as (relabel_turned f) o) ≡ relabel_changed (turned_as s name method o)
  turned_as-named s name method (model.Refused fault) = refl
  turned_as-named s name method (model.Done t) = refl

  turn_in-named : (s : Seat L) (name : List ℕ) (method : DictMethod) (need : Need) → in_dict (relabel_seat s) (Remethod name method) need ≡ relabel_changed (in_dict s (Remethod name method) need)
  turn_in-named s name method need =
      ap (λ (o : Outcome (Turned M)). turned_as (relabel_seat s) name method o) (turn-named f s.rules s.terms s.region s.none s.dict method (is_for_table need))
      ∙ turned_as-named s name method (turn s.rules s.terms s.region s.none s.dict method (is_for_table need))

  put-named : (s : Seat L) (word bytes : List ℕ) (need : Need) → where_object (relabel_seat s) word (insert_in (relabel_seat s) bytes need) ≡ relabel_changed (where_object s word (insert_in s bytes need))
  put-named s word bytes need = where_object-named s word (insert_in s bytes need) _ (insert_in-named s bytes need)

  pub in_dict-named : (s : Seat L) (command : Command) (need : Need) → in_dict (relabel_seat s) command need ≡ relabel_changed (in_dict s command need)
  in_dict-named s (Insert d bytes) need = put-named s bytes (s.rules.made bytes) need
  in_dict-named s (Append d bytes) need = append_in-named s bytes need
  in_dict-named s (Attach d bytes) need = put-named s bytes bytes need
  in_dict-named s (Delete d object) need = delete_in-named s object
  in_dict-named s (Detach d bytes) need = remove_in-named s false bytes
  in_dict-named s (Count d) need = refl
  in_dict-named s (Remethod d method) need = turn_in-named s d method need
  in_dict-named s (Empty d) need = empty_in-named s d
  in_dict-named s command need = refl

  -- what a command may ask for says nothing of labels
  pub table_asked-named : (s : Seat L) (command : Command) → table_asked (relabel_seat s) command ≡ table_asked s command
  table_asked-named s (Insert d bytes) = refl
  table_asked-named s (Attach d bytes) = refl
  table_asked-named s (Remethod d method) = refl
  table_asked-named s command = refl

  pub object_asked-named : (s : Seat L) (command : Command) → object_asked (relabel_seat s) command ≡ object_asked s command
  object_asked-named s (Insert d bytes) = refl
  object_asked-named s (Append d bytes) = refl
  object_asked-named s (Attach d bytes) = refl
  object_asked-named s command = refl

  pub lacks-named : (s : Seat L) (command : Command) (reply : Reply) (old new : Discipline) → LacksBy s command reply old new → LacksBy (relabel_seat s) command reply old new
  lacks-named s command (Refused NoSegmentForTable) old new h = subst (λ o. LacksTable o old new) (sym (table_asked-named s command)) h
  lacks-named s command (Refused NoSegmentForObject) old new h =
      subst (λ o. LacksHolder o (object_asked (relabel_seat s) command) old new) (sym (table_asked-named s command)) (subst (λ bs. LacksHolder (table_asked s command) bs old new) (sym (object_asked-named s command)) h)
  lacks-named s command reply old new h = h

  pub lacks-unnamed : (s : Seat L) (command : Command) (reply : Reply) (old new : Discipline) → LacksBy (relabel_seat s) command reply old new → LacksBy s command reply old new
  lacks-unnamed s command (Refused NoSegmentForTable) old new h = subst (λ o. LacksTable o old new) (table_asked-named s command) h
  lacks-unnamed s command (Refused NoSegmentForObject) old new h =
      subst (λ o. LacksHolder o (object_asked s command) old new) (table_asked-named s command) (subst (λ bs. LacksHolder (table_asked (relabel_seat s) command) bs old new) (object_asked-named s command) h)
  lacks-unnamed s command reply old new h = h
