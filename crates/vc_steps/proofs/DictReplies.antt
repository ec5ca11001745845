-- A command on a dictionary is refused no segment for a block.
use Rattle.vc_base.proofs.Common.{ℕ, Bool, true, false, cond, List, Some, None, Option, is_list, Outcome}
use Rattle.vc_base.specs.declared.dict_method.DictMethod.{DictMethod}
use Rattle.vc_model.specs.Outcome as model
use Rattle.vc_dtdisc.specs.Objects.{Object}
use Rattle.vc_objects.specs.Insert.{insert, want_of}
use Rattle.vc_objects.specs.Remove.{remove, remove_unnamed}
use Rattle.vc_objects.specs.Turn.{Turned, turn}
use Rattle.vc_objects.specs.declared.fate.Fate.{Fate}
use Rattle.vc_objects.specs.declared.fate.Fate.TheVariants.{Stored, NoTable, NoHolder}
use Rattle.vc_objects.specs.declared.fate.Want.{Want}
use Rattle.vc_objects.specs.declared.fate.Want.TheVariants as want
use Rattle.vc_script.specs.Needs.{Need}
use Rattle.vc_script.specs.declared.command.Command.{Command}
use Rattle.vc_script.specs.declared.command.Command.TheVariants.{Insert, Append, Attach, Delete, Detach, Count, Remethod, Empty}
use Rattle.vc_script.specs.declared.refusal.Refusal.TheVariants as why
use Rattle.vc_script.specs.declared.reply.Reply.{Reply}
use Rattle.vc_script.specs.declared.reply.Reply.TheVariants as reply
use Rattle.vc_commands.specs.DictCommands.{delete_in, fate_reply, gone_reply, in_dict, insert_in, is_for_object, is_for_table, is_object, object_refusal, put_object, put_unless, removed_as, matched_in_set, table_refusal, turned_as, where_object}
use Rattle.vc_commands.specs.Seat.{DictChanged, Seat, seat_with_refusal}

abbrev pub IsOther : Reply → Type 0
IsOther (reply.Refused why.NoSegment) = ⊥
IsOther told = Unit {0}

other-table : (w : Want) → IsOther (reply.Refused (table_refusal w))
other-table want.TooManySegments = tt
other-table want.NoSegment = tt

other-object : (w : Want) → IsOther (reply.Refused (object_refusal w))
other-object want.TooManySegments = tt
other-object want.NoSegment = tt

other-fate : (bytes : List ℕ) (fate : Fate) → IsOther (fate_reply bytes fate)
other-fate bytes Stored = tt
other-fate bytes (NoTable w) = other-table w
other-fate bytes (NoHolder w) = other-object w

other-gone : (tells : Bool) (o : Option (List ℕ)) → IsOther (gone_reply tells o)
other-gone tells None = tt
other-gone true (Some bytes) = tt
other-gone false (Some bytes) = tt

module _ {L : Type 0} (s : Seat L) where
  other-if : (t : Bool) (a b : DictChanged L) → IsOther a.reply → IsOther b.reply → IsOther (cond t a b).reply
  other-if true a b p q = p
  other-if false a b p q = q

  other-sized : (bytes : List ℕ) (c : DictChanged L) → IsOther c.reply → IsOther (where_object s bytes c).reply
  other-sized bytes c p = other-if (is_object bytes) c (seat_with_refusal s why.Size) p tt

  other-put : (append : Bool) (bytes : List ℕ) (need : Need) → IsOther (put_object s append bytes need).reply
  other-put append bytes need = other-fate bytes (insert s.rules s.terms s.region s.none s.dict append bytes (is_for_table need) (is_for_object need)).fate

  other-unless : (bytes : List ℕ) (need : Need) (o : Option Object) → IsOther (put_unless s bytes need o).reply
  other-unless bytes need None = other-put false bytes need
  other-unless bytes need (Some o) = tt

  other-insert : (word bytes : List ℕ) (need : Need) → IsOther (where_object s word (insert_in s bytes need)).reply
  other-insert word bytes need = other-sized word (insert_in s bytes need) (other-unless bytes need (matched_in_set s bytes))

  other-remove : (tells : Bool) (bytes : List ℕ) → IsOther (where_object s bytes (removed_as tells (remove s.rules s.region s.dict (s.rules.key bytes)))).reply
  other-remove tells bytes =
      let c = remove s.rules s.region s.dict (s.rules.key bytes) in other-sized bytes (removed_as tells c) (other-gone tells c.gone)

  other-delete : (o : Option (List ℕ)) → IsOther (delete_in s o).reply
  other-delete None = other-gone true (remove_unnamed s.region s.dict).gone
  other-delete (Some bytes) = other-remove true bytes

  other-turned : (name : List ℕ) (method : DictMethod) (o : Outcome (Turned L)) → IsOther (turned_as s name method o).reply
  other-turned name method (model.Done t) = tt
  other-turned name method (model.Refused fault) = other-table (want_of fault)

  pub other-dict : (command : Command) (need : Need) → IsOther (in_dict s command need).reply
  other-dict (Insert d bytes) need = other-insert bytes (s.rules.made bytes) need
  other-dict (Append d bytes) need =
      other-if (is_list s.dict.method) (where_object s bytes (put_object s true (s.rules.made bytes) need)) (seat_with_refusal s why.WrongMethod)
      (other-sized bytes (put_object s true (s.rules.made bytes) need) (other-put true (s.rules.made bytes) need)) tt
  other-dict (Attach d bytes) need = other-insert bytes bytes need
  other-dict (Delete d object) need = other-delete object
  other-dict (Detach d bytes) need = other-remove false bytes
  other-dict (Count d) need = tt
  other-dict (Remethod d method) need = other-turned d method (turn s.rules s.terms s.region s.none s.dict method (is_for_table need))
  other-dict (Empty d) need = tt
  other-dict command need = tt
