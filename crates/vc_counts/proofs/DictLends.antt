-- What a command on a dictionary lends: the segments that it is granted stand behind those of the region.
use Rattle.vc_base.proofs.Common.{◌≡◌, ℕ, Bool, true, false, cond, List, [], ◌∷◌, length, ◌==◌, Some, None, Option, refl, ◌∙◌, has_table, is_list, method_number, Terms, Layout, Outcome, Put}
use Rattle.vc_base.specs.declared.dict_method.DictMethod.{DictMethod}
use Rattle.vc_commands.specs.DictCommands.{append_in, delete_in, in_dict, insert_in, is_for_object, is_for_table, is_object, put_object, put_unless, removed_as, matched_in_set, turned_as}
use Rattle.vc_commands.specs.Seat.{DictChanged, Seat, seat_with_refusal}
use Rattle.vc_dict.specs.Methods.{slots_between}
use Rattle.vc_dtdisc.specs.Objects as objects
use Rattle.vc_dtdisc.specs.Objects.{Object, first_with}
use Rattle.vc_dtdisc.specs.Rules.{Rules}
use Rattle.vc_model.specs.Outcome as model
use Rattle.vc_objects.specs.Insert.{Grown, Inserted, alloc_unlabelled, empty_dictionary, layout_without, grow, grown_to, grown_with, insert_of, held_in, open_dictionary, slots_wanted, without_table}
use Rattle.vc_objects.specs.Objects.{Dictionary, Table, holder_size, option_list, table_size}
use Rattle.vc_objects.specs.Remove.{freed_all, region_without, remove, remove_found, next_to_go}
use Rattle.vc_objects.specs.Turn.{Brought, Turned, bring_of, turn_with, objects_dropped, table_left, turn, turned_with}
use Rattle.vc_script.specs.Needs.{Need}
use Rattle.vc_script.specs.declared.command.Command.{Command}
use Rattle.vc_script.specs.declared.command.Command.TheVariants.{Insert, Append, Attach, Delete, Detach, Remethod, Empty}
use Rattle.vc_script.specs.declared.refusal.Refusal.TheVariants as why
use Rattle.vc_counts.proofs.GrantedSegments.{StandBehind, behind-left, behind-more, none-behind}
use Rattle.vc_counts.proofs.RegionLends.{Puts, either, puts-best}

module _ {L : Type 0} where
  table-leaves : (r : Layout L) (t : Option Table) → (without_table r t).segments ≡ r.segments
  table-leaves r None = refl
  table-leaves r (Some t) = refl

  holders-leave : (r : Layout L) (os : List Object) → (freed_all r os).segments ≡ r.segments
  holders-leave r [] = refl
  holders-leave r (o ∷ os) = holders-leave (layout_without r o.at) os

  -- a dictionary that ends gives no segment back
  pub end-leaves : (r : Layout L) (d : Dictionary) → (region_without r d).segments ≡ r.segments
  end-leaves r d = table-leaves (freed_all r d.objects) d.table ∙ holders-leave r d.objects

  abbrev pub Grows : List (ℕ × ℕ) → Outcome (Grown L) → Type 0
  Grows segments (model.Done g) = StandBehind segments g.region.segments g.granted
  Grows segments (model.Refused why) = Unit {0}

  grows-with : (segments : List (ℕ × ℕ)) (d : Dictionary) (slots : ℕ) (o : Outcome (Put (Layout L))) → Puts segments o → Grows segments (grown_with d slots o)
  grows-with segments d slots (model.Done p) e = behind-left segments p.region.segments _ (option_list p.granted) (table-leaves p.region d.table) e
  grows-with segments d slots (model.Refused why) e = tt

  grows-to : (terms : Terms) (r : Layout L) (none : L) (d : Dictionary) (refused : Bool) (slots : Option ℕ) → Grows r.segments (grown_to terms r none d refused slots)
  grows-to terms r none d refused None = none-behind r.segments r.segments refl
  grows-to terms r none d refused (Some slots) =
      grows-with r.segments d slots (alloc_unlabelled terms r none (table_size slots) refused) (puts-best terms r none (table_size slots) 32 refused)

  pub grows-open : (terms : Terms) (r : Layout L) (none : L) (method : DictMethod) (refused : Bool) → Grows r.segments (open_dictionary terms r none method refused)
  grows-open terms r none method refused =
      grows-to terms r none (empty_dictionary method) refused (cond (has_table method) (Some 16) None)

  abbrev Inserts : List (ℕ × ℕ) → Inserted L → Type 0
  Inserts segments i = StandBehind segments i.region.segments i.granted

  inserts-held : (segments : List (ℕ × ℕ)) (rules : Rules) (append : Bool) (bytes : List ℕ) (g : Grown L) (o : Outcome (Put (Layout L))) → StandBehind segments g.region.segments g.granted → Puts g.region.segments o → Inserts segments (insert_of rules append bytes g o)
  inserts-held segments rules append bytes g (model.Done p) grown e =
      behind-more segments g.region.segments p.region.segments g.granted (option_list p.granted) grown e
  inserts-held segments rules append bytes g (model.Refused why) grown e = grown

  inserts-in : (rules : Rules) (terms : Terms) (r : Layout L) (none : L) (d : Dictionary) (append : Bool) (bytes : List ℕ) (refused : Bool) (o : Outcome (Grown L)) → Grows r.segments o → Inserts r.segments (held_in rules terms r none d append bytes refused o)
  inserts-in rules terms r none d append bytes refused (model.Done g) e =
      inserts-held r.segments rules append bytes g (alloc_unlabelled terms g.region none (holder_size bytes) refused) e
      (puts-best terms g.region none (holder_size bytes) 32 refused)
  inserts-in rules terms r none d append bytes refused (model.Refused why) e = none-behind r.segments r.segments refl

  abbrev Brings : List (ℕ × ℕ) → Outcome (Brought L) → Type 0
  Brings segments (model.Done b) = StandBehind segments b.region.segments b.granted
  Brings segments (model.Refused why) = Unit {0}

  brings-with : (segments : List (ℕ × ℕ)) (slots : ℕ) (o : Outcome (Put (Layout L))) → Puts segments o → Brings segments (turn_with slots o)
  brings-with segments slots (model.Done p) e = e
  brings-with segments slots (model.Refused why) e = tt

  brings : (terms : Terms) (r : Layout L) (none : L) (refused : Bool) (slots : Option ℕ) → Brings r.segments (bring_of terms r none refused slots)
  brings terms r none refused None = none-behind r.segments r.segments refl
  brings terms r none refused (Some slots) =
      brings-with r.segments slots (alloc_unlabelled terms r none (table_size slots) refused) (puts-best terms r none (table_size slots) 32 refused)

  abbrev Turns : List (ℕ × ℕ) → Outcome (Turned L) → Type 0
  Turns segments (model.Done t) = StandBehind segments t.region.segments t.granted
  Turns segments (model.Refused why) = Unit {0}

  turns-with : (segments : List (ℕ × ℕ)) (rules : Rules) (method : DictMethod) (d : Dictionary) (o : Outcome (Brought L)) → Brings segments o → Turns segments (turned_with rules method d o)
  turns-with segments rules method d (model.Done b) e =
      let dropped = objects_dropped rules method d in
      behind-left segments b.region.segments _ b.granted (table-leaves (freed_all b.region dropped) (table_left d method) ∙ holders-leave b.region dropped) e
  turns-with segments rules method d (model.Refused why) e = tt

  turns : (rules : Rules) (terms : Terms) (r : Layout L) (none : L) (d : Dictionary) (method : DictMethod) (refused : Bool) → Turns r.segments (turn rules terms r none d method refused)
  turns rules terms r none d method refused =
      either (Turns r.segments) (method_number method == method_number d.method) _ _ (none-behind r.segments r.segments refl)
      (turns-with r.segments rules method d (bring_of terms r none refused (slots_between d.method method (length d.objects))) (brings terms r none refused (slots_between d.method method (length d.objects))))

  -- from where a command works to what it leaves of the region
  abbrev pub ChangesDict : Seat L → DictChanged L → Type 0
  ChangesDict s c = StandBehind s.region.segments c.region.segments c.granted

  same : (s : Seat L) → StandBehind s.region.segments s.region.segments []
  same s = none-behind s.region.segments s.region.segments refl

  put-changes : (s : Seat L) (append : Bool) (bytes : List ℕ) (need : Need) → ChangesDict s (put_object s append bytes need)
  put-changes s append bytes need =
      inserts-in s.rules s.terms s.region s.none s.dict append bytes (is_for_object need) (grow s.terms s.region s.none s.dict (is_for_table need))
      (grows-to s.terms s.region s.none s.dict (is_for_table need) (slots_wanted s.dict))

  unless-changes : (s : Seat L) (bytes : List ℕ) (need : Need) (o : Option Object) → ChangesDict s (put_unless s bytes need o)
  unless-changes s bytes need (Some o) = same s
  unless-changes s bytes need None = put-changes s false bytes need

  insert-changes : (s : Seat L) (given bytes : List ℕ) (need : Need) → ChangesDict s (cond (is_object given) (insert_in s bytes need) (seat_with_refusal s why.Size))
  insert-changes s given bytes need =
      either (ChangesDict s) (is_object given) (insert_in s bytes need) (seat_with_refusal s why.Size) (unless-changes s bytes need (matched_in_set s bytes)) (same s)

  append-changes : (s : Seat L) (bytes : List ℕ) (need : Need) → ChangesDict s (append_in s bytes need)
  append-changes s bytes need =
      either (ChangesDict s) (is_list s.dict.method) _ (seat_with_refusal s why.WrongMethod)
      (either (ChangesDict s) (is_object bytes) (put_object s true (s.rules.made bytes) need) (seat_with_refusal s why.Size) (put-changes s true (s.rules.made bytes) need) (same s))
      (same s)

  removed-changes : (s : Seat L) (tells : Bool) (o : Option Object) → ChangesDict s (removed_as tells (remove_found s.region s.dict o))
  removed-changes s tells None = same s
  removed-changes s tells (Some o) = same s

  remove-changes : (s : Seat L) (tells : Bool) (bytes : List ℕ) → ChangesDict s (cond (is_object bytes) (removed_as tells (remove s.rules s.region s.dict (s.rules.key bytes))) (seat_with_refusal s why.Size))
  remove-changes s tells bytes =
      either (ChangesDict s) (is_object bytes) _ (seat_with_refusal s why.Size) (removed-changes s tells (first_with objects.bytes_of s.rules (s.rules.key bytes) s.dict.objects)) (same s)

  delete-changes : (s : Seat L) (object : Option (List ℕ)) → ChangesDict s (delete_in s object)
  delete-changes s None = removed-changes s true (next_to_go s.dict.method s.dict.objects)
  delete-changes s (Some bytes) = remove-changes s true bytes

  turned-changes : (s : Seat L) (name : List ℕ) (method : DictMethod) (o : Outcome (Turned L)) → Turns s.region.segments o → ChangesDict s (turned_as s name method o)
  turned-changes s name method (model.Done t) e = e
  turned-changes s name method (model.Refused fault) e = same s

  -- a command on a dictionary adds the segments that it is granted to the region
  pub dict-changes : (s : Seat L) (command : Command) (need : Need) → ChangesDict s (in_dict s command need)
  dict-changes s (Insert d bytes) need = insert-changes s bytes (s.rules.made bytes) need
  dict-changes s (Append d bytes) need = append-changes s bytes need
  dict-changes s (Attach d bytes) need = insert-changes s bytes bytes need
  dict-changes s (Delete d object) need = delete-changes s object
  dict-changes s (Detach d bytes) need = remove-changes s false bytes
  dict-changes s (Remethod d method) need =
      turned-changes s d method (turn s.rules s.terms s.region s.none s.dict method (is_for_table need))
      (turns s.rules s.terms s.region s.none s.dict method (is_for_table need))
  dict-changes s (Empty d) need = none-behind s.region.segments _ (holders-leave s.region s.dict.objects)
  dict-changes s command need = same s
