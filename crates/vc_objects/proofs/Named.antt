-- Every call on a dictionary commutes with a change of the labels of its region.
use Rattle.vc_base.proofs.Common.{◌≡◌, ℕ, Bool, true, false, cond, List, [], ◌∷◌, length, ◌==◌, Some, None, Option, sym, refl, ap, ◌∙◌, has_table, method_number, address, place_of, Terms, Block, Layout, relabel_layout, Done, Outcome, Put, Refused, done_as, outcome_as}
use Rattle.vc_base.specs.declared.dict_method.DictMethod.{DictMethod}
use Rattle.vc_model.proofs.Relabel.{best_alloc-relabel, without_block-relabel}
use Rattle.vc_dict.specs.Methods.{slots_between}
use Rattle.vc_dtdisc.specs.Objects as objects
use Rattle.vc_dtdisc.specs.Objects.{Object, first_with}
use Rattle.vc_dtdisc.specs.Rules.{Rules}
use Rattle.vc_objects.specs.Insert.{Grown, Inserted, alloc_unlabelled, empty_dictionary, layout_without, grow, grown_to, grown_with, insert_of, held_in, insert, open_dictionary, slots_wanted, without_table}
use Rattle.vc_objects.specs.Objects.{Dictionary, Table, holder_size, option_list, table_size}
use Rattle.vc_objects.specs.Remove.{Removed, bytes_of, freed_all, region_without, remove, remove_found, remove_unnamed, next_to_go}
use Rattle.vc_objects.specs.Turn.{Brought, Turned, bring, bring_of, turn_with, objects_dropped, table_left, turn, turned_to, turned_with}

module _ {L M : Type 0} (f : L → M) where
  -- what the calls give, with other labels
  abbrev pub relabel_grown : Grown L → Grown M
  relabel_grown g = record { region = relabel_layout f g.region; dict = g.dict; granted = g.granted }

  abbrev pub relabel_inserted : Inserted L → Inserted M
  relabel_inserted c = record { region = relabel_layout f c.region; dict = c.dict; granted = c.granted; fate = c.fate }

  abbrev pub relabel_removed : Removed L → Removed M
  relabel_removed c = record { region = relabel_layout f c.region; dict = c.dict; gone = c.gone }

  abbrev pub relabel_brought : Brought L → Brought M
  relabel_brought b = record { region = relabel_layout f b.region; table = b.table; granted = b.granted }

  abbrev pub relabel_turned : Turned L → Turned M
  relabel_turned t = record { region = relabel_layout f t.region; dict = t.dict; gone = t.gone; granted = t.granted }

  pub alloc_unlabelled-named : (terms : Terms) (r : Layout L) (none : L) (size : ℕ) (refused : Bool) → alloc_unlabelled terms (relabel_layout f r) (f none) size refused ≡ outcome_as (relabel_layout f) (alloc_unlabelled terms r none size refused)
  alloc_unlabelled-named terms r none size refused = best_alloc-relabel f terms r none size 32 refused

  pub freed-named : (r : Layout L) (at : ℕ) → layout_without (relabel_layout f r) at ≡ relabel_layout f (layout_without r at)
  freed-named r at =
      let with : List (Block M) → Layout M = λ bs. record { segments = r.segments; blocks = bs } in
      ap with (sym (without_block-relabel f (place_of at) r.blocks))

  pub without_table-named : (r : Layout L) (table : Option Table) → without_table (relabel_layout f r) table ≡ relabel_layout f (without_table r table)
  without_table-named r None = refl
  without_table-named r (Some t) = freed-named r t.at

  grown_with-named : (d : Dictionary) (slots : ℕ) (o : Outcome (Put (Layout L))) → grown_with d slots (outcome_as (relabel_layout f) o) ≡ done_as relabel_grown (grown_with d slots o)
  grown_with-named d slots (Refused why) = refl
  grown_with-named d slots (Done p) =
      ap (λ (r : Layout M). Done (record { region = r; dict = record d { table = Some (record { at = address p.at; slots = slots }) }; granted = option_list p.granted })) (without_table-named p.region d.table)

  pub grown_to-named : (terms : Terms) (r : Layout L) (none : L) (d : Dictionary) (refused : Bool) (wanted : Option ℕ) → grown_to terms (relabel_layout f r) (f none) d refused wanted ≡ done_as relabel_grown (grown_to terms r none d refused wanted)
  grown_to-named terms r none d refused None = refl
  grown_to-named terms r none d refused (Some slots) =
      ap (grown_with d slots) (alloc_unlabelled-named terms r none (table_size slots) refused) ∙ grown_with-named d slots (alloc_unlabelled terms r none (table_size slots) refused)

  pub grow-named : (terms : Terms) (r : Layout L) (none : L) (d : Dictionary) (refused : Bool) → grow terms (relabel_layout f r) (f none) d refused ≡ done_as relabel_grown (grow terms r none d refused)
  grow-named terms r none d refused = grown_to-named terms r none d refused (slots_wanted d)

  pub open_dictionary-named : (terms : Terms) (r : Layout L) (none : L) (method : DictMethod) (refused : Bool) → open_dictionary terms (relabel_layout f r) (f none) method refused ≡ done_as relabel_grown (open_dictionary terms r none method refused)
  open_dictionary-named terms r none method refused =
      grown_to-named terms r none (empty_dictionary method) refused (cond (has_table method) (Some 16) None)

  held-named : (rules : Rules) (append : Bool) (bytes : List ℕ) (g : Grown L) (o : Outcome (Put (Layout L))) → insert_of rules append bytes (relabel_grown g) (outcome_as (relabel_layout f) o) ≡ relabel_inserted (insert_of rules append bytes g o)
  held-named rules append bytes g (Refused why) = refl
  held-named rules append bytes g (Done p) = refl

  held_in-named : (rules : Rules) (terms : Terms) (r : Layout L) (none : L) (d : Dictionary) (append : Bool) (bytes : List ℕ) (no_holder : Bool) (o : Outcome (Grown L)) → held_in rules terms (relabel_layout f r) (f none) d append bytes no_holder (done_as relabel_grown o) ≡ relabel_inserted (held_in rules terms r none d append bytes no_holder o)
  held_in-named rules terms r none d append bytes no_holder (Refused why) = refl
  held_in-named rules terms r none d append bytes no_holder (Done g) =
      ap (insert_of rules append bytes (relabel_grown g)) (alloc_unlabelled-named terms g.region none (holder_size bytes) no_holder) ∙ held-named rules append bytes g (alloc_unlabelled terms g.region none (holder_size bytes) no_holder)

  pub insert-named : (rules : Rules) (terms : Terms) (r : Layout L) (none : L) (d : Dictionary) (append : Bool) (bytes : List ℕ) (no_table no_holder : Bool) → insert rules terms (relabel_layout f r) (f none) d append bytes no_table no_holder ≡ relabel_inserted (insert rules terms r none d append bytes no_table no_holder)
  insert-named rules terms r none d append bytes no_table no_holder =
      ap (held_in rules terms (relabel_layout f r) (f none) d append bytes no_holder) (grow-named terms r none d no_table) ∙ held_in-named rules terms r none d append bytes no_holder (grow terms r none d no_table)

  pub remove_found-named : (r : Layout L) (d : Dictionary) (found : Option Object) → remove_found (relabel_layout f r) d found ≡ relabel_removed (remove_found r d found)
  remove_found-named r d None = refl
  remove_found-named r d (Some o) =
      let there = remove_found r d (Some o) in
      ap (λ (after : Layout M). record { region = after; dict = there.dict; gone = there.gone }) (freed-named r o.at)

  pub remove-named : (rules : Rules) (r : Layout L) (d : Dictionary) (key : List ℕ) → remove rules (relabel_layout f r) d key ≡ relabel_removed (remove rules r d key)
  remove-named rules r d key = remove_found-named r d (first_with objects.bytes_of rules key d.objects)

  pub remove_unnamed-named : (r : Layout L) (d : Dictionary) → remove_unnamed (relabel_layout f r) d ≡ relabel_removed (remove_unnamed r d)
  remove_unnamed-named r d = remove_found-named r d (next_to_go d.method d.objects)

  pub freed_all-named : (r : Layout L) (objects : List Object) → freed_all (relabel_layout f r) objects ≡ relabel_layout f (freed_all r objects)
  freed_all-named r [] = refl
  freed_all-named r (o ∷ os) = ap (λ (after : Layout M). freed_all after os) (freed-named r o.at) ∙ freed_all-named (layout_without r o.at) os

  -- some holders and a table go
  freed_both-named : (r : Layout L) (objects : List Object) (table : Option Table) → without_table (freed_all (relabel_layout f r) objects) table ≡ relabel_layout f (without_table (freed_all r objects) table)
  freed_both-named r objects table =
      ap (λ (after : Layout M). without_table after table) (freed_all-named r objects) ∙ without_table-named (freed_all r objects) table

  pub region_without-named : (r : Layout L) (d : Dictionary) → region_without (relabel_layout f r) d ≡ relabel_layout f (region_without r d)
  region_without-named r d = freed_both-named r d.objects d.table

  brought-named : (slots : ℕ) (o : Outcome (Put (Layout L))) → turn_with slots (outcome_as (relabel_layout f) o) ≡ done_as relabel_brought (turn_with slots o)
  brought-named slots (Refused why) = refl
  brought-named slots (Done p) = refl

  bring_of-named : (terms : Terms) (r : Layout L) (none : L) (refused : Bool) (wanted : Option ℕ) → bring_of terms (relabel_layout f r) (f none) refused wanted ≡ done_as relabel_brought (bring_of terms r none refused wanted)
  bring_of-named terms r none refused None = refl
  bring_of-named terms r none refused (Some slots) =
      ap (turn_with slots) (alloc_unlabelled-named terms r none (table_size slots) refused) ∙ brought-named slots (alloc_unlabelled terms r none (table_size slots) refused)

  pub bring-named : (terms : Terms) (r : Layout L) (none : L) (d : Dictionary) (method : DictMethod) (refused : Bool) → bring terms (relabel_layout f r) (f none) d method refused ≡ done_as relabel_brought (bring terms r none d method refused)
  bring-named terms r none d method refused = bring_of-named terms r none refused (slots_between d.method method (length d.objects))

  turned_with-named : (rules : Rules) (method : DictMethod) (d : Dictionary) (o : Outcome (Brought L)) → turned_with rules method d (done_as relabel_brought o) ≡ done_as relabel_turned (turned_with rules method d o)
  turned_with-named rules method d (Refused why) = refl
  turned_with-named rules method d (Done b) =
      ap (λ (r : Layout M). Done (record { region = r; dict = turned_to rules method d b.table; gone = bytes_of (objects_dropped rules method d); granted = b.granted })) (freed_both-named b.region (objects_dropped rules method d) (table_left d method))

  -- a turn by whether the method is the present one
  turn_by-named : (rules : Rules) (terms : Terms) (r : Layout L) (none : L) (d : Dictionary) (method : DictMethod) (refused same : Bool) → cond same (Done (record { region = relabel_layout f r; dict = d; gone = []; granted = [] })) (turned_with rules method d (bring terms (relabel_layout f r) (f none) d method refused)) ≡ done_as relabel_turned (cond same (Done (record { region = r; dict = d; gone = []; granted = [] })) (turned_with rules method d (bring terms r none d method refused)))
  turn_by-named rules terms r none d method refused true = refl
  turn_by-named rules terms r none d method refused false =
      ap (turned_with rules method d) (bring-named terms r none d method refused) ∙ turned_with-named rules method d (bring terms r none d method refused)

  pub turn-named : (rules : Rules) (terms : Terms) (r : Layout L) (none : L) (d : Dictionary) (method : DictMethod) (refused : Bool) → turn rules terms (relabel_layout f r) (f none) d method refused ≡ done_as relabel_turned (turn rules terms r none d method refused)
  turn-named rules terms r none d method refused =
      turn_by-named rules terms r none d method refused (method_number method == method_number d.method)
