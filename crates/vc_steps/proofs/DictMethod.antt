-- A command that doesn't turn a dictionary leaves its method.
use Rattle.vc_base.proofs.Common.{◌≡◌, ℕ, Bool, true, false, cond, List, IfOk, OnErr, Some, None, Ok, Err, Option, Result, sym, refl, ap, ◌∙◌, inl, inr, false≢true, is_list, Layout, Outcome, Put}
use Rattle.vc_model.specs.Outcome as model
use Rattle.vc_dtdisc.specs.Objects.{Object, bytes_of, first_with}
use Rattle.vc_dtdisc.specs.Rules.{Gone}
use Rattle.vc_objects.specs.Insert.{Grown, alloc_unlabelled, grow, grown_to, grown_with, insert_of, held_in, slots_wanted}
use Rattle.vc_objects.specs.Leaves.{HasGrown}
use Rattle.vc_objects.specs.Objects.{Dictionary, table_size, holder_size}
use Rattle.vc_objects.specs.Remove.{remove_found, next_to_go}
use Rattle.vc_script.specs.Needs.{Need, need_shown}
use Rattle.vc_script.specs.declared.command.Command.{Command}
use Rattle.vc_script.specs.declared.command.Command.TheVariants.{Insert, Append, Attach, Delete, Detach, Remethod, Empty}
use Rattle.vc_script.specs.declared.refusal.Refusal.TheVariants as why
use Rattle.vc_script.specs.declared.reply.Reply.{Reply}
use Rattle.vc_commands.specs.DictCommands.{in_dict, insert_in, is_for_object, is_for_table, is_object, put_object, put_unless, removed_as, matched_in_set, where_object}
use Rattle.vc_commands.specs.DictRun.{GivesDict, IsSpent, IsSpentBy}
use Rattle.vc_commands.specs.Seat.{DictChanged, Seat, seat_with_refusal}
use Rattle.vc_steps.specs.Dicts.{is_turn}

module _ {L : Type 0} where
  -- a dictionary that grew, where one did, has the method of one
  abbrev GrownKeeps : Dictionary → Outcome (Grown L) → Type 0
  GrownKeeps d (model.Refused fault) = Unit {0}
  GrownKeeps d (model.Done g) = g.dict.method ≡ d.method

  with-keeps : (d : Dictionary) (slots : ℕ) (o : Outcome (Put (Layout L))) → GrownKeeps d (grown_with d slots o)
  with-keeps d slots (model.Refused fault) = tt
  with-keeps d slots (model.Done p) = refl

  module _ (s : Seat L) where
    to-keeps : (d : Dictionary) (refused : Bool) (o : Option ℕ) → GrownKeeps d (grown_to s.terms s.region s.none d refused o)
    to-keeps d refused None = refl
    to-keeps d refused (Some slots) = with-keeps d slots (alloc_unlabelled s.terms s.region s.none (table_size slots) refused)

    held-keeps : (append : Bool) (bytes : List ℕ) (g : Grown L) (o : Outcome (Put (Layout L))) → (insert_of s.rules append bytes g o).dict.method ≡ g.dict.method
    held-keeps append bytes g (model.Refused fault) = refl
    held-keeps append bytes g (model.Done p) = refl

    in-keeps : (append : Bool) (bytes : List ℕ) (refused : Bool) (o : Outcome (Grown L)) → GrownKeeps s.dict o
        → (held_in s.rules s.terms s.region s.none s.dict append bytes refused o).dict.method ≡ s.dict.method
    in-keeps append bytes refused (model.Refused fault) keeps = refl
    in-keeps append bytes refused (model.Done g) keeps =
        held-keeps append bytes g (alloc_unlabelled s.terms g.region s.none (holder_size bytes) refused) ∙ keeps

    -- what a command gives keeps the method
    abbrev Keeps : DictChanged L → Type 0
    Keeps c = c.dict.method ≡ s.dict.method

    keeps-if : (t : Bool) (a b : DictChanged L) → Keeps a → Keeps b → Keeps (cond t a b)
    keeps-if true a b p q = p
    keeps-if false a b p q = q

    keeps-sized : (bytes : List ℕ) (c : DictChanged L) → Keeps c → Keeps (where_object s bytes c)
    keeps-sized bytes c p = keeps-if (is_object bytes) c (seat_with_refusal s why.Size) p refl

    keeps-put : (append : Bool) (bytes : List ℕ) (need : Need) → Keeps (put_object s append bytes need)
    keeps-put append bytes need =
        in-keeps append bytes (is_for_object need) (grow s.terms s.region s.none s.dict (is_for_table need)) (to-keeps s.dict (is_for_table need) (slots_wanted s.dict))

    keeps-unless : (bytes : List ℕ) (need : Need) (o : Option Object) → Keeps (put_unless s bytes need o)
    keeps-unless bytes need (Some o) = refl
    keeps-unless bytes need None = keeps-put false bytes need

    keeps-insert : (word bytes : List ℕ) (need : Need) → Keeps (where_object s word (insert_in s bytes need))
    keeps-insert word bytes need = keeps-sized word (insert_in s bytes need) (keeps-unless bytes need (matched_in_set s bytes))

    keeps-removed : (tells : Bool) (o : Option Object) → Keeps (removed_as tells (remove_found s.region s.dict o))
    keeps-removed tells None = refl
    keeps-removed tells (Some o) = refl

    keeps-remove : (tells : Bool) (bytes : List ℕ) → Keeps (where_object s bytes (removed_as tells (remove_found s.region s.dict (first_with bytes_of s.rules (s.rules.key bytes) s.dict.objects))))
    keeps-remove tells bytes =
        let found = first_with bytes_of s.rules (s.rules.key bytes) s.dict.objects in
        keeps-sized bytes (removed_as tells (remove_found s.region s.dict found)) (keeps-removed tells found)

    pub method-kept : (command : Command) (need : Need) → is_turn command ≡ false → Keeps (in_dict s command need)
    method-kept (Insert d bytes) need still = keeps-insert bytes (s.rules.made bytes) need
    method-kept (Append d bytes) need still =
        keeps-if (is_list s.dict.method) (where_object s bytes (put_object s true (s.rules.made bytes) need)) (seat_with_refusal s why.WrongMethod)
        (keeps-sized bytes (put_object s true (s.rules.made bytes) need) (keeps-put true (s.rules.made bytes) need)) refl
    method-kept (Attach d bytes) need still = keeps-insert bytes bytes need
    method-kept (Delete d None) need still = keeps-removed true (next_to_go s.dict.method s.dict.objects)
    method-kept (Delete d (Some bytes)) need still = keeps-remove true bytes
    method-kept (Detach d bytes) need still = keeps-remove false bytes
    method-kept (Remethod d method) need still = absurd (false≢true (sym still))
    method-kept (Empty d) need still = refl
    method-kept command need still = refl

-- so it is with no memory
module _ (s : Seat ℕ) (region : Layout ℕ) (d : Dictionary) where
  grown-kept : (o : Outcome (Grown ℕ)) → GrownKeeps s.dict o → HasGrown o region d → d.method ≡ s.dict.method
  grown-kept (model.Done g) keeps has = ap (λ (x : Dictionary). x.method) has.1 ∙ keeps
  grown-kept (model.Refused fault) keeps has = absurd has

  halted-kept : IsSpent s region d → d.method ≡ s.dict.method
  halted-kept (inl same) = ap (λ (x : Dictionary). x.method) same.1
  halted-kept (inr grown) = grown-kept (grow s.terms s.region s.none s.dict false) (to-keeps s s.dict false (slots_wanted s.dict)) grown

  spent-kept : (command : Command) → IsSpentBy s command region d → d.method ≡ s.dict.method
  spent-kept (Insert x bytes) spent = halted-kept spent
  spent-kept (Attach x bytes) spent = halted-kept spent
  spent-kept command spent = ap (λ (x : Dictionary). x.method) spent.1

  -- whatever it answered
  pub method-ran : {E : Type 0} (answer : Result Reply E) (command : Command) (old told : Gone) → is_turn command ≡ false
      → IfOk answer (λ reply. GivesDict (in_dict s command (need_shown reply)) region d reply old told)
      → OnErr answer ((told ≡ old) × IsSpentBy s command region d) → d.method ≡ s.dict.method
  method-ran (Ok reply) command old told still gives err =
      ap (λ (x : Dictionary). x.method) (sym gives.dict) ∙ method-kept s command (need_shown reply) still
  method-ran (Err e) command old told still gives err = spent-kept command err.1
