-- What holds of every answer of a view, and of every reply of a look.
use Rattle.vc_base.proofs.Common.{ℕ, Bool, true, false, cond, not, List, IfSome, Some, None, Option, list_any}
use Rattle.vc_dtdisc.specs.Rules.{Rules}
use Rattle.vc_paths.specs.Visible.{Seen}
use Rattle.vc_script.specs.declared.command.Command.{Command}
use Rattle.vc_script.specs.declared.command.Command.TheVariants.{Walk}
use Rattle.vc_script.specs.declared.refusal.Refusal.TheVariants as why
use Rattle.vc_script.specs.declared.reply.Reply.{Reply}
use Rattle.vc_script.specs.declared.reply.Reply.TheVariants as reply
use Rattle.vc_commands.specs.Looking.{found_by_command, found_reply, is_askable, look_answer, look_reply}
use Rattle.vc_steps.specs.Dicts.{view_found, view_set, view_step, view_unless}
use Rattle.vc_steps.specs.State.{State, Stepped, step_with_refusal}
use Rattle.vc_views.specs.Views.{DictHome, are_like, dict_named, is_dict, is_too_deep, path_in, with_view}

pub some-map : {A : Type 0} (P Q : A → Type 0) → ((x : A) → P x → Q x) → (o : Option A) → IfSome o P → IfSome o Q
some-map P Q f None p = tt
some-map P Q f (Some x) p = f x p

pub some-all : {A : Type 0} (P : A → Type 0) → ((x : A) → P x) → (o : Option A) → IfSome o P
some-all P f None = tt
some-all P f (Some x) = f x

module _ (P : Stepped → Type 0) (s : State) (d : DictHome) (missing : P (step_with_refusal s why.NoDictionary)) (differs : P (step_with_refusal s why.ViewDiffers)) (cycle : P (step_with_refusal s why.ViewCycle)) (deep : P (step_with_refusal s why.ViewTooDeep)) where
  view-by : (like path long : Bool) (e : DictHome) → P (view_set s d (Some e.name))
      → P (view_unless s d e (cond like (Some why.ViewDiffers) (cond path (Some why.ViewCycle) (cond long (Some why.ViewTooDeep) None))))
  view-by true path long e set = differs
  view-by false true long e set = cycle
  view-by false false true e set = deep
  view-by false false false e set = set

  view-other : (o : Option DictHome) → IfSome o (λ e. P (view_set s d (Some e.name))) → P (view_found s d o)
  view-other None set = missing
  view-other (Some e) set =
      view-by (not (are_like d e)) (list_any (is_dict d.name) (path_in s.dicts e)) (is_too_deep (with_view d.name (Some e.name) s.dicts)) e set

  -- each refusal, and what a view that is set or ended gives
  pub view-any : (viewed : Option (List ℕ)) → P (view_set s d None)
      → IfSome viewed (λ name. IfSome (dict_named name s.dicts) (λ e. P (view_set s d (Some e.name)))) → P (view_step s d viewed)
  view-any None none set = none
  view-any (Some name) none set = view-other (dict_named name s.dicts) set

module _ (P : Reply → Type 0) (nothing : P reply.Nothing) (found : (bytes : List ℕ) → P (reply.Found bytes)) (objects : (all : List (List ℕ)) → P (reply.Objects all)) (size : P (reply.Refused why.Size)) where
  size-any : (t : Bool) (r : Reply) → P r → P (cond t r (reply.Refused why.Size))
  size-any true r p = p
  size-any false r p = size

  module _ {N : Type 0} where
    found-any : (o : Option (Seen N)) → P (found_reply o)
    found-any None = nothing
    found-any (Some o) = found o.bytes

    answer-any : (rules : Rules) (command : Command) (seen : List (Seen N)) → P (look_answer rules command seen)
    answer-any rules (Walk d) seen = objects _
    answer-any rules command seen = found-any (found_by_command rules command seen)

    -- each reply that a look gives
    pub look-any : (rules : Rules) (command : Command) (seen : List (Seen N)) → P (look_reply rules command seen)
    look-any rules command seen = size-any (is_askable command) (look_answer rules command seen) (answer-any rules command seen)
