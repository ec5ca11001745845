-- The command that ends a dictionary.
use Rattle.vc_base.proofs.Common.{◌≡◌, ℕ, false, cond, List, [], ◌∷◌, map, slice_get, Some, option_map, bytes_eq, sym, refl, ap, ◌∙◌, ⊎_elim, cases_Bool, at_number}
use Rattle.vc_dtdisc.specs.Rules.{Gone, Rules}
use Rattle.vc_objects.specs.Remove.{bytes_of}
use Rattle.vc_script.specs.Needs.{Need, NoNeed}
use Rattle.vc_script.specs.declared.command.Command.{Command}
use Rattle.vc_script.specs.declared.command.Command.TheVariants.{Shut}
use Rattle.vc_script.specs.declared.refusal.Refusal.TheVariants as why
use Rattle.vc_script.specs.declared.reply.Reply.TheVariants.{ShutDown}
use Rattle.vc_commands.specs.Held.{Held, home_of}
use Rattle.vc_steps.specs.Account.{held_named, state_of}
use Rattle.vc_steps.specs.DictHomes.{AreDicts, IsDictOf, dict_home, dicts_in}
use Rattle.vc_steps.specs.Dicts.{dict_command, dict_shut, dict_step, on_found, on_seat, shut_state, told_of}
use Rattle.vc_views.specs.Views.{is_dict, is_viewed_in}
use Rattle.vc_steps.specs.State.{State, Stepped, home_named, step_with_refusal}
use Rattle.vc_steps.specs.Step.{GivesStep}
use Rattle.vc_steps.specs.Told.{tell}
use Rattle.vc_steps.proofs.DictChange.{dict-at}
use Rattle.vc_steps.proofs.DictByName.{dict-found}
use Rattle.vc_steps.proofs.DictsStay.{Entry, Vs}
use Rattle.vc_commands.proofs.Firsts.{IsFirst}
use Rattle.vc_steps.proofs.Sessions.{Slots}

-- the home of a name is that of the open region of it
pub home-held : (hs : List Held) (r : List ℕ) → home_named r (map home_of hs) ≡ option_map home_of (held_named hs (Some r))
home-held [] r = refl
home-held (h ∷ hs) r =
    ⊎_elim
    (λ e.
    ap (λ b. cond b (Some (home_of h)) (home_named r (map home_of hs))) e
    ∙ sym (ap (λ b. option_map home_of (cond b (Some h) (held_named hs (Some r)))) e))
    (λ e.
    ap (λ b. cond b (Some (home_of h)) (home_named r (map home_of hs))) e
    ∙ (home-held hs r ∙ sym (ap (λ b. option_map home_of (cond b (Some h) (held_named hs (Some r)))) e)))
    (cases_Bool (bytes_eq h.name r))

module _ (kinds : List Rules) (slots : Slots) (hs : List Held) (es : List Entry) (vs : Vs) (i : ℕ) (e : Entry) (there : slice_get es i ≡ Some e) (first : IsFirst (is_dict e.0) (dicts_in hs vs es) i) (dicts : AreDicts kinds hs es) where
  abbrev s : State
  s = state_of kinds slots hs (dicts_in hs vs es)

  abbrev is : IsDictOf kinds hs e
  is = dict-at kinds hs es i e there dicts

  pub step-dict : (command : Command) (need : Need) → dict_step s e.0 command need ≡ dict_command s command need (dict_home hs vs e) (home_of is.home) is.rules
  step-dict command need =
      let act = dict_command s command need in
      let d = dict_home hs vs e in
      ap (on_found s act) (dict-found hs vs es e.0 i e there first)
      ∙ (ap (λ o. on_seat s d act o (at_number kinds e.1.dict.kind)) (home-held hs e.1.home ∙ ap (option_map home_of) is.found)
      ∙ ap (λ o. on_seat s d act (Some (home_of is.home)) o) is.kind)

  pub step-shut : (command : Command) (x : List ℕ) (after : State) (gone gone' : List Gone) → command ≡ Shut x → is_viewed_in s.dicts e.0 ≡ false → after ≡ shut_state s (dict_home hs vs e) → gone' ≡ tell (told_of e.1.dict.kind (bytes_of (dict_home hs vs e).dict.objects)) gone → GivesStep (dict_step s e.0 command NoNeed) gone (ShutDown e.0) after gone'
  step-shut command x after gone gone' shuts unviewed state_is gone_is =
      let same : dict_step s e.0 command NoNeed ≡ dict_shut s (dict_home hs vs e) =
      step-dict command NoNeed
      ∙ (ap (λ c. dict_command s c NoNeed (dict_home hs vs e) (home_of is.home) is.rules) shuts
      ∙ ap (λ t. cond t (step_with_refusal s why.Viewed) (dict_shut s (dict_home hs vs e))) unviewed) in
      record {
        replied = ap (λ (t : Stepped). t.reply) same;
        state_after = ap (λ (t : Stepped). t.state) same ∙ sym state_is;
        told = gone_is ∙ sym (ap (λ (t : Stepped). tell t.told gone) same);
      }
