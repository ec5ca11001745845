-- When a view stands against a command, by numbers and by names.
use Rattle.vc_base.proofs.Common.{◌≡◌, ℕ, true, false, cond, ◌||◌, List, is_some, slice_get, Some, Option, bytes_eq, refl, ap, ◌∙◌, same_Some, false≢true, IsDistinct, keys_of}
use Rattle.vc_dtdisc.specs.Rules.{Rules}
use Rattle.vc_paths.specs.Links.{Links, below, is_viewed}
use Rattle.vc_script.specs.Needs.{Need}
use Rattle.vc_script.specs.Target.{dict_at, target_of, works_alone}
use Rattle.vc_script.specs.declared.target.Target.TheVariants.{Dict}
use Rattle.vc_script.specs.declared.target.Work.{Work}
use Rattle.vc_script.specs.declared.target.Work.TheVariants as doing
use Rattle.vc_script.specs.declared.target.Work.TheVariants.{End, Look, Own, Turn}
use Rattle.vc_script.specs.declared.command.Command.{Command}
use Rattle.vc_script.specs.declared.command.Command.TheVariants.{Remethod, Shut, View}
use Rattle.vc_script.specs.declared.refusal.Refusal.TheVariants as why
use Rattle.vc_commands.specs.DictCommands.{in_dict}
use Rattle.vc_commands.specs.Held.{Held}
use Rattle.vc_commands.specs.Home.{Home}
use Rattle.vc_steps.specs.Account.{state_of}
use Rattle.vc_steps.specs.DictHomes.{dict_home, dict_over, dicts_in}
use Rattle.vc_steps.specs.Dicts.{dict_changed, dict_command, dict_shut, is_turn, seat_at_home}
use Rattle.vc_steps.specs.State.{State, step_with_refusal}
use Rattle.vc_views.specs.Dicts.{number_in}
use Rattle.vc_views.specs.Numbers.{AreLinked, is_barred, views_by}
use Rattle.vc_views.specs.Views.{is_linked_in, is_viewed_in}
use Rattle.vc_views.proofs.LinkLemmas.{linked-named, viewed-named}
use Rattle.vc_steps.proofs.DictsStay.{Entry}
use Rattle.vc_steps.proofs.Sessions.{Slots}

-- one that gives another method, where no view stands against it
pub free-turn : (links : Links) (n : ℕ) (command : Command) → is_barred links n command ≡ false → is_turn command ≡ true → (is_viewed links n || is_some (below links n)) ≡ false
free-turn links n (Remethod x method) free turn = free
free-turn links n command free turn = absurd (false≢true turn)

-- what neither looks, nor sets a view, nor ends a dictionary
pub works-alone : (d : List ℕ) (work : Work) → (work ≡ Look → ⊥) → (work ≡ doing.View → ⊥) → (work ≡ End → ⊥) → works_alone (Dict d work) ≡ true
works-alone d Own look view end = refl
works-alone d Look look view end = absurd (look refl)
works-alone d doing.View look view end = absurd (view refl)
works-alone d Turn look view end = refl
works-alone d End look view end = absurd (end refl)

-- a command that ends a dictionary, and one that sets what it views
pub ends-is : (command : Command) (d : List ℕ) → target_of command ≡ Dict d End → command ≡ Shut d
ends-is (Shut x) d e = ap (λ n. Shut n) (same_Some x d (ap dict_at e))
ends-is command d e = absurd cc

pub views-is : (command : Command) (d : List ℕ) → target_of command ≡ Dict d doing.View → (viewed : Option (List ℕ)) × (command ≡ View d viewed)
views-is (View x viewed) d e = (viewed, ap (λ n. View n viewed) (same_Some x d (ap dict_at e)))
views-is command d e = absurd cc

module _ (kinds : List Rules) (slots : Slots) (hs : List Held) (links : Links) (es : List Entry) (names : IsDistinct bytes_eq (keys_of es)) (are : AreLinked links es) (i : ℕ) (e : Entry) (at : slice_get es i ≡ Some e) where
  abbrev s : State
  s = state_of kinds slots hs (dicts_in hs (views_by links es) es)

  pub viewed-here : is_viewed_in s.dicts e.0 ≡ is_viewed links (number_in e)
  viewed-here = viewed-named (dict_over hs) links es names are i e at

  pub linked-here : is_linked_in s.dicts (dict_home hs (views_by links es) e) ≡ (is_viewed links (number_in e) || is_some (below links (number_in e)))
  linked-here = linked-named (dict_over hs) links es names are i e at

  -- such a command is refused
  pub barred-refused : (command : Command) (need : Need) (h : Home) (rules : Rules) → is_barred links (number_in e) command ≡ true
      → dict_command s command need (dict_home hs (views_by links es) e) h rules ≡ step_with_refusal s why.Viewed
  barred-refused (Shut x) need h rules barred =
      ap (λ t. cond t (step_with_refusal s why.Viewed) (dict_shut s (dict_home hs (views_by links es) e))) (viewed-here ∙ barred)
  barred-refused (Remethod x method) need h rules barred =
      ap (λ t. cond t (step_with_refusal s why.Viewed) (dict_changed s (dict_home hs (views_by links es) e) h (in_dict (seat_at_home (dict_home hs (views_by links es) e) h rules) (Remethod x method) need)))
      (linked-here ∙ barred)
  barred-refused command need h rules barred = absurd (false≢true barred)
