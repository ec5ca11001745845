-- What a view gives, by names and by the links of numbers.
use Rattle.vc_base.proofs.Common.{◌≡◌, ℕ, ◌<◌, List, length, slice_get, Some, None, Option, option_map, bytes_eq, ap, ◌∙◌, IsDistinct, keys_of}
use Rattle.vc_dtdisc.specs.Rules.{Rules}
use Rattle.vc_paths.specs.Layers.{Layered}
use Rattle.vc_paths.specs.Links.{ArePaths, Links, links_with}
use Rattle.vc_paths.specs.View.{view_fault}
use Rattle.vc_paths.specs.declared.fault.ViewFault.{ViewFault}
use Rattle.vc_paths.specs.declared.fault.ViewFault.TheVariants.{Cycle, Differs, TooDeep}
use Rattle.vc_script.specs.Needs.{Need}
use Rattle.vc_script.specs.declared.command.Command.TheVariants.{View}
use Rattle.vc_script.specs.declared.refusal.Refusal.TheVariants as why
use Rattle.vc_script.specs.declared.reply.Reply.TheVariants.{Refused, Views}
use Rattle.vc_commands.specs.Held.{Held}
use Rattle.vc_commands.proofs.Firsts.{IsFirst}
use Rattle.vc_commands.proofs.Grants.{IsGranted}
use Rattle.vc_steps.specs.Account.{state_of}
use Rattle.vc_steps.specs.DictHomes.{AreDicts, dict_home, dict_over, dicts_in}
use Rattle.vc_steps.specs.Dicts.{dict_step, view_found, view_unless}
use Rattle.vc_steps.specs.State.{State, step_with_refusal, step_with_reply}
use Rattle.vc_views.specs.Dicts.{number_in}
use Rattle.vc_views.specs.Numbers.{AreLinked, views_by}
use Rattle.vc_views.specs.Views.{DictHome, dict_named, is_dict, refusal_of_view}
use Rattle.vc_views.proofs.LinkLemmas.{number-within, view-none, view-some}
use Rattle.vc_views.proofs.LinkRefusals.{refusal-named}
use Rattle.vc_views.proofs.NumbersToNames.{AreLayersIn}
use Rattle.vc_steps.proofs.DictEnd.{step-dict}
use Rattle.vc_steps.proofs.DictByName.{dict-found}
use Rattle.vc_steps.proofs.DictsStay.{Entry}
use Rattle.vc_steps.proofs.Sessions.{Slots}

-- no fault of a view is the want of a segment
pub granted-fault : (fault : ViewFault) → IsGranted (Refused (refusal_of_view fault))
granted-fault Differs = tt
granted-fault Cycle = tt
granted-fault TooDeep = tt

module _ (kinds : List Rules) (slots : Slots) (hs : List Held) (links : Links) (es : List Entry) (names : IsDistinct bytes_eq (keys_of es)) (are : AreLinked links es) (paths : ArePaths links) (dicts : AreDicts kinds hs es)
    (i : ℕ) (e : Entry) (at : slice_get es i ≡ Some e) (first : IsFirst (is_dict e.0) (dicts_in hs (views_by links es) es) i) where
  abbrev state_with : Links → State
  state_with ls = state_of kinds slots hs (dicts_in hs (views_by ls es) es)

  abbrev s : State
  s = state_with links

  abbrev d : DictHome
  d = dict_home hs (views_by links es) e

  within : number_in e < length links
  within = number-within links es i e paths are.numbered at

  abbrev made : List DictHome → State
  made ds = record { shelf = s.shelf; homes = s.homes; kinds = s.kinds; dicts = ds }

  -- with none it ends
  pub view-ended : (need : Need) → dict_step s e.0 (View e.0 None) need ≡ step_with_reply (state_with (links_with (number_in e) None links)) (Views e.0 None)
  view-ended need =
      step-dict kinds slots hs es (views_by links es) i e at first dicts (View e.0 None) need
      ∙ ap (λ ds. step_with_reply (made ds) (Views e.0 None)) (view-none (dict_over hs) links es names are.numbered.distinct i e at within)

  -- there is no other one of the name
  pub view-missing : (name : List ℕ) (need : Need) → dict_named name s.dicts ≡ None → dict_step s e.0 (View e.0 (Some name)) need ≡ step_with_refusal s why.NoDictionary
  view-missing name need none =
      step-dict kinds slots hs es (views_by links es) i e at first dicts (View e.0 (Some name)) need
      ∙ ap (view_found s d) none

  module _ (j : ℕ) (f : Entry) (there : slice_get es j ≡ Some f) (other : IsFirst (is_dict f.0) (dicts_in hs (views_by links es) es) j) (all : Layered) (layers : AreLayersIn (dict_over hs) all es) where
    view-other : (need : Need) (o : Option ViewFault) → view_fault all links (number_in e) (number_in f) ≡ o
        → dict_step s e.0 (View e.0 (Some f.0)) need ≡ view_unless s d (dict_home hs (views_by links es) f) (option_map refusal_of_view o)
    view-other need o fault =
        step-dict kinds slots hs es (views_by links es) i e at first dicts (View e.0 (Some f.0)) need
        ∙ (ap (view_found s d) (dict-found hs (views_by links es) es f.0 j f there other)
        ∙ ap (view_unless s d (dict_home hs (views_by links es) f))
        (refusal-named (dict_over hs) all links es names are layers paths i e at j f there ∙ ap (option_map refusal_of_view) fault))

    -- it can't be
    pub view-refused : (need : Need) (fault : ViewFault) → view_fault all links (number_in e) (number_in f) ≡ Some fault → dict_step s e.0 (View e.0 (Some f.0)) need ≡ step_with_refusal s (refusal_of_view fault)
    view-refused need fault is = view-other need (Some fault) is

    -- it is set
    pub view-done : (need : Need) → view_fault all links (number_in e) (number_in f) ≡ None
        → dict_step s e.0 (View e.0 (Some f.0)) need ≡ step_with_reply (state_with (links_with (number_in e) (Some (number_in f)) links)) (Views e.0 (Some f.0))
    view-done need is =
        view-other need None is
        ∙ ap (λ ds. step_with_reply (made ds) (Views e.0 (Some f.0))) (view-some (dict_over hs) links es names are.numbered.distinct i e at within j f there)
