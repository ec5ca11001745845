-- What a look through the view path of a dictionary gives and leaves.
use Rattle.vc_base.proofs.Common.{◌≡◌, ℕ, true, List, map, set, ◌==◌, slice_get, Some, Option, option_map, bytes_eq, sym, refl, ap, ◌∙◌, ap₂, false≢true, slice_get-map, IsDistinct, keys_of}
use Rattle.vc_dtdisc.specs.Rules.{Rules}
use Rattle.vc_objects.specs.Objects.{Dictionary}
use Rattle.vc_paths.specs.Layers.{Layered}
use Rattle.vc_paths.specs.Links.{Links}
use Rattle.vc_paths.specs.Path.{visible_of}
use Rattle.vc_script.specs.Needs.{Need}
use Rattle.vc_script.specs.declared.command.Command.{Command}
use Rattle.vc_script.specs.declared.command.Command.TheVariants.{First, Last, MatchKey, Next, Prev, Search, Walk}
use Rattle.vc_script.specs.declared.reply.Reply.{Reply}
use Rattle.vc_commands.specs.Held.{Held, home_of}
use Rattle.vc_commands.specs.Home.{Home}
use Rattle.vc_commands.specs.Looking.{current_or, is_look, look_found, look_reply, own_place}
use Rattle.vc_commands.proofs.Firsts.{IsFirst}
use Rattle.vc_steps.specs.Account.{state_of}
use Rattle.vc_steps.specs.DictHomes.{AreDicts, dict_home, dict_over, dicts_in}
use Rattle.vc_steps.specs.Dicts.{dict_command, dict_step, look_step, with_dict}
use Rattle.vc_steps.specs.State.{State, Stepped, step_with_reply}
use Rattle.vc_steps.proofs.DictChange.{dict-at}
use Rattle.vc_steps.proofs.DictEnd.{step-dict}
use Rattle.vc_steps.proofs.DictByName.{dict-set}
use Rattle.vc_steps.proofs.DictRegions.{over-seen, seen}
use Rattle.vc_steps.proofs.DictsStay.{Entry, Vs}
use Rattle.vc_steps.proofs.SameRest.{AllRest, current-set, home_seen, homes-rest, homes-seen, links-looked, links-seen, seen_links, seen_views, views-looked, views-seen}
use Rattle.vc_steps.proofs.Sessions.{Slots}
use Rattle.vc_views.specs.Dicts.{dict_seen, number_in, with_current_at}
use Rattle.vc_views.specs.Numbers.{AreLinked, views_by}
use Rattle.vc_views.specs.Views.{DictHome, is_dict}
use Rattle.vc_views.proofs.LinkChanges.{link_part, linked-kept, view_part, views-kept}
use Rattle.vc_views.proofs.NamedSeen.{look-named, place-named}
use Rattle.vc_views.proofs.NumbersToNames.{AreLayersIn}

-- such a command
pub look-command : (s : State) (command : Command) (need : Need) (d : DictHome) (h : Home) (rules : Rules) → is_look command ≡ true → dict_command s command need d h rules ≡ look_step s rules command d
look-command s (Search x bytes) need d h rules look = refl
look-command s (MatchKey x key) need d h rules look = refl
look-command s (First x) need d h rules look = refl
look-command s (Last x) need d h rules look = refl
look-command s (Next x bytes) need d h rules look = refl
look-command s (Prev x bytes) need d h rules look = refl
look-command s (Walk x) need d h rules look = refl
look-command s command need d h rules look = absurd (false≢true look)

module _ (kinds : List Rules) (slots : Slots) (hs gs : List Held) (rest : AllRest hs gs) (links : Links) (es es' : List Entry) (are : AreLinked links es) where
  abbrev vs : Vs
  vs = views_by links es

  abbrev s : State
  s = state_of kinds slots hs (dicts_in hs vs es)

  abbrev after : State
  after = state_of kinds slots gs (dicts_in gs (views_by links es') es')

  abbrev made : List Home → List DictHome → State
  made homes ds = record { shelf = s.shelf; homes = homes; kinds = kinds; dicts = ds }

  after-by : (ds : List DictHome) → map view_part es' ≡ map view_part es → map (home_seen vs) (map (dict_seen (seen gs)) es') ≡ ds → after ≡ made s.homes ds
  after-by ds views are_seen =
      ap (λ x. made x (dicts_in gs (views_by links es') es')) (homes-rest hs gs rest)
      ∙ (ap (λ v. made s.homes (dicts_in gs v es')) (views-kept links es es' views)
      ∙ (ap (made s.homes) (homes-seen gs vs es') ∙ ap (made s.homes) are_seen))

  -- where no dictionary changed
  module _ (same : map (dict_seen (seen gs)) es' ≡ map (dict_seen (seen hs)) es) where
    links-same : map link_part es' ≡ map link_part es
    links-same = links-seen (seen gs) es' ∙ (ap (map seen_links) same ∙ sym (links-seen (seen hs) es))

    pub state-unlooked : after ≡ s
    state-unlooked =
        after-by s.dicts (views-seen (seen gs) es' ∙ (ap (map seen_views) same ∙ sym (views-seen (seen hs) es))) (ap (map (home_seen vs)) same ∙ sym (homes-seen hs vs es))

    pub linked-unlooked : AreLinked links es'
    linked-unlooked = linked-kept links es es' links-same are

  -- where a look found an object at a place, or none
  module _ (names : IsDistinct bytes_eq (keys_of es)) (dicts : AreDicts kinds hs es) (i : ℕ) (e : Entry) (at : slice_get es i ≡ Some e) (first : IsFirst (is_dict e.0) (dicts_in hs vs es) i) (place : Option ℕ)
      (looked : map (dict_seen (seen gs)) es' ≡ with_current_at i place (map (dict_seen (seen hs)) es)) where
    abbrev d : DictHome
    d = dict_home hs vs e

    abbrev current : Dictionary
    current = record d.dict { current = current_or d.dict.current place }

    pub linked-here : AreLinked links es'
    linked-here = linked-kept links es es' (links-looked (seen hs) (seen gs) es es' i place looked) are

    abbrev one : Dictionary → DictHome
    one x = record { name = e.0; home = e.1.home; kind = e.1.dict.kind; views = vs e.1.number; dict = record x { current = current_or x.current place } }

    dicts-looked : map (home_seen vs) (map (dict_seen (seen gs)) es') ≡ with_dict e.0 current s.dicts
    dicts-looked =
        ap (map (home_seen vs)) looked
        ∙ (current-set (home_seen vs) place i (map (dict_seen (seen hs)) es) (dict_seen (seen hs) e) (slice_get-map (dict_seen (seen hs)) es i ∙ ap (option_map (dict_seen (seen hs))) at)
        ∙ (ap (λ xs. set xs i (one (dict_seen (seen hs) e).dict)) (sym (homes-seen hs vs es))
        ∙ (ap (λ x. set s.dicts i (one x)) (over-seen hs e) ∙ sym (dict-set hs vs es e.0 i e at first current))))

    pub state-looked : after ≡ made s.homes (with_dict e.0 current s.dicts)
    state-looked = after-by (with_dict e.0 current s.dicts) (views-looked (seen hs) (seen gs) es es' i place looked) dicts-looked

    -- it replies as it finds
    module _ (all : Layered) (layers : AreLayersIn (dict_over hs) all es) (rules : Rules) (alike : rules ≡ (all.layer (number_in e)).rules) (kind : rules ≡ (dict-at kinds hs es i e at dicts).rules)
        (command : Command) (look : is_look command ≡ true) (found : place ≡ own_place (λ n. n == number_in e) (look_found rules command (visible_of all links (number_in e)))) where
      abbrev looked_as : Option ℕ → Reply → Stepped
      looked_as p reply = step_with_reply (made s.homes (with_dict e.0 (record d.dict { current = current_or d.dict.current p }) s.dicts)) reply

      pub step-looked : (need : Need) → dict_step s e.0 command need ≡ step_with_reply after (look_reply rules command (visible_of all links (number_in e)))
      step-looked need =
          step-dict kinds slots hs es vs i e at first dicts command need
          ∙ (look-command s command need d (home_of (dict-at kinds hs es i e at dicts).home) (dict-at kinds hs es i e at dicts).rules look
          ∙ (ap (λ r. look_step s r command d) (sym kind)
          ∙ (ap₂ looked_as
          (place-named (dict_over hs) all links es names are layers i e at rules alike command ∙ sym found)
          (look-named (dict_over hs) all links es names are layers i e at rules alike command)
          ∙ ap (λ st. step_with_reply st (look_reply rules command (visible_of all links (number_in e)))) (sym state-looked))))
