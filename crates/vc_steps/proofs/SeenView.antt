-- The step of a view by what it answered, over the regions and dictionaries of a session as they are stored.
use Rattle.vc_base.proofs.Common.{◌≡◌, ℕ, ◌<◌, List, map, length, slice_get, Some, None, Option, bytes_eq, sym, refl, ap, ◌∙◌, subst, IsDistinct, keys_of, Discipline}
use Rattle.vc_paths.specs.Layers.{Layered}
use Rattle.vc_paths.specs.Links.{ArePaths, Links, links_with, numbers}
use Rattle.vc_paths.specs.Path.{IsPath}
use Rattle.vc_paths.specs.View.{view_fault}
use Rattle.vc_paths.specs.declared.fault.ViewFault.{ViewFault}
use Rattle.vc_script.specs.Needs.{need_shown}
use Rattle.vc_script.specs.declared.command.Command.TheVariants.{View}
use Rattle.vc_script.specs.declared.refusal.Refusal.TheVariants as why
use Rattle.vc_script.specs.declared.reply.Reply.{Reply}
use Rattle.vc_script.specs.declared.reply.Reply.TheVariants.{Refused, Views}
use Rattle.vc_commands.specs.declared.dict.entry.DictEntry.{DictEntry}
use Rattle.vc_commands.specs.declared.region.home.HomeEntry.{HomeEntry}
use Rattle.vc_commands.proofs.Firsts.{IsFirst}
use Rattle.vc_views.specs.Dicts.{layered_by, region_seen}
use Rattle.vc_views.specs.Numbers.{AreLinked, views_by}
use Rattle.vc_views.specs.Views.{dict_named, is_dict, refusal_of_view}
use Rattle.vc_views.proofs.LinkChanges.{linked-ended}
use Rattle.vc_views.proofs.LinkLemmas.{number-within}
use Rattle.vc_views.proofs.LinkRefusals.{linked-viewed}
use Rattle.vc_views.proofs.NumbersToNames.{all-at}
use Rattle.vc_steps.specs.Account.{IsSession, KeepsAccounts, SameAsked, accounts, settled_accounts}
use Rattle.vc_steps.specs.DictHomes.{AreDicts, dict_over, dicts_in}
use Rattle.vc_steps.specs.Dicts.{dict_step}
use Rattle.vc_steps.specs.Homes.{held_all}
use Rattle.vc_steps.specs.Moment.{Moment}
use Rattle.vc_steps.specs.State.{State}
use Rattle.vc_steps.specs.Steps.{Steps}
use Rattle.vc_steps.proofs.DictsStay.{Entry}
use Rattle.vc_steps.proofs.SessionHere.{DictAt, SessionHere, first-at, stands-at, state_here, parts}
use Rattle.vc_steps.proofs.RegionSteps.{moment_over}
use Rattle.vc_steps.proofs.SessionLayers.{layers-here, path-here}
use Rattle.vc_steps.proofs.SettledShelf.{asked-equal, keeps-equal}
use Rattle.vc_steps.proofs.Steps.{steps-quiet}
use Rattle.vc_steps.proofs.ViewSteps.{granted-fault, view-done, view-ended, view-missing, view-refused}

-- a session whose links are view paths, and whose dictionaries have names of their own
pub record ViewsHere {I : Type 0} {V : I → Type 0} (meaning : (x : I) × V x → Discipline) : Type 0 where
  pub here : SessionHere meaning
  pub paths : ArePaths here.links
  pub names : IsDistinct bytes_eq (keys_of here.es)

module _ {I : Type 0} {V : I → Type 0} (meaning : (x : I) × V x → Discipline) (seen : ViewsHere meaning) (own : DictAt seen.here.es) where
  open seen use {here}
  open here use {homes, labels, links}
  open (parts here) use {kinds, slots, hs, es}
  open own use {name, v}

  abbrev e : Entry
  e = (name, v)

  abbrev all : Layered
  all = layered_by kinds (map region_seen homes) es

  at : slice_get es own.i ≡ Some e
  at = stands-at es own

  first : IsFirst (is_dict name) (dicts_in hs (views_by links es) es) own.i
  first = first-at here own

  -- its number is one of view paths
  pub number-below : v.number < numbers
  number-below = all-at (λ (f : Entry). f.1.number < numbers) es own.i e here.are.numbered.below at

  pub path-named : IsPath all links v.number
  path-named = path-here meaning kinds homes labels es here.named here.dicts links here.are own.i e at

  abbrev s : State
  s = state_here here

  -- the moment of a session with these links
  abbrev pub moment_by_links : List (List ℕ × HomeEntry I V) → List Entry → Links → Moment
  moment_by_links homes' es' links' = moment_over here.armed slots es' (views_by links' es') kinds here.gone (held_all meaning homes' labels)

  abbrev before : Moment
  before = moment_by_links homes es links

  -- a view is answered so, and these are the regions, the dictionaries and the links then
  abbrev pub ViewsTo : List (List ℕ × HomeEntry I V) → List Entry → Links → Option (List ℕ) → Reply → Type 0
  ViewsTo homes' es' links' viewed reply = Steps before (moment_by_links homes' es' links') (View name viewed) (dict_step s name (View name viewed) (need_shown reply)) reply

  -- what holds of it over these regions, dictionaries and links, and that no account is another one
  pub record HeldHere (homes' : List (List ℕ × HomeEntry I V)) (es' : List Entry) (links' : Links) : Type 0 where
    pub named : length labels ≡ length homes'
    pub held : IsSession here.armed slots (held_all meaning homes' labels)
    pub dicts : AreDicts kinds (held_all meaning homes' labels) es'
    pub views : AreLinked links' es'
    pub asked : SameAsked (settled_accounts (accounts slots) hs) (settled_accounts (accounts slots) (held_all meaning homes' labels))
    pub accounts : KeepsAccounts (settled_accounts (accounts slots) hs) (settled_accounts (accounts slots) (held_all meaning homes' labels))

  -- it ends
  pub steps-ended : (links' : Links) → links' ≡ links_with v.number None links → ViewsTo homes es links' None (Views name None)
  steps-ended links' same =
      subst (λ ls. ViewsTo homes es ls None (Views name None)) (sym same)
      (steps-quiet before (moment_by_links homes es (links_with v.number None links)) (View name None) (dict_step s name (View name None) (need_shown (Views name None))) (Views name None)
      (view-ended kinds slots hs links es seen.names here.are seen.paths here.dicts own.i e at first (need_shown (Views name None))) refl refl refl tt)

  pub links-ended : AreLinked (links_with v.number None links) es
  links-ended = linked-ended links es v.number (number-within links es own.i e seen.paths here.are.numbered at) here.are

  -- there is none of the name
  pub steps-missing : (lower : List ℕ) → dict_named lower s.dicts ≡ None → ViewsTo homes es links (Some lower) (Refused why.NoDictionary)
  steps-missing lower none =
      steps-quiet before before (View name (Some lower)) (dict_step s name (View name (Some lower)) (need_shown (Refused why.NoDictionary))) (Refused why.NoDictionary)
      (view-missing kinds slots hs links es seen.names here.are seen.paths here.dicts own.i e at first lower (need_shown (Refused why.NoDictionary)) none) refl refl refl tt

  module _ (other : DictAt seen.here.es) where
    abbrev u : DictEntry
    u = other.v

    abbrev f : Entry
    f = (other.name, u)

    there : slice_get es other.i ≡ Some f
    there = stands-at es other

    first-other : IsFirst (is_dict other.name) (dicts_in hs (views_by links es) es) other.i
    first-other = first-at here other

    pub path-other : IsPath all links u.number
    path-other = path-here meaning kinds homes labels es here.named here.dicts links here.are other.i f there

    abbrev set_links : Links
    set_links = links_with v.number (Some u.number) links

    -- the regions and the dictionaries stay
    module _ (homes' : List (List ℕ × HomeEntry I V)) (es' : List Entry) (links' : Links) (same_homes : homes' ≡ homes) (same_dicts : es' ≡ es) where
      carry : (reply : Reply) (ls : Links) → links' ≡ ls → ViewsTo homes es ls (Some other.name) reply → ViewsTo homes' es' links' (Some other.name) reply
      carry reply ls same steps =
          subst (λ hm. ViewsTo hm es' links' (Some other.name) reply) (sym same_homes)
          (subst (λ ds. ViewsTo homes ds links' (Some other.name) reply) (sym same_dicts)
          (subst (λ l. ViewsTo homes es l (Some other.name) reply) (sym same) steps))

      -- it is set
      pub steps-set : view_fault all links v.number u.number ≡ None → links' ≡ set_links → ViewsTo homes' es' links' (Some other.name) (Views name (Some other.name))
      steps-set none same =
          carry (Views name (Some other.name)) set_links same
          (steps-quiet before (moment_by_links homes es set_links) (View name (Some other.name)) (dict_step s name (View name (Some other.name)) (need_shown (Views name (Some other.name)))) (Views name (Some other.name))
          (view-done kinds slots hs links es seen.names here.are seen.paths here.dicts own.i e at first other.i f there first-other all (layers-here meaning kinds homes labels es here.named here.dicts) (need_shown (Views name (Some other.name))) none)
          refl refl refl tt)

      pub links-set : view_fault all links v.number u.number ≡ None → links' ≡ set_links → AreLinked links' es'
      links-set none same =
          subst (AreLinked links') (sym same_dicts)
          (subst (λ ls. AreLinked ls es) (sym same)
          (linked-viewed (dict_over hs) all links es seen.names here.are (layers-here meaning kinds homes labels es here.named here.dicts) seen.paths own.i e at other.i f there none))

      -- it can't be
      pub steps-refused : (fault : ViewFault) → view_fault all links v.number u.number ≡ Some fault → links' ≡ links → ViewsTo homes' es' links' (Some other.name) (Refused (refusal_of_view fault))
      steps-refused fault is same =
          carry (Refused (refusal_of_view fault)) links same
          (steps-quiet before before (View name (Some other.name)) (dict_step s name (View name (Some other.name)) (need_shown (Refused (refusal_of_view fault)))) (Refused (refusal_of_view fault))
          (view-refused kinds slots hs links es seen.names here.are seen.paths here.dicts own.i e at first other.i f there first-other all (layers-here meaning kinds homes labels es here.named here.dicts) (need_shown (Refused (refusal_of_view fault))) fault is)
          refl refl refl (granted-fault fault))

      pub links-refused : links' ≡ links → AreLinked links' es'
      links-refused same = subst (AreLinked links') (sym same_dicts) (subst (λ ls. AreLinked ls es) (sym same) here.are)

      -- the session stands over them
      pub stands-viewed : AreLinked links' es' → HeldHere homes' es' links'
      stands-viewed links_with = record {
        named = here.named ∙ ap length (sym same_homes);
        held = subst (λ hm. IsSession here.armed slots (held_all meaning hm labels)) (sym same_homes) here.held;
        dicts = subst (λ hm. AreDicts kinds (held_all meaning hm labels) es') (sym same_homes) (subst (AreDicts kinds hs) (sym same_dicts) here.dicts);
        views = links_with;
        accounts = keeps-equal _ _ (ap (λ hm. settled_accounts (accounts slots) (held_all meaning hm labels)) same_homes);
        asked = asked-equal _ _ (ap (λ hm. settled_accounts (accounts slots) (held_all meaning hm labels)) same_homes);
      }
