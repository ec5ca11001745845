-- The dictionaries of a session are the layers of their numbers, and each has a path.
use Rattle.vc_base.proofs.Common.{◌≡◌, ℕ, List, map, length, slice_get, Some, sym, ap, ◌∙◌, subst, Discipline}
use Rattle.vc_dtdisc.specs.Rules.{Rules}
use Rattle.vc_paths.specs.Layers.{Layered}
use Rattle.vc_paths.specs.Links.{Links}
use Rattle.vc_paths.specs.Path.{IsPath}
use Rattle.vc_commands.specs.Held.{Held}
use Rattle.vc_commands.specs.declared.region.home.HomeEntry.{HomeEntry}
use Rattle.vc_commands.specs.declared.region.labels.Labels.{Labels}
use Rattle.vc_steps.specs.DictHomes.{AreDicts, dict_over}
use Rattle.vc_steps.specs.Homes.{held_all}
use Rattle.vc_steps.proofs.DictChange.{dict-at}
use Rattle.vc_steps.proofs.DictRegions.{dicts-to, over-seen, regions-held}
use Rattle.vc_steps.proofs.DictsStay.{Entry}
use Rattle.vc_views.specs.Dicts.{AreDictsOver, DictRegion, dictionary_over, layered_by, number_in, region_seen}
use Rattle.vc_views.specs.Numbers.{AreLinked}
use Rattle.vc_views.proofs.NamedEntries.{by-number}
use Rattle.vc_views.proofs.NamedLayers.{layers-over, rules-found}
use Rattle.vc_views.proofs.NumbersToNames.{AreLayersIn, is-path, layers-same}

module _ {I : Type 0} {V : I → Type 0} (meaning : (x : I) × V x → Discipline) (kinds : List Rules) (homes : List (List ℕ × HomeEntry I V)) (labels : List Labels) (es : List Entry) (named : length labels ≡ length homes) (dicts : AreDicts kinds (held_all meaning homes labels) es) where
  abbrev hs : List Held
  hs = held_all meaning homes labels

  abbrev regions : List DictRegion
  regions = map region_seen homes

  abbrev all : Layered
  all = layered_by kinds regions es

  pub are-over : AreDictsOver kinds regions es
  are-over = subst (λ rs. AreDictsOver kinds rs es) (sym (regions-held meaning homes labels named)) (dicts-to hs kinds es dicts)

  pub layers-here : AreLayersIn (dict_over hs) all es
  layers-here =
      layers-same (dict_over hs) (dictionary_over regions) all es
      (λ e. sym (ap (λ rs. dictionary_over rs e) (regions-held meaning homes labels named) ∙ over-seen hs e))
      (layers-over kinds regions es are-over)

  module _ (links : Links) (are : AreLinked links es) (i : ℕ) (e : Entry) (at : slice_get es i ≡ Some e) where
    pub path-here : IsPath all links (number_in e)
    path-here = is-path (dict_over hs) all links es are layers-here i e at

    -- its rules are those of its number
    pub rules-here : (dict-at kinds hs es i e at dicts).rules ≡ (all.layer (number_in e)).rules
    rules-here =
        rules-found kinds regions es (number_in e) e (dict-at kinds hs es i e at dicts).rules (by-number es i e are.numbered.distinct at) (dict-at kinds hs es i e at dicts).kind
