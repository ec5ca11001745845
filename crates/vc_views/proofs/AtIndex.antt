-- The dictionary at an index, where all are whole: its layer is that of its holders.
use Rattle.vc_base.proofs.Common.{◌≡◌, ℕ, true, List, map, slice_get, IsSome, Some, option_map, refl, sym, ap, ◌∙◌, subst, same_Some, values_of, slice_get-map, Blocks, Ordering, contains, at_number}
use Rattle.indexmap.specs.IndexMap.{set_value_at}
use Rattle.vc_base.specs.declared.dict_method.DictMethod.{DictMethod}
use Rattle.vc_dtdisc.specs.Rules.{Rules}
use Rattle.vc_dict.specs.Listed.{holders_of}
use Rattle.vc_dict.specs.declared.dict.Dict.{Dict}
use Rattle.vc_objects.specs.Parts.{IsWhole}
use Rattle.vc_paths.specs.Layers.{Layer, bytes_there}
use Rattle.vc_commands.specs.declared.dict.entry.DictEntry.{DictEntry}
use Rattle.vc_commands.specs.declared.region.home.HomeEntry.{HomeEntry}
use Rattle.vc_views.specs.Dicts.{AreDictsOver, DictRegion, IsDictOver, dict_seen, home_rest, layer_seen, region_seen}
use Rattle.vc_views.specs.LayerLaws.{Entry, layer-is, layer_over}
use Rattle.vc_views.specs.Leaves.{IsBestNamed, LooksAt}
use Rattle.vc_views.specs.Promises.{LeavesDicts, cells_under, layer_at}
use Rattle.vc_views.specs.Sides.{holder_like, holder_to, last_match_place, place_to}
use Rattle.vc_views.specs.Dicts.{cells_held}
use Rattle.vc_views.proofs.AtHolders.{holder-here, last-stands, place-stands}
use Rattle.vc_views.proofs.Firsts.{value-set}
use Rattle.vc_views.proofs.LookLeaves.{dict-at, dicts-looked, pair-at, seen-looked}

-- a dictionary is read at an index: its name, and that it is whole
pub record AtIndex {I : Type 0} {V : I → Type 0} (kinds : List Rules) (homes : List (List ℕ × HomeEntry I V)) (es : List Entry) (i : ℕ) (v : DictEntry) : Type 0 where
  pub name : List ℕ
  pub at : slice_get es i ≡ Some (name, v)
  pub is : IsDictOver kinds (map region_seen homes) (name, v)

pub at-index : {I : Type 0} {V : I → Type 0} (kinds : List Rules) (homes : List (List ℕ × HomeEntry I V)) (es : List Entry) (i : ℕ) (v : DictEntry) → slice_get (values_of es) i ≡ Some v → AreDictsOver kinds (map region_seen homes) es → AtIndex kinds homes es i v
at-index kinds homes es i v read are =
    let p = pair-at es i v read in
    record { name = p.0; at = p.1; is = dict-at kinds (map region_seen homes) es i (p.0, v) p.1 are }

module _ {I : Type 0} {V : I → Type 0} {kinds : List Rules} {homes : List (List ℕ × HomeEntry I V)} {es : List Entry} {i : ℕ} {v : DictEntry} (x : AtIndex kinds homes es i v) where
  abbrev regions : List DictRegion
  regions = map region_seen homes

  abbrev held : Blocks
  held = cells_under homes v.home

  abbrev layer : Layer
  layer = layer_at kinds homes es i

  pub home-there : IsBestNamed regions v.home
  home-there = record { home = x.is.home; found = x.is.found; best = x.is.best }

  held-there : held ≡ x.is.home.cells
  held-there = ap cells_held x.is.found

  layer-there : layer ≡ layer_over x.is.rules v x.is.home.cells
  layer-there = ap (layer_seen kinds) (slice_get-map (dict_seen regions) es i ∙ ap (option_map (dict_seen regions)) x.at) ∙ layer-is kinds regions (x.name, v) x.is

  pub method-there : layer.method ≡ v.dict.method
  method-there = ap (λ (l : Layer). l.method) layer-there

  module _ (rules : Rules) (kind : at_number kinds v.dict.kind ≡ Some rules) where
    abbrev xs : List ℕ
    xs = holders_of v.dict held

    rules-there : x.is.rules ≡ rules
    rules-there = same_Some x.is.rules rules (sym x.is.kind ∙ kind)

    layer-held : layer ≡ layer_over rules v held
    layer-held = layer-there ∙ ap (λ q. layer_over q v x.is.home.cells) rules-there ∙ ap (layer_over rules v) (sym held-there)

    pub whole-held : IsWhole rules v.dict held
    whole-held = subst (λ q. IsWhole q v.dict held) rules-there (subst (IsWhole x.is.rules v.dict) (sym held-there) x.is.whole)

    -- what stands so to a key
    pub place-held : (side : Ordering) (key : List ℕ) → holder_to side rules held key xs ≡ place_to side layer key
    place-held side key = sym (place-stands held side (layer_over rules v held) key xs refl) ∙ ap (λ (l : Layer). place_to side l key) (sym layer-held)

    pub within-held : (a : ℕ) → IsSome (bytes_there a layer.objects) → contains xs a ≡ true
    within-held a there = holder-here held a xs (subst (λ (l : Layer). IsSome (bytes_there a l.objects)) layer-held there)

    -- the last that matches one
    pub last-held : (a : ℕ) (bytes : List ℕ) → bytes_there a layer.objects ≡ Some bytes → holder_like rules held a xs ≡ last_match_place layer bytes
    last-held a bytes there =
        sym (last-stands held a (layer_over rules v held) bytes xs refl (subst (λ (l : Layer). bytes_there a l.objects ≡ Some bytes) layer-held there))
        ∙ ap (λ (l : Layer). last_match_place l bytes) (sym layer-held)

    -- a look at it leaves all dictionaries whole and the same
    pub leaves-held : (homes' : List (List ℕ × HomeEntry I V)) (dict : Dict) → AreDictsOver kinds regions es → LooksAt rules v.home regions v.dict (map region_seen homes') dict → map home_rest homes' ≡ map home_rest homes
        → LeavesDicts kinds homes homes' es (set_value_at es i (record { home = v.home; number = v.number; dict = dict }))
    leaves-held homes' dict are looks rest =
        let new = map region_seen homes' in
        let set = value-set es i (x.name, v) (record { home = v.home; number = v.number; dict = dict }) x.at in
        record {
          dicts = subst (AreDictsOver kinds new) (sym set) (dicts-looked kinds regions new es i x.name v x.at are rules kind dict looks);
          keeps = record {
            rules = refl;
            rest = rest;
            seen = ap (map (dict_seen new)) set ∙ seen-looked kinds regions new es i x.name v x.at are rules kind dict looks;
          };
        }
