-- The open dictionaries over their regions are the layers of their numbers.
use Rattle.vc_base.proofs.Common.{◌≡◌, ℕ, List, is_some, Some, option_map, sym, refl, ap, ◌∙◌, at_number}
use Rattle.vc_base.proofs.Lists.{find-map}
use Rattle.vc_dtdisc.specs.Rules.{Rules}
use Rattle.vc_views.specs.Dicts.{AreDictsOver, DictRegion, dict_seen, dictionary_over, entry_numbered, has_number, layer_of, layer_seen, layered_by, rules_or}
use Rattle.vc_views.proofs.NamedEntries.{Entry}
use Rattle.vc_views.proofs.NumbersToNames.{AreLayersIn}

module _ (kinds : List Rules) (regions : List DictRegion) (entries : List Entry) where
  -- the layer of a dictionary's number
  pub layer-found : (n : ℕ) (e : Entry) → entry_numbered n entries ≡ Some e → (layered_by kinds regions entries).layer n ≡ layer_of kinds regions e
  layer-found n e found =
      ap (layer_seen kinds) (find-map (dict_seen regions) (has_number n) entries ∙ ap (λ o. option_map (dict_seen regions) o) found)

  -- its rules are those of the dictionary's kind
  pub rules-found : (n : ℕ) (e : Entry) (rules : Rules) → entry_numbered n entries ≡ Some e → at_number kinds e.1.dict.kind ≡ Some rules
      → rules ≡ ((layered_by kinds regions entries).layer n).rules
  rules-found n e rules found kind = ap (λ o. rules_or o) (sym kind) ∙ sym (ap (λ l. l.rules) (layer-found n e found))

  pub layers-over : AreDictsOver kinds regions entries → AreLayersIn (dictionary_over regions) (layered_by kinds regions entries) entries
  layers-over dicts n e found =
      let same = layer-found n e found in
      record {
        has = record { dicts = dicts; there = ap is_some found };
        over_method = refl;
        method = ap (λ l. l.method) same;
        kind = ap (λ l. l.kind) same;
        objects = ap (λ l. l.objects) same;
      }
