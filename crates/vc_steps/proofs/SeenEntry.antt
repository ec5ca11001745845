-- The dictionary of a name at its index, and its number.
use Rattle.vc_base.proofs.Common.{◌≡◌, ℕ, ◌<◌, List, [], length, slice_get, Some, option_map, position, bytes_eq, sym, ap, ◌∙◌, arith, position-Some, length-map, same_Some, slice_get-map, keys_of}
use Rattle.vc_commands.specs.declared.dict.entry.DictEntry.{DictEntry}
use Rattle.vc_views.specs.Dicts.{number_at, number_or}
use Rattle.vc_views.proofs.Firsts.{key-at}
use Rattle.vc_steps.proofs.DictsStay.{Entry}
use Rattle.vc_steps.proofs.Helds.{some-at}

module _ (es : List Entry) (name : List ℕ) (i : ℕ) (index : position (bytes_eq name) (keys_of es) ≡ Some i) where
  within : i < length es
  within = omega (arith, (position-Some (bytes_eq name) (keys_of es) i [] index).0, length-map es (λ (x : Entry). x.0))

  found : (x : Entry) × (slice_get es i ≡ Some x)
  found = some-at es i within

  same : found.0.0 ≡ name
  same =
      same_Some found.0.0 name
      (sym (slice_get-map (λ (x : Entry). x.0) es i ∙ ap (option_map (λ (x : Entry). x.0)) found.1) ∙ key-at (keys_of es) name i index)

  pub entry-named : (v : DictEntry) × (slice_get es i ≡ Some (name, v))
  entry-named = (found.0.1, found.1 ∙ ap (λ n. let x : Entry = (n, found.0.1) in Some x) same)

  pub number-named : number_at i es ≡ entry-named.0.number
  number-named = ap number_or entry-named.1
