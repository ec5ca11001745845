-- What is seen through a view path is the same list, renamed, where each layer's dictionary has another name.
use Rattle.vc_base.proofs.Common.{◌≡◌, not, List, [], ◌∷◌, ◌++◌, map, filter, sym, refl, ap, ◌∙◌, map-append, is_ordered}
use Rattle.vc_base.specs.declared.dict_method.DictMethod.{DictMethod}
use Rattle.vc_base.proofs.Quantifiers.{any-map}
use Rattle.vc_base.proofs.Lists.{filter-map}
use Rattle.vc_dtdisc.specs.Objects.{is_match, placed_each}
use Rattle.vc_dtdisc.specs.Rules.{Rules}
use Rattle.vc_dtdisc.proofs.FindingLemmas.{list_by}
use Rattle.vc_dtdisc.proofs.ObjectsLemmas.{placed_each-map}
use Rattle.vc_paths.specs.Visible.{Seen, is_hidden, rename, seen_bytes, stacked_objects, visible_objects}
use Rattle.vc_paths.proofs.EndLemmas.{filter-same}

module _ {N M : Type 0} (r : N → M) (rules : Rules) where
  pub is_hidden-renamed : (above : List (Seen N)) (o : Seen N) → is_hidden rules (map (rename r) above) (rename r o) ≡ is_hidden rules above o
  is_hidden-renamed above o = any-map (rename r) (λ u. is_match rules o.bytes u.bytes) above

  shown-renamed : (above layer : List (Seen N))
      → filter (λ o. not (is_hidden rules (map (rename r) above) o)) (map (rename r) layer) ≡ map (rename r) (filter (λ o. not (is_hidden rules above o)) layer)
  shown-renamed above layer =
      filter-map (rename r) (λ o. not (is_hidden rules (map (rename r) above) o)) layer
      ∙ ap (λ os. map (rename r) os) (filter-same (λ o. not (is_hidden rules (map (rename r) above) (rename r o))) (λ o. not (is_hidden rules above o)) layer
      (λ o. ap (λ t. not t) (is_hidden-renamed above o)))

  pub stacked-renamed : (above : List (Seen N)) (layers : List (List (Seen N)))
      → stacked_objects rules (map (rename r) above) (map (map (rename r)) layers) ≡ map (rename r) (stacked_objects rules above layers)
  stacked-renamed above [] = refl
  stacked-renamed above (layer ∷ lower) =
      ap (λ os. os ++ stacked_objects rules (map (rename r) above ++ map (rename r) layer) (map (map (rename r)) lower)) (shown-renamed above layer)
      ∙ ap (λ us. map (rename r) (filter (λ o. not (is_hidden rules above o)) layer) ++ stacked_objects rules us (map (map (rename r)) lower)) (sym (map-append (rename r) above layer))
      ∙ ap (λ os. map (rename r) (filter (λ o. not (is_hidden rules above o)) layer) ++ os) (stacked-renamed (above ++ layer) lower)
      ∙ sym (map-append (rename r) (filter (λ o. not (is_hidden rules above o)) layer) (stacked_objects rules (above ++ layer) lower))

  -- the same list, renamed
  pub visible-renamed : (method : DictMethod) (layers : List (List (Seen N)))
      → visible_objects method rules (map (map (rename r)) layers) ≡ map (rename r) (visible_objects method rules layers)
  visible-renamed method layers =
      let low = stacked_objects rules [] layers in
      list_by (rename r) (is_ordered method) (placed_each seen_bytes rules [] low) low
      (placed_each seen_bytes rules [] (stacked_objects rules [] (map (map (rename r)) layers))) (stacked_objects rules [] (map (map (rename r)) layers))
      (ap (λ os. placed_each seen_bytes rules [] os) (stacked-renamed [] layers) ∙ placed_each-map (rename r) seen_bytes rules [] low)
      (stacked-renamed [] layers)
