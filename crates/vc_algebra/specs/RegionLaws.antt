-- The dictionaries of a region keep the laws of layers, and what stays over one call after another.
use Rattle.std.proofs.Common.{◌≡◌, ℕ, ◌-◌, ◌<◌, zero, suc, true, cond, List, [], ◌∷◌, Option, Some, None, length, map, option_map, refl, sym, ap, ◌∙◌, subst, inl, inr, arith}
use Rattle.std.specs.Prelude.{◌==◌, slice_get}
use Rattle.std.proofs.lemmas.Bool.{cases_Bool}
use Rattle.std.proofs.lemmas.Option.{none-some, same_Some, slice_get-map}
use Rattle.vc_model.specs.Numbered.{at_number}
use Rattle.vc_base.specs.Cells.{Blocks}
use Rattle.vc_base.specs.Holders.{AreDistinct}
use Rattle.vc_base.specs.Methods.{is_ordered}
use Rattle.vc_dtdisc.specs.Objects.{IsSorted, bytes_of}
use Rattle.vc_dtdisc.specs.Rules.{AreLawful, Rules}
use Rattle.vc_dtdisc.proofs.ObjectsLemmas.{IsSorted-map}
use Rattle.vc_dict.specs.Listed.{holders_of}
use Rattle.vc_dict.specs.Stands.{Stands}
use Rattle.vc_dict.specs.declared.dict.Dict.{Dict}
use Rattle.vc_dict.proofs.HeadLemmas.{as_ord}
use Rattle.vc_dict.proofs.OwnLemmas.{holders-distinct}
use Rattle.vc_objects.specs.Parts.{object_of}
use Rattle.vc_objects.proofs.Mapped.{addresses-mapped}
use Rattle.vc_paths.specs.Layers.{AreLayers, Layer}
use Rattle.vc_region.specs.Cells.{cells_in}
use Rattle.vc_region.specs.declared.region.Region.{Region}
use Rattle.vc_algebra.specs.InRegion.{AreDictsIn, HasDictInRegion, IsDictIn, KeepsDictsIn, held, layer_held, layered_in, layers_of_region, rules_or}

-- a dictionary over some cells, by the rules of its kind
abbrev pub layer_over_cells : Rules → Dict → Blocks → Layer
layer_over_cells rules v b = record { method = v.method; kind = v.kind; rules = rules; objects = map (object_of b) (holders_of v b) }

pub at-below : {A : Type 0} (xs : List A) (i : ℕ) → i < length xs → (x : A) × (slice_get xs i ≡ Some x)
at-below [] i below = absurd (omega arith)
at-below (x ∷ xs) zero below = (x, refl)
at-below (x ∷ xs) (suc i) below = at-below xs i (omega arith)

module _ (kinds : List Rules) (b : Blocks) where
  pub dict-at : (ds : List Dict) (i : ℕ) (v : Dict) → slice_get ds i ≡ Some v → AreDictsIn kinds b ds → IsDictIn kinds b v
  dict-at [] i v at are = absurd (none-some v at)
  dict-at (x ∷ ds) zero v at are = subst (IsDictIn kinds b) (same_Some x v at) are.0
  dict-at (x ∷ ds) (suc i) v at are = dict-at ds i v at are.2

  abbrev layer_with : Dict → Option Rules → Layer
  layer_with v r = record { method = v.method; kind = v.kind; rules = rules_or r; objects = map (object_of b) (holders_of v b) }

  pub layer-is : (ds : List Dict) (i : ℕ) (v : Dict) → slice_get ds i ≡ Some v → (is : IsDictIn kinds b v) → layers_of_region kinds b ds i ≡ layer_over_cells is.rules v b
  layer-is ds i v at is =
      ap (layer_held kinds) (slice_get-map (held b) ds i ∙ ap (option_map (held b)) at) ∙ ap (layer_with v) is.kind

  -- the dictionary of a number
  pub record Found (ds : List Dict) (d : ℕ) : Type 0 where
    pub dict : Dict
    pub found : slice_get ds d ≡ Some dict
    pub is : IsDictIn kinds b dict
    pub layer : layers_of_region kinds b ds d ≡ layer_over_cells is.rules dict b

  pub found-there : (ds : List Dict) (d : ℕ) → AreDictsIn kinds b ds → d < length ds → Found ds d
  found-there ds d are below =
      let v = at-below ds d below in
      let is = dict-at ds d v.0 v.1 are in
      record { dict = v.0; found = v.1; is = is; layer = layer-is ds d v.0 v.1 is }

  -- the objects of an ordered dictionary stand in order
  ordered-there : (rules : Rules) (d : Dict) (xs : List ℕ) → Stands rules d b xs → is_ordered d.method ≡ true → IsSorted bytes_of rules (map (object_of b) xs)
  ordered-there rules d xs s h =
      subst (λ T. T) (sym (IsSorted-map (object_of b) bytes_of rules xs)) (as_ord rules d b xs h s).1.sorted

  module _ (ds : List Dict) (d : ℕ) (f : Found ds d) where
    abbrev xs : List ℕ
    xs = holders_of f.dict b

    places-distinct : AreDistinct (map (λ o. o.at) (layers_of_region kinds b ds d).objects)
    places-distinct =
        subst (λ (l : Layer). AreDistinct (map (λ o. o.at) l.objects)) (sym f.layer)
        (subst AreDistinct (sym (addresses-mapped b xs)) (holders-distinct f.is.rules f.dict b xs f.is.stands))

    objects-sorted : is_ordered (layers_of_region kinds b ds d).method ≡ true → IsSorted bytes_of (layers_of_region kinds b ds d).rules (layers_of_region kinds b ds d).objects
    objects-sorted =
        subst (λ (l : Layer). is_ordered l.method ≡ true → IsSorted bytes_of l.rules l.objects) (sym f.layer)
        (λ h. ordered-there f.is.rules f.dict xs f.is.stands h)

    rules-are : (layers_of_region kinds b ds d).rules ≡ f.is.rules
    rules-are = ap (λ (l : Layer). l.rules) f.layer

    kind-is : (layers_of_region kinds b ds d).kind ≡ f.dict.kind
    kind-is = ap (λ (l : Layer). l.kind) f.layer

  same-kinds : (ds : List Dict) (d e : ℕ) → Found ds d → Found ds e → (layers_of_region kinds b ds d).kind ≡ (layers_of_region kinds b ds e).kind → (layers_of_region kinds b ds d).rules ≡ (layers_of_region kinds b ds e).rules
  same-kinds ds d e f g same =
      let kind = sym (kind-is ds d f) ∙ same ∙ kind-is ds e g in
      rules-are ds d f ∙ same_Some f.is.rules g.is.rules (sym f.is.kind ∙ ap (at_number kinds) kind ∙ g.is.kind) ∙ sym (rules-are ds e g)

module _ {K : Type 0} (rules : K → Rules) (lawful : (k : K) → AreLawful (rules k)) where
  slice-lawful : (ks : List K) (i : ℕ) (r : Rules) → slice_get (map rules ks) i ≡ Some r → AreLawful r
  slice-lawful [] i r at = absurd (none-some r at)
  slice-lawful (k ∷ ks) zero r at = subst AreLawful (same_Some (rules k) r at) (lawful k)
  slice-lawful (k ∷ ks) (suc i) r at = slice-lawful ks i r at

  number-lawful : (ks : List K) (n : ℕ) (r : Rules) → at_number (map rules ks) n ≡ Some r → AreLawful r
  number-lawful ks n r at = elim (cases_Bool (n == 0)) as (λ _. AreLawful r) [
    | inl k ↦ absurd (none-some r (sym (ap (λ t. cond t None (slice_get (map rules ks) (n - 1))) k) ∙ at))
    | inr k ↦ slice-lawful ks (n - 1) r (sym (ap (λ t. cond t None (slice_get (map rules ks) (n - 1))) k) ∙ at)
  ]

  pub are-layers : {I : Type 0} {V : I → Type 0} (kinds : List K) (region : Region I V) (dicts : List Dict) → AreLayers (layered_in (map rules kinds) region dicts)
  are-layers kinds region dicts =
      let ks = map rules kinds in
      let b = cells_in region in
      let there : (d : ℕ) → HasDictInRegion ks region dicts d → Found ks b dicts d = λ d has. found-there ks b dicts d has.dicts has.there in
      record {
        distinct = λ d has. places-distinct ks b dicts d (there d has);
        sorted = λ d has. objects-sorted ks b dicts d (there d has);
        kinds = λ d e hd he same. same-kinds ks b dicts d e (there d hd) (there e he) same;
        lawful = λ d has.
            let f = there d has in
            subst AreLawful (sym (rules-are ks b dicts d f)) (number-lawful kinds f.dict.kind f.is.rules f.is.kind);
      }

pub keeps-same : {I : Type 0} {V : I → Type 0} (region : Region I V) (dicts : List Dict) → KeepsDictsIn region region dicts dicts
keeps-same region dicts = record { region = record { region = refl; disc = refl }; same = refl }

pub keeps-after : {I : Type 0} {V : I → Type 0} {ra rb rc : Region I V} {da db dc : List Dict} → KeepsDictsIn ra rb da db → KeepsDictsIn rb rc db dc → KeepsDictsIn ra rc da dc
keeps-after p q = record {
  region = record { region = q.region.region ∙ p.region.region; disc = q.region.disc ∙ p.region.disc };
  same = q.same ∙ p.same;
}
