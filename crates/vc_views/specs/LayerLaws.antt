-- The dictionary of a number as a layer, the laws that layers keep, and what stays over one call after another.
use Rattle.std.proofs.Common.{◌≡◌, ℕ, ◌-◌, zero, suc, true, cond, List, [], ◌∷◌, Option, Some, None, IsSome, map, option_map, refl, sym, ap, ◌∙◌, subst, inl, inr}
use Rattle.std.specs.Prelude.{◌==◌, find, slice_get}
use Rattle.std.proofs.lemmas.Bool.{cases_Bool}
use Rattle.std.proofs.lemmas.Option.{none-some, same_Some}
use Rattle.vc_model.specs.Numbered.{at_number}
use Rattle.vc_base.specs.Cells.{Blocks}
use Rattle.vc_base.specs.Holders.{AreDistinct}
use Rattle.vc_base.specs.Methods.{is_ordered}
use Rattle.vc_base.proofs.Lists.{find-map}
use Rattle.vc_dtdisc.specs.Objects.{IsSorted, bytes_of}
use Rattle.vc_dtdisc.specs.Rules.{AreLawful, Rules}
use Rattle.vc_dtdisc.proofs.ObjectsLemmas.{IsSorted-map}
use Rattle.vc_dict.specs.Listed.{holders_of}
use Rattle.vc_dict.specs.Stands.{Stands}
use Rattle.vc_dict.specs.declared.dict.Dict.{Dict}
use Rattle.vc_dict.proofs.HeadLemmas.{as_ord}
use Rattle.vc_dict.proofs.OwnLemmas.{holders-distinct}
use Rattle.vc_objects.specs.Parts.{object_of}
use Rattle.vc_objects.proofs.Mapped.{addresses-mapped}
use Rattle.vc_paths.specs.Layers.{AreLayers, Layer}
use Rattle.vc_commands.specs.declared.dict.entry.DictEntry.{DictEntry}
use Rattle.vc_commands.specs.declared.region.home.HomeEntry.{HomeEntry}
use Rattle.vc_views.specs.Dicts.{AreDictsOver, DictRegion, HasLayer, IsDictOver, cells_held, dict_seen, entry_numbered, has_number, is_numbered, layer_of, layer_seen, layered_by, region_named, rules_or}
use Rattle.vc_views.specs.Leaves.{KeepsDicts}

abbrev pub Entry : Type 0
Entry = List ℕ × DictEntry

-- a dictionary over some cells, by the rules of its kind
abbrev pub layer_over : Rules → DictEntry → Blocks → Layer
layer_over rules v b = record { method = v.dict.method; kind = v.dict.kind; rules = rules; objects = map (object_of b) (holders_of v.dict b) }

module _ (b : Blocks) where
  -- the objects of an ordered dictionary stand in order
  ordered-there : (rules : Rules) (d : Dict) (xs : List ℕ) → Stands rules d b xs → is_ordered d.method ≡ true → IsSorted bytes_of rules (map (object_of b) xs)
  ordered-there rules d xs s h =
      subst (λ T. T) (sym (IsSorted-map (object_of b) bytes_of rules xs)) (as_ord rules d b xs h s).1.sorted

pub some-there : {A : Type 0} (o : Option A) → IsSome o → (x : A) × (o ≡ Some x)
some-there None h = cc
some-there (Some x) h = (x, refl)

module _ (kinds : List Rules) (regions : List DictRegion) where
  -- what is seen of the dictionary of a number
  pub seen-found : (d : ℕ) (es : List Entry) → find (has_number d) (map (dict_seen regions) es) ≡ option_map (dict_seen regions) (entry_numbered d es)
  seen-found d es = find-map (dict_seen regions) (has_number d) es

  pub dict-found : (d : ℕ) (es : List Entry) (e : Entry) → entry_numbered d es ≡ Some e → AreDictsOver kinds regions es → IsDictOver kinds regions e
  dict-found d [] e h are = absurd (none-some e h)
  dict-found d (x ∷ es) e h are = elim (cases_Bool (is_numbered d x)) as (λ _. IsDictOver kinds regions e) [
    | inl k ↦ subst (IsDictOver kinds regions) (same_Some x e (sym (ap (λ t. cond t (Some x) (entry_numbered d es)) k) ∙ h)) are.0
    | inr k ↦ dict-found d es e (sym (ap (λ t. cond t (Some x) (entry_numbered d es)) k) ∙ h) are.2
  ]

  pub layer-found : (d : ℕ) (es : List Entry) (e : Entry) → entry_numbered d es ≡ Some e → (layered_by kinds regions es).layer d ≡ layer_of kinds regions e
  layer-found d es e h = ap (layer_seen kinds) (seen-found d es ∙ ap (option_map (dict_seen regions)) h)

  module _ (e : Entry) (is : IsDictOver kinds regions e) where
    abbrev layer_with : Option Rules → Option DictRegion → Layer
    layer_with r h = record { method = e.1.dict.method; kind = e.1.dict.kind; rules = rules_or r; objects = map (object_of (cells_held h)) (holders_of e.1.dict (cells_held h)) }

    pub layer-is : layer_of kinds regions e ≡ layer_over is.rules e.1 is.home.cells
    layer-is = ap (λ r. layer_with r (region_named regions e.1.home)) is.kind ∙ ap (λ h. layer_with (Some is.rules) h) is.found

  -- the dictionary of a number that has a layer
  pub record Found (d : ℕ) (es : List Entry) : Type 0 where
    pub entry : Entry
    pub found : entry_numbered d es ≡ Some entry
    pub is : IsDictOver kinds regions entry
    pub layer : (layered_by kinds regions es).layer d ≡ layer_over is.rules entry.1 is.home.cells

  pub found-there : (d : ℕ) (es : List Entry) → HasLayer kinds regions es d → Found d es
  found-there d es has =
      let e = some-there (entry_numbered d es) has.there in
      let is = dict-found d es e.0 e.1 has.dicts in
      record { entry = e.0; found = e.1; is = is; layer = layer-found d es e.0 e.1 ∙ layer-is e.0 is }

  module _ (es : List Entry) (d : ℕ) (has : HasLayer kinds regions es d) where
    abbrev f : Found d es
    f = found-there d es has

    abbrev xs : List ℕ
    xs = holders_of f.entry.1.dict f.is.home.cells

    places-distinct : AreDistinct (map (λ o. o.at) ((layered_by kinds regions es).layer d).objects)
    places-distinct =
        subst (λ (l : Layer). AreDistinct (map (λ o. o.at) l.objects)) (sym f.layer)
        (subst AreDistinct (sym (addresses-mapped f.is.home.cells xs)) (holders-distinct f.is.rules f.entry.1.dict f.is.home.cells xs f.is.whole.stands))

    objects-sorted : is_ordered ((layered_by kinds regions es).layer d).method ≡ true → IsSorted bytes_of ((layered_by kinds regions es).layer d).rules ((layered_by kinds regions es).layer d).objects
    objects-sorted =
        subst (λ (l : Layer). is_ordered l.method ≡ true → IsSorted bytes_of l.rules l.objects) (sym f.layer)
        (λ h. ordered-there f.is.home.cells f.is.rules f.entry.1.dict xs f.is.whole.stands h)

    rules-are : ((layered_by kinds regions es).layer d).rules ≡ f.is.rules
    rules-are = ap (λ (l : Layer). l.rules) f.layer

    kind-is : ((layered_by kinds regions es).layer d).kind ≡ f.entry.1.dict.kind
    kind-is = ap (λ (l : Layer). l.kind) f.layer

  same-kinds : (es : List Entry) (d e : ℕ) → HasLayer kinds regions es d → HasLayer kinds regions es e → ((layered_by kinds regions es).layer d).kind ≡ ((layered_by kinds regions es).layer e).kind
      → ((layered_by kinds regions es).layer d).rules ≡ ((layered_by kinds regions es).layer e).rules
  same-kinds es d e hd he same =
      let f = found-there d es hd in
      let g = found-there e es he in
      let kind = sym (kind-is es d hd) ∙ same ∙ kind-is es e he in
      rules-are es d hd ∙ same_Some f.is.rules g.is.rules (sym f.is.kind ∙ ap (at_number kinds) kind ∙ g.is.kind) ∙ sym (rules-are es e he)

module _ {K : Type 0} (rules : K → Rules) (lawful : (k : K) → AreLawful (rules k)) where
  slice-lawful : (ks : List K) (i : ℕ) (r : Rules) → slice_get (map rules ks) i ≡ Some r → AreLawful r
  slice-lawful [] i r at = absurd (none-some r at)
  slice-lawful (k ∷ ks) zero r at = subst AreLawful (same_Some (rules k) r at) (lawful k)
  slice-lawful (k ∷ ks) (suc i) r at = slice-lawful ks i r at

  number-lawful : (ks : List K) (n : ℕ) (r : Rules) → at_number (map rules ks) n ≡ Some r → AreLawful r
  number-lawful ks n r at = elim (cases_Bool (n == 0)) as (λ _. AreLawful r) [
    | inl k ↦ absurd (none-some r (sym (ap (λ t. cond t None (slice_get (map rules ks) (n - 1))) k) ∙ at))
    | inr k ↦ slice-lawful ks (n - 1) r (sym (ap (λ t. cond t None (slice_get (map rules ks) (n - 1))) k) ∙ at)
  ]

  pub are-layers : (kinds : List K) (regions : List DictRegion) (es : List Entry) → AreLayers (layered_by (map rules kinds) regions es)
  are-layers kinds regions es = record {
    distinct = λ d has. places-distinct (map rules kinds) regions es d has;
    sorted = λ d has. objects-sorted (map rules kinds) regions es d has;
    kinds = λ d e hd he same. same-kinds (map rules kinds) regions es d e hd he same;
    lawful = λ d has.
        let f = found-there (map rules kinds) regions d es has in
        subst AreLawful (sym (rules-are (map rules kinds) regions es d has)) (number-lawful kinds f.entry.1.dict.kind f.is.rules f.is.kind);
  }

pub keeps-same : {I : Type 0} {V : I → Type 0} (kinds : List Rules) (homes : List (List ℕ × HomeEntry I V)) (dicts : List Entry) → KeepsDicts kinds kinds homes homes dicts dicts
keeps-same kinds homes dicts = record { rules = refl; rest = refl; seen = refl }

pub keeps-after : {I : Type 0} {V : I → Type 0} {ka kb kc : List Rules} {ha hb hc : List (List ℕ × HomeEntry I V)} {da db dc : List Entry} → KeepsDicts ka kb ha hb da db → KeepsDicts kb kc hb hc db dc → KeepsDicts ka kc ha hc da dc
keeps-after p q = record { rules = q.rules ∙ p.rules; rest = q.rest ∙ p.rest; seen = q.seen ∙ p.seen }
