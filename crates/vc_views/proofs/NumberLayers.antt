-- The dictionary of a number over the cells of its region, as the layer of that number.
use Rattle.vc_base.proofs.Common.{◌≡◌, ℕ, ◌≤◌, true, List, [], map, length, is_some, IsSome, Some, None, Option, option_map, find, sym, refl, ap, ◌∙◌, subst, arith, none-some, same_Some, Blocks, HasBytes, contains, first_in, last_in, next_in, previous_in, slice_get, slice_get-map, at_number, is_gt, Ordering, Less, Equal, Greater, ordering_reverse}
use Rattle.std.specs.Ordering.{is_lt}
use Rattle.vc_base.proofs.Options.{is_some-map}
use Rattle.vc_dtdisc.specs.Finding.{first_of, last_of}
use Rattle.vc_dtdisc.specs.Finds.{object_at}
use Rattle.vc_dtdisc.specs.Rules.{AreLawful, IsObject, Rules}
use Rattle.vc_dict.specs.Listed.{holders_of}
use Rattle.vc_dict.specs.Stands.{IsIn, IsKept, Stands}
use Rattle.vc_dict.proofs.OwnLemmas.{holder-there, holders-distinct}
use Rattle.vc_objects.specs.Parts.{IsWhole, object_of}
use Rattle.vc_objects.proofs.Owning.{each-object}
use Rattle.vc_paths.specs.Layers.{Layer, Same, bytes_there, place_before, place_behind, place_in, place_less}
use Rattle.vc_paths.proofs.EndLemmas.{filter-same}
use Rattle.vc_commands.specs.declared.dict.entry.DictEntry.{DictEntry}
use Rattle.vc_commands.specs.declared.region.home.HomeEntry.{HomeEntry}
use Rattle.vc_views.specs.Dicts.{DictRegion, HasLayer, IsDictOver, cells_held, dict_seen, entry_numbered, has_number, layer_seen, layered_by, region_named, region_seen}
use Rattle.vc_views.specs.LayerLaws.{Entry, Found, dict-found, found-there, layer-found, layer-is, layer_over, seen-found}
use Rattle.vc_views.specs.Leaves.{IsBestNamed}
use Rattle.vc_views.specs.Promises.{LeavesDicts, layer_at, layered_over}
use Rattle.vc_views.specs.Sides.{place_like}
use Rattle.vc_views.proofs.AtHolders.{before-place, behind-place, bytes-here, first-place, holder-here, last-place}

-- the dictionary of a number, by its name
pub record Here (kinds : List Rules) (regions : List DictRegion) (es : List Entry) (d : ℕ) (v : DictEntry) : Type 0 where
  pub name : List ℕ
  pub found : entry_numbered d es ≡ Some (name, v)
  pub is : IsDictOver kinds regions (name, v)

here-by : (kinds : List Rules) (regions : List DictRegion) (es : List Entry) (d : ℕ) (v : DictEntry) (o : Option Entry) → entry_numbered d es ≡ o → ((e : Entry) → o ≡ Some e → IsDictOver kinds regions e) → option_map (λ (e : Entry). e.1) o ≡ Some v → Here kinds regions es d v
here-by kinds regions es d v None found is at = absurd (none-some v at)
here-by kinds regions es d v (Some e) found is at =
    let same : e ≡ (e.0, v) = ap (λ w. (e.0, w)) (same_Some e.1 v at) in
    record { name = e.0; found = found ∙ ap (λ x. Some x) same; is = is (e.0, v) (ap (λ x. Some x) same) }

module _ (kinds : List Rules) (regions : List DictRegion) (es : List Entry) (d : ℕ) (has : HasLayer kinds regions es d) (v : DictEntry) (at : option_map (λ (e : Entry). e.1) (entry_numbered d es) ≡ Some v) where
  pub here-at : Here kinds regions es d v
  here-at = here-by kinds regions es d v (entry_numbered d es) refl (λ e found. dict-found kinds regions d es e found has.dicts) at

  -- its region is a best one
  pub best-there : IsBestNamed regions v.home
  best-there = record { home = here-at.is.home; found = here-at.is.found; best = here-at.is.best }

  abbrev layer : Layer
  layer = (layered_by kinds regions es).layer d

  layer-here : layer ≡ layer_over here-at.is.rules v here-at.is.home.cells
  layer-here = layer-found kinds regions d es (here-at.name, v) here-at.found ∙ layer-is kinds regions (here-at.name, v) here-at.is

  pub method-told : v.dict.method ≡ layer.method
  method-told = sym (ap (λ (l : Layer). l.method) layer-here)

  pub kind-told : v.dict.kind ≡ layer.kind
  kind-told = sym (ap (λ (l : Layer). l.kind) layer-here)

  -- its kind is there, and the layer has its rules
  pub kind-there : IsSome (at_number kinds v.dict.kind)
  kind-there = ap is_some here-at.is.kind

  pub rules-told : (rules : Rules) → at_number kinds v.dict.kind ≡ Some rules → rules ≡ layer.rules
  rules-told rules kind = same_Some rules here-at.is.rules (sym kind ∙ here-at.is.kind) ∙ sym (ap (λ (l : Layer). l.rules) layer-here)

  module _ (b : Blocks) (same : b ≡ cells_held (region_named regions v.home)) where
    abbrev xs : List ℕ
    xs = holders_of v.dict b

    cells-here : b ≡ here-at.is.home.cells
    cells-here = same ∙ ap cells_held here-at.is.found

    whole : IsWhole here-at.is.rules v.dict b
    whole = subst (IsWhole here-at.is.rules v.dict) (sym cells-here) here-at.is.whole

    layer-over : layer ≡ layer_over here-at.is.rules v b
    layer-over = layer-here ∙ ap (layer_over here-at.is.rules v) (sym cells-here)

    objects-here : layer.objects ≡ map (object_of b) xs
    objects-here = ap (λ (l : Layer). l.objects) layer-over

    pub is-kept : IsKept v.dict b
    is-kept = record { rules = here-at.is.rules; is = record { holders = xs; stands = whole.stands } }

    pub first-told : (o : Option ℕ) → ((rules : Rules) (ys : List ℕ) → Stands rules v.dict b ys → o ≡ first_in ys) → o ≡ place_in (first_of layer.objects)
    first-told o gives = gives here-at.is.rules xs whole.stands ∙ sym (first-place b xs) ∙ ap (λ os. place_in (first_of os)) (sym objects-here)

    pub last-told : (o : Option ℕ) → ((rules : Rules) (ys : List ℕ) → Stands rules v.dict b ys → o ≡ last_in ys) → o ≡ place_in (last_of layer.objects)
    last-told o gives = gives here-at.is.rules xs whole.stands ∙ sym (last-place b xs) ∙ ap (λ os. place_in (last_of os)) (sym objects-here)

    module _ (a : ℕ) (there : IsSome (bytes_there a layer.objects)) where
      within : contains xs a ≡ true
      within = holder-here b a xs (subst (λ os. IsSome (bytes_there a os)) objects-here there)

      pub is-in : IsIn v.dict b a
      is-in = record { rules = here-at.is.rules; is = record { holders = xs; stands = whole.stands; within = within } }

      pub has-body : HasBytes b a 32
      has-body = let h = holder-there here-at.is.rules v.dict b xs a whole.stands within in record { there = h.there; enough = omega (arith, h.enough) }

      pub bytes-told : bytes_there a layer.objects ≡ Some (object_at b a)
      bytes-told = ap (bytes_there a) objects-here ∙ bytes-here b a xs within

      pub next-told : (o : Option ℕ) → ((rules : Rules) (ys : List ℕ) → Stands rules v.dict b ys → o ≡ next_in a ys) → o ≡ place_behind a layer.objects
      next-told o gives = gives here-at.is.rules xs whole.stands ∙ sym (behind-place b a xs (holders-distinct here-at.is.rules v.dict b xs whole.stands)) ∙ ap (place_behind a) (sym objects-here)

      pub prev-told : (o : Option ℕ) → ((rules : Rules) (ys : List ℕ) → Stands rules v.dict b ys → o ≡ previous_in None a ys) → o ≡ place_before a layer.objects
      prev-told o gives = gives here-at.is.rules xs whole.stands ∙ sym (before-place b a xs) ∙ ap (place_before a) (sym objects-here)

module _ (kinds : List Rules) (regions : List DictRegion) (es : List Entry) (d : ℕ) (has : HasLayer kinds regions es d) where
  abbrev its_layer : Layer
  its_layer = (layered_by kinds regions es).layer d

  abbrev its_found : Found kinds regions d es
  its_found = found-there kinds regions d es has

  -- the kind of the layer is there
  pub kind-known : (k : ℕ) → k ≡ its_layer.kind → IsSome (at_number kinds k)
  kind-known k same = ap (λ z. is_some (at_number kinds z)) (same ∙ ap (λ (l : Layer). l.kind) its_found.layer) ∙ ap is_some its_found.is.kind

  -- each of its objects has at most 1,024 bytes
  pub object-within : (a : ℕ) (bytes : List ℕ) → bytes_there a its_layer.objects ≡ Some bytes → length bytes ≤ 1024
  object-within a bytes at =
      let b = its_found.is.home.cells in
      let xs = holders_of its_found.entry.1.dict b in
      let objects = ap (λ (l : Layer). l.objects) its_found.layer in
      let some : IsSome (bytes_there a (map (object_of b) xs)) = subst (λ os. IsSome (bytes_there a os)) objects (ap is_some at) in
      let within = holder-here b a xs some in
      let same : object_at b a ≡ bytes = same_Some (object_at b a) bytes (sym (bytes-here b a xs within) ∙ ap (bytes_there a) (sym objects) ∙ at) in
      subst (λ z. length z ≤ 1024) same (each-object IsObject b xs its_found.is.whole.objects a within).most

-- a number that is in use stays in use where what is seen stays
pub still-there : (old new : List DictRegion) (es es' : List Entry) (d : ℕ) → map (dict_seen new) es' ≡ map (dict_seen old) es → IsSome (entry_numbered d es) → IsSome (entry_numbered d es')
still-there old new es es' d same there =
    sym (is_some-map (dict_seen new) (entry_numbered d es'))
    ∙ ap is_some (sym (seen-found [] new d es') ∙ ap (find (has_number d)) same ∙ seen-found [] old d es)
    ∙ is_some-map (dict_seen old) (entry_numbered d es) ∙ there

-- what a look leaves are the same layers
pub same-left : {I : Type 0} {V : I → Type 0} {kinds : List Rules} {homes homes' : List (List ℕ × HomeEntry I V)} {es es' : List Entry} → LeavesDicts kinds homes homes' es es' → Same (layered_over kinds homes es) (layered_over kinds homes' es')
same-left {kinds = kinds} {homes = homes} {homes' = homes'} {es = es} {es' = es'} leaves = record {
  has = λ d has. record { dicts = leaves.dicts; there = still-there (map region_seen homes) (map region_seen homes') es es' d leaves.keeps.seen has.there };
  layers = ap (λ ss. λ d. layer_seen kinds (find (has_number d) ss)) leaves.keeps.seen;
}

-- the layer of the index of a number's dictionary is that of the number
pub layer-indexed : {I : Type 0} {V : I → Type 0} (kinds : List Rules) (homes : List (List ℕ × HomeEntry I V)) (es : List Entry) (d i : ℕ) → slice_get es i ≡ entry_numbered d es → layer_at kinds homes es i ≡ (layered_over kinds homes es).layer d
layer-indexed kinds homes es d i same =
    ap (layer_seen kinds) (slice_get-map (dict_seen (map region_seen homes)) es i ∙ ap (option_map (dict_seen (map region_seen homes))) same ∙ sym (seen-found kinds (map region_seen homes) d es))

-- what is less than an object, by either side of it
lt-gt : (o : Ordering) → is_gt (ordering_reverse o) ≡ is_lt o
lt-gt Less = refl
lt-gt Equal = refl
lt-gt Greater = refl

pub place-less : (layer : Layer) (bytes : List ℕ) → AreLawful layer.rules → place_like Less layer bytes ≡ place_less layer.rules bytes layer.objects
place-less layer bytes lawful =
    let key = layer.rules.key in
    let compare = layer.rules.compare in
    ap (λ os. place_in (last_of os)) (filter-same (λ o. is_lt (compare (key o.bytes) (key bytes))) (λ o. is_gt (compare (key bytes) (key o.bytes))) layer.objects
    (λ o. sym (ap is_gt (lawful.order.antisymm (key bytes) (key o.bytes)) ∙ lt-gt (compare (key o.bytes) (key bytes)))))
