-- What a dictionary's own calls tell, as what is told of the layer of its number.
use Rattle.vc_base.proofs.Common.{◌≡◌, ℕ, ◌≤◌, ◌<◌, true, List, map, length, is_some, IsSome, Some, None, Option, AllByRecursion, sym, ap, ◌∙◌, subst, arith, true≢false, Blocks, HasBytes, contains, first_in, last_in, next_in, previous_in, at_number, is_gt, Ordering, Less, Equal, Greater, ordering_reverse, length-map, refl, slice_get}
use Rattle.std.specs.Ordering.{is_lt}
use Rattle.vc_dtdisc.specs.Finding.{first_of, last_of}
use Rattle.vc_dtdisc.specs.Finds.{object_at}
use Rattle.vc_dtdisc.specs.Rules.{AreLawful, IsObject, Rules}
use Rattle.vc_dict.specs.Listed.{holders_of}
use Rattle.vc_dict.specs.Stands.{IsIn, IsKept, Stands}
use Rattle.vc_dict.specs.declared.dict.Dict.{Dict}
use Rattle.vc_dict.proofs.OwnLemmas.{holder-there, holders-distinct}
use Rattle.vc_objects.specs.Parts.{object_of}
use Rattle.vc_objects.proofs.Owning.{each-object}
use Rattle.vc_paths.specs.Layers.{Layer, Same, bytes_there, place_before, place_behind, place_in, place_less}
use Rattle.vc_paths.proofs.EndLemmas.{filter-same}
use Rattle.vc_region.specs.Cells.{cells_in, rest_in}
use Rattle.vc_region.specs.Region.{is_best}
use Rattle.vc_best.specs.declared.best.Best as best
use Rattle.vc_region.specs.declared.region.Region as code
use Rattle.vc_region.specs.declared.region.Region.TheVariants.{Best, Pool, Last, Debug, Profile}
use Rattle.vc_algebra.specs.InRegion.{AreDictsIn, IsDictIn, LeavesDictsIn, held, layer_held, layered_in, layers_of_region}
use Rattle.vc_algebra.specs.RegionLaws.{dict-at, found-there, layer-is, layer_over_cells}
use Rattle.vc_algebra.specs.Sides.{sought_place}
use Rattle.vc_algebra.specs.declared.side.Side.TheVariants.{Below}
use Rattle.vc_algebra.proofs.AtHolders.{before-place, behind-place, bytes-here, first-place, holder-here, last-place}

module _ (kinds : List Rules) (cells : Blocks) (ds : List Dict) (d : ℕ) (are : AreDictsIn kinds cells ds) (v : Dict) (at : slice_get ds d ≡ Some v) where
  abbrev layer : Layer
  layer = layers_of_region kinds cells ds d

  pub is-there : IsDictIn kinds cells v
  is-there = dict-at kinds cells ds d v at are

  pub layer-here : layer ≡ layer_over_cells is-there.rules v cells
  layer-here = layer-is kinds cells ds d v at is-there

  pub method-told : v.method ≡ layer.method
  method-told = sym (ap (λ (l : Layer). l.method) layer-here)

  pub kind-told : v.kind ≡ layer.kind
  kind-told = sym (ap (λ (l : Layer). l.kind) layer-here)

  module _ (b : Blocks) (same : b ≡ cells) where
    abbrev xs : List ℕ
    xs = holders_of v b

    stands : Stands is-there.rules v b xs
    stands = subst (λ z. Stands is-there.rules v z (holders_of v z)) (sym same) is-there.stands

    layer-over : layer ≡ layer_over_cells is-there.rules v b
    layer-over = layer-here ∙ ap (layer_over_cells is-there.rules v) (sym same)

    objects-here : layer.objects ≡ map (object_of b) xs
    objects-here = ap (λ (l : Layer). l.objects) layer-over

    pub is-kept : IsKept v b
    is-kept = record { rules = is-there.rules; is = record { holders = xs; stands = stands } }

    pub first-told : (o : Option ℕ) → ((rules : Rules) (ys : List ℕ) → Stands rules v b ys → o ≡ first_in ys) → o ≡ place_in (first_of layer.objects)
    first-told o gives = gives is-there.rules xs stands ∙ sym (first-place b xs) ∙ ap (λ os. place_in (first_of os)) (sym objects-here)

    pub last-told : (o : Option ℕ) → ((rules : Rules) (ys : List ℕ) → Stands rules v b ys → o ≡ last_in ys) → o ≡ place_in (last_of layer.objects)
    last-told o gives = gives is-there.rules xs stands ∙ sym (last-place b xs) ∙ ap (λ os. place_in (last_of os)) (sym objects-here)

    module _ (a : ℕ) (there : IsSome (bytes_there a layer.objects)) where
      pub within : contains xs a ≡ true
      within = holder-here b a xs (subst (λ os. IsSome (bytes_there a os)) objects-here there)

      pub is-in : IsIn v b a
      is-in = record { rules = is-there.rules; is = record { holders = xs; stands = stands; within = within } }

      pub has-body : HasBytes b a 32
      has-body = let h = holder-there is-there.rules v b xs a stands within in record { there = h.there; enough = omega (arith, h.enough) }

      pub bytes-told : bytes_there a layer.objects ≡ Some (object_at b a)
      bytes-told = ap (bytes_there a) objects-here ∙ bytes-here b a xs within

      -- it has at most 1,024 bytes
      pub object-within : length (object_at b a) ≤ 1024
      object-within =
          (each-object IsObject b xs (subst (λ z. AllByRecursion (λ o. IsObject o.bytes) (map (object_of z) (holders_of v z))) (sym same) is-there.objects) a within).most

      pub next-told : (o : Option ℕ) → ((rules : Rules) (ys : List ℕ) → Stands rules v b ys → o ≡ next_in a ys) → o ≡ place_behind a layer.objects
      next-told o gives = gives is-there.rules xs stands ∙ sym (behind-place b a xs (holders-distinct is-there.rules v b xs stands)) ∙ ap (place_behind a) (sym objects-here)

      pub prev-told : (o : Option ℕ) → ((rules : Rules) (ys : List ℕ) → Stands rules v b ys → o ≡ previous_in None a ys) → o ≡ place_before a layer.objects
      prev-told o gives = gives is-there.rules xs stands ∙ sym (before-place b a xs) ∙ ap (place_before a) (sym objects-here)

-- the kind of a dictionary that has a layer is there
pub kind-there : (kinds : List Rules) (cells : Blocks) (ds : List Dict) (d : ℕ) → AreDictsIn kinds cells ds → d < length ds → at_number kinds (layers_of_region kinds cells ds d).kind ≡ Some (layers_of_region kinds cells ds d).rules
kind-there kinds cells ds d are below =
    let f = found-there kinds cells ds d are below in
    ap (λ (l : Layer). at_number kinds l.kind) f.layer ∙ f.is.kind ∙ ap (λ (l : Layer). Some l.rules) (sym f.layer)

pub kind-known : (kinds : List Rules) (cells : Blocks) (ds : List Dict) (d : ℕ) → AreDictsIn kinds cells ds → d < length ds → (k : ℕ) → k ≡ (layers_of_region kinds cells ds d).kind → IsSome (at_number kinds k)
kind-known kinds cells ds d are below k same = ap (λ z. is_some (at_number kinds z)) same ∙ ap is_some (kind-there kinds cells ds d are below)

-- what a look leaves are the same layers
pub same-left : {I : Type 0} {V : I → Type 0} {kinds : List Rules} {region region' : code.Region I V} {ds ds' : List Dict} → LeavesDictsIn kinds region region' ds ds' → Same (layered_in kinds region ds) (layered_in kinds region' ds')
same-left {kinds = kinds} {region = region} {region' = region'} {ds = ds} {ds' = ds'} leaves =
    let count : length ds' ≡ length ds = sym (length-map ds' (held (cells_in region'))) ∙ ap length leaves.keeps.same ∙ length-map ds (held (cells_in region)) in
    record {
      has = λ d has. record {
        best = ap is_best leaves.keeps.region.region ∙ has.best;
        dicts = leaves.dicts;
        there = subst (λ n. d < n) (sym count) has.there;
      };
      layers = ap (λ hs. λ d. layer_held kinds (slice_get hs d)) leaves.keeps.same;
    }

-- what is less than an object, by either side of it
lt-gt : (o : Ordering) → is_gt (ordering_reverse o) ≡ is_lt o
lt-gt Less = refl
lt-gt Equal = refl
lt-gt Greater = refl

pub place-less : (layer : Layer) (bytes : List ℕ) → AreLawful layer.rules → sought_place Below layer (layer.rules.key bytes) ≡ place_less layer.rules bytes layer.objects
place-less layer bytes lawful =
    let key = layer.rules.key in
    let compare = layer.rules.compare in
    ap (λ os. place_in (last_of os)) (filter-same (λ o. is_lt (compare (key o.bytes) (key bytes))) (λ o. is_gt (compare (key bytes) (key o.bytes))) layer.objects
    (λ o. sym (ap is_gt (lawful.order.antisymm (key bytes) (key o.bytes)) ∙ lt-gt (compare (key o.bytes) (key bytes)))))

-- a region that is a best one is no other
pub no-other : {I : Type 0} {V : I → Type 0} (r : code.Region I V) → is_best (rest_in r) ≡ true → ((b : best.Best I V) → r ≡ Best b → ⊥) → ⊥
no-other (Best b) is never = never b refl
no-other (Pool p) is never = absurd (true≢false (sym is))
no-other (Last l) is never = absurd (true≢false (sym is))
no-other (Debug d) is never = absurd (true≢false (sym is))
no-other (Profile p) is never = absurd (true≢false (sym is))
