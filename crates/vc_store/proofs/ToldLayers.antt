-- What a dictionary's own calls tell, as what is told of the layer of its number.
use Rattle.vc_base.proofs.Common.{◌≡◌, ℕ, ◌≤◌, true, List, map, length, get_or, IsSome, Some, None, Option, filter, sym, ap, ◌∙◌, subst, arith, same_Some, Blocks, HasBytes, contains, first_in, last_in, next_in, previous_in}
use Rattle.vc_dtdisc.specs.Finding.{first_of, last_of}
use Rattle.vc_dtdisc.specs.Finds.{object_at}
use Rattle.vc_dtdisc.specs.Objects.{is_match}
use Rattle.vc_dtdisc.specs.Rules.{IsObject, Rules}
use Rattle.vc_dtord.specs.Seeking.{matches}
use Rattle.vc_dict.specs.Listed.{holders_of}
use Rattle.vc_dict.specs.Stands.{IsDict, IsIn, IsKept, IsMember, Stands}
use Rattle.vc_dict.specs.declared.dict.Dict.{Dict}
use Rattle.vc_dict.proofs.OwnLemmas.{holder-there, holders-distinct}
use Rattle.vc_best.specs.Cells.{cells_in}
use Rattle.vc_objects.specs.Parts.{IsWhole, object_of}
use Rattle.vc_objects.proofs.Owning.{each-object}
use Rattle.vc_paths.specs.Layers.{Layer, bytes_there, place_before, place_behind, place_in, place_last_like}
use Rattle.vc_algebra.proofs.AtHolders.{before-place, behind-place, bytes-here, first-place, holder-here, last-passing, last-place, place-stands}
use Rattle.vc_store.specs.Stores.Alike.{HasLayer, layers_of}
use Rattle.vc_store.specs.Stores.AlikeLaws.{objects-there, whole-there}
use Rattle.vc_algebra.specs.Sides.{sought_holder, sought_place}
use Rattle.vc_store.specs.Stores.Stores.{dict_at, dicts_of, kinds_of, rules_at}
use Rattle.vc_algebra.specs.declared.side.Side.{Side}
use Rattle.vc_store.specs.declared.stores.store.Store.{Store}
use Rattle.vc_store.proofs.Here.{below-there, rules-here}

module _ {D : Type 0} {I : Type 0} {V : I → Type 0} (rules_by : D → Rules) (s : Store D I V) (like d : ℕ) (has : HasLayer rules_by s like d) where
  -- the kind that is read has the rules of the layers
  pub kind-told : (k : D) → k ≡ get_or (kinds_of s) d k → rules_by k ≡ rules_at rules_by s like
  kind-told k kind = sym (rules-here rules_by s d has.is_open (below-there (dicts_of s) d has.there) k kind) ∙ has.rules

  module _ (e : Dict) (at : dict_at s d ≡ Some e) where
    abbrev b : Blocks
    b = cells_in s.best

    abbrev xs : List ℕ
    xs = holders_of e b

    abbrev rules : Rules
    rules = rules_at rules_by s like

    abbrev layer : Layer
    layer = layers_of rules_by s like d

    pub whole : IsWhole rules e b
    whole = whole-there rules_by s like d has e at

    objects : layer.objects ≡ map (object_of b) xs
    objects = objects-there rules_by s like d has e at

    pub is-kept : IsKept e b
    is-kept = record { rules = rules; is = record { holders = xs; stands = whole.stands } }

    pub first-told : (o : Option ℕ) → ((r : Rules) (ys : List ℕ) → Stands r e b ys → o ≡ first_in ys) → o ≡ place_in (first_of layer.objects)
    first-told o gives = gives rules xs whole.stands ∙ sym (first-place b xs) ∙ ap (λ os. place_in (first_of os)) (sym objects)

    pub last-told : (o : Option ℕ) → ((r : Rules) (ys : List ℕ) → Stands r e b ys → o ≡ last_in ys) → o ≡ place_in (last_of layer.objects)
    last-told o gives = gives rules xs whole.stands ∙ sym (last-place b xs) ∙ ap (λ os. place_in (last_of os)) (sym objects)

    -- by a kind that has these rules
    module _ (r : Rules) (same : r ≡ rules) where
      pub stands-by : Stands r e b xs
      stands-by = subst (λ z. Stands z e b xs) (sym same) whole.stands

      pub is-dict : IsDict r e b
      is-dict = record { holders = xs; stands = stands-by }

      pub sought-told : (side : Side) (key : List ℕ) (o : Option ℕ) → ((ys : List ℕ) → Stands r e b ys → o ≡ sought_holder side r b key ys) → o ≡ sought_place side layer key
      sought-told side key o gives =
          gives xs stands-by
          ∙ ap (λ z. sought_holder side z b key xs) same
          ∙ sym (place-stands b side layer key xs objects)

    module _ (a : ℕ) (there : IsSome (bytes_there a layer.objects)) where
      pub within : contains xs a ≡ true
      within = holder-here b a xs (subst (λ os. IsSome (bytes_there a os)) objects there)

      pub is-in : IsIn e b a
      is-in = record { rules = rules; is = record { holders = xs; stands = whole.stands; within = within } }

      pub has-body : HasBytes b a 32
      has-body = let h = holder-there rules e b xs a whole.stands within in record { there = h.there; enough = omega (arith, h.enough) }

      pub bytes-told : bytes_there a layer.objects ≡ Some (object_at b a)
      bytes-told = ap (bytes_there a) objects ∙ bytes-here b a xs within

      -- it has at most 1,024 bytes
      pub object-within : length (object_at b a) ≤ 1024
      object-within = (each-object IsObject b xs whole.objects a within).most

      pub next-told : (o : Option ℕ) → ((r : Rules) (ys : List ℕ) → Stands r e b ys → o ≡ next_in a ys) → o ≡ place_behind a layer.objects
      next-told o gives = gives rules xs whole.stands ∙ sym (behind-place b a xs (holders-distinct rules e b xs whole.stands)) ∙ ap (place_behind a) (sym objects)

      pub prev-told : (o : Option ℕ) → ((r : Rules) (ys : List ℕ) → Stands r e b ys → o ≡ previous_in None a ys) → o ≡ place_before a layer.objects
      prev-told o gives = gives rules xs whole.stands ∙ sym (before-place b a xs) ∙ ap (place_before a) (sym objects)

      module _ (r : Rules) (same : r ≡ rules) where
        pub is-member : IsMember r e b a
        is-member = record { holders = xs; stands = stands-by r same; within = within }

        -- the last that matches one
        pub like-told : (bytes : List ℕ) (o : Option ℕ) → bytes_there a layer.objects ≡ Some bytes → ((ys : List ℕ) → Stands r e b ys → o ≡ last_of (filter (matches r b a) ys)) → o ≡ place_last_like rules bytes layer.objects
        like-told bytes o is gives =
            let one : object_at b a ≡ bytes = same_Some (object_at b a) bytes (sym bytes-told ∙ is) in
            gives xs (stands-by r same)
            ∙ ap (λ z. last_of (filter (matches z b a) xs)) same
            ∙ ap (λ z. last_of (filter (λ x. is_match rules z (object_at b x)) xs)) one
            ∙ sym (last-passing b layer (λ o. is_match rules bytes o.bytes) xs objects)
