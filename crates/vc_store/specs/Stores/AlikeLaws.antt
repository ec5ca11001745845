-- The dictionaries of a store that have the rules of one of them keep the laws of layers, and what stays over one call after another.
use Rattle.std.proofs.Common.{◌≡◌, ℕ, zero, suc, ◌<◌, true, List, [], ◌∷◌, Option, Some, None, IsSome, option_map, length, map, refl, sym, ap, ◌∙◌, subst, true≢false, arith}
use Rattle.std.specs.Prelude.{slice_get}
use Rattle.vc_base.specs.Holders.{AreDistinct}
use Rattle.vc_base.specs.Methods.{is_ordered}
use Rattle.vc_dtdisc.specs.Objects.{IsSorted, Object, bytes_of}
use Rattle.vc_dtdisc.specs.Rules.{AreLawful, Rules}
use Rattle.vc_dtdisc.proofs.ObjectsLemmas.{IsSorted-map}
use Rattle.vc_dict.specs.Listed.{holders_of}
use Rattle.vc_dict.specs.declared.dict.Dict.{Dict}
use Rattle.vc_dict.proofs.HeadLemmas.{as_ord}
use Rattle.vc_dict.proofs.OwnLemmas.{holders-distinct}
use Rattle.vc_best.specs.CellLaws.{stays-after, stays-same}
use Rattle.vc_best.specs.Cells.{cells_in}
use Rattle.vc_objects.specs.Parts.{IsWhole, dictionary_in, object_of}
use Rattle.vc_objects.proofs.Mapped.{addresses-mapped}
use Rattle.vc_paths.specs.Layers.{AreLayers}
use Rattle.vc_algebra.specs.RegionLaws.{at-below}
use Rattle.vc_store.specs.Stores.Alike.{HasLayer, Keeps, dictionary_or, layered_of, layers_of}
use Rattle.vc_algebra.specs.InRegion.{rules_or}
use Rattle.vc_store.specs.Stores.Stores.{dict_at, dicts_of, joined, kind_at, kinds_of, rules_at}
use Rattle.vc_store.specs.declared.stores.store.Store.{Store}

-- what is there, where something is
pub there-is : {A : Type 0} (o : Option A) → IsSome o → (x : A) × (o ≡ Some x)
there-is None h = absurd (true≢false (sym h))
there-is (Some x) h = (x, refl)

-- a number that has something is one of a list's
pub below-there : {A : Type 0} (xs : List (Option A)) (n : ℕ) → IsSome (joined (slice_get xs n)) → n < length xs
below-there [] n h = absurd (true≢false (sym h))
below-there (x ∷ xs) zero h = omega arith
below-there (x ∷ xs) (suc n) h = let rest = below-there xs n h in omega (arith, rest)

module _ {D : Type 0} {I : Type 0} {V : I → Type 0} (rules_by : D → Rules) (s : Store D I V) (like d : ℕ) (has : HasLayer rules_by s like d) where
  -- the dictionary of a number, by the rules of the layers
  module _ (e : Dict) (at : dict_at s d ≡ Some e) where
    pub whole-there : IsWhole (rules_at rules_by s like) e (cells_in s.best)
    whole-there = subst (λ r. IsWhole r e (cells_in s.best)) has.rules (has.is_open.whole d e at)

    pub method-there : (layers_of rules_by s like d).method ≡ e.method
    method-there = ap (λ o. (dictionary_or (option_map (λ z. dictionary_in z s.best) o)).method) at

    pub objects-there : (layers_of rules_by s like d).objects ≡ map (object_of (cells_in s.best)) (holders_of e (cells_in s.best))
    objects-there = ap (λ o. (dictionary_or (option_map (λ z. dictionary_in z s.best) o)).objects) at

    places-distinct : AreDistinct (map (λ o. o.at) (layers_of rules_by s like d).objects)
    places-distinct =
        let b = cells_in s.best in
        let xs = holders_of e b in
        subst (λ (os : List Object). AreDistinct (map (λ o. o.at) os)) (sym objects-there)
        (subst AreDistinct (sym (addresses-mapped b xs)) (holders-distinct (rules_at rules_by s like) e b xs whole-there.stands))

    objects-sorted : is_ordered (layers_of rules_by s like d).method ≡ true → IsSorted bytes_of (rules_at rules_by s like) (layers_of rules_by s like d).objects
    objects-sorted ordered =
        let b = cells_in s.best in
        let rules = rules_at rules_by s like in
        let xs = holders_of e b in
        subst (IsSorted bytes_of rules) (sym objects-there)
        (subst (λ T. T) (sym (IsSorted-map (object_of b) bytes_of rules xs)) (as_ord rules e b xs (ap is_ordered (sym method-there) ∙ ordered) whole-there.stands).1.sorted)

  -- its kind
  pub kind-there : (k : D) × (kind_at s d ≡ Some k)
  kind-there = at-below (kinds_of s) d (subst (λ c. d < c) (sym has.is_open.kinds) (below-there (dicts_of s) d has.there))

  rules-lawful : ((k : D) → AreLawful (rules_by k)) → AreLawful (rules_at rules_by s like)
  rules-lawful lawful =
      subst AreLawful (sym (ap (λ o. rules_or (option_map rules_by o)) kind-there.1) ∙ has.rules) (lawful kind-there.0)

module _ {D : Type 0} {I : Type 0} {V : I → Type 0} (rules_by : D → Rules) where
  pub are-layers : ((k : D) → AreLawful (rules_by k)) → (s : Store D I V) (like : ℕ) → AreLayers (layered_of rules_by s like)
  are-layers lawful s like = record {
    distinct = λ d has. let e = there-is (dict_at s d) has.there in places-distinct rules_by s like d has e.0 e.1;
    sorted = λ d has. let e = there-is (dict_at s d) has.there in objects-sorted rules_by s like d has e.0 e.1;
    kinds = λ d e hd he same. refl;
    lawful = λ d has. rules-lawful rules_by s like d has lawful;
  }

  pub keeps-same : (s : Store D I V) → Keeps rules_by s s
  keeps-same s = record { region = stays-same s.best; numbers = refl; kinds = refl; dicts = λ n. refl; is_open = λ disc is. is }

pub keeps-after : {D : Type 0} {I : Type 0} {V : I → Type 0} {rules_by : D → Rules} {a b c : Store D I V} → Keeps rules_by a b → Keeps rules_by b c → Keeps rules_by a c
keeps-after {a = a} {b = b} {c = c} p q = record {
  region = stays-after a.best b.best c.best p.region q.region;
  numbers = q.numbers ∙ p.numbers;
  kinds = q.kinds ∙ p.kinds;
  dicts = λ n. q.dicts n ∙ p.dicts n;
  is_open = λ disc is. q.is_open disc (p.is_open disc is);
}
