-- Which dictionaries of a store a path may have, as it is tested number by number.
use Rattle.vc_base.proofs.Common.{◌≡◌, ℕ, ◌<◌, Bool, true, List, [], ◌∷◌, Option, Some, None, IsSome, option_map, list_all, refl, sym, ap, ◌∙◌, subst, and_from, and_parts, eq-eqb, AllByRecursion, method_number}
use Rattle.vc_base.proofs.Methods.{same-method}
use Rattle.vc_base.specs.declared.dict_method.DictMethod.{DictMethod}
use Rattle.vc_dtdisc.specs.Rules.{Rules}
use Rattle.vc_dict.specs.declared.dict.Dict.{Dict}
use Rattle.vc_paths.specs.Path.{IsAlike}
use Rattle.vc_algebra.specs.RegionLaws.{at-below}
use Rattle.vc_store.specs.Stores.Alike.{HasLayer, HaveRules, is_by, is_of, layered_of, layers_of}
use Rattle.vc_store.specs.Stores.AlikeLaws.{below-there, method-there, there-is}
use Rattle.vc_algebra.specs.InRegion.{rules_or}
use Rattle.vc_store.specs.Stores.Stores.{HasDict, dict_at, dicts_of, kinds_of, rules_at}
use Rattle.vc_store.specs.declared.stores.store.Store.{Store}

module _ {D : Type 0} {I : Type 0} {V : I → Type 0} (rules_by : D → Rules) (s : Store D I V) (like : ℕ) (is : HasLayer rules_by s like like) (all : HaveRules rules_by s (rules_at rules_by s like)) where
  -- each dictionary is one of the layers
  pub layer-there : (e : ℕ) → HasDict s e → HasLayer rules_by s like e
  layer-there e there =
      let kind = at-below (kinds_of s) e (subst (λ c. e < c) (sym is.is_open.kinds) (below-there (dicts_of s) e there)) in
      record {
        disc = is.disc;
        is_open = is.is_open;
        there = there;
        rules = ap (λ o. rules_or (option_map rules_by o)) kind.1 ∙ all e kind.0 kind.1;
      }

  module _ (d : ℕ) (method : DictMethod) (same : method ≡ (layers_of rules_by s like d).method) where
    abbrev test : ℕ → Bool
    test = is_of s method

    by-there : (o : Option Dict) → is_by method o ≡ true → IsSome o
    by-there None h = h
    by-there (Some e) h = refl

    by-method : (e : Dict) (o : Option Dict) → o ≡ Some e → is_by method o ≡ true → e.method ≡ method
    by-method e o found h = same-method e.method method (sym (ap (is_by method) found) ∙ h)

    like-alike : (e : ℕ) → test e ≡ true → IsAlike (layered_of rules_by s like) d e
    like-alike e h =
        let there = layer-there e (by-there (dict_at s e) h) in
        let f = there-is (dict_at s e) there.there in
        record {
          there = there;
          method = method-there rules_by s like e there f.0 f.1 ∙ by-method f.0 (dict_at s e) f.1 h ∙ same;
          kind = refl;
        }

    alike-like : (e : ℕ) → IsAlike (layered_of rules_by s like) d e → test e ≡ true
    alike-like e a =
        let f = there-is (dict_at s e) a.there.there in
        let equal : f.0.method ≡ method = sym (method-there rules_by s like e a.there f.0 f.1) ∙ a.method ∙ sym same in
        ap (is_by method) f.1 ∙ eq-eqb (method_number f.0.method) (method_number method) (ap method_number equal)

    pub all-alike : (es : List ℕ) → list_all test es ≡ true → AllByRecursion (IsAlike (layered_of rules_by s like) d) es
    all-alike [] h = tt
    all-alike (e ∷ es) h =
        let parts = and_parts (test e) (list_all test es) h in
        (like-alike e parts.0, all-alike es parts.1)

    pub all-like : (es : List ℕ) → AllByRecursion (IsAlike (layered_of rules_by s like) d) es → list_all test es ≡ true
    all-like [] h = refl
    all-like (e ∷ es) h = and_from (test e) (list_all test es) (alike-like e h.0) (all-like es h.1)
