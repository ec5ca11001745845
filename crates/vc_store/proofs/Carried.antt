-- What layers keep over calls, one after another.
use Rattle.vc_base.proofs.Common.{◌≡◌, ℕ, List, [], ◌∷◌, length, Option, Some, None, IfSome, IfOk, OnErr, Result, Ok, Err, option_map, slice_get, refl, sym, ap, ◌∙◌, subst, inl, inr, arith, eqb_tells, none-some, same_Some}
use Rattle.vc_base.specs.declared.addr.Addr.{Addr}
use Rattle.vc_dtdisc.specs.Rules.{Rules}
use Rattle.vc_paths.specs.Layers.{Layered}
use Rattle.vc_paths.specs.Ordered.{IsStanding, StandsInLike}
use Rattle.vc_store.specs.Stores.Alike.{AreAlike, HasLayer, HaveRules, Keeps}
use Rattle.vc_store.specs.Stores.AlikeLaws.{kind-there}
use Rattle.vc_algebra.specs.InRegion.{rules_or}
use Rattle.vc_store.specs.Stores.Stores.{AllStay, HasDict, IsOpen, OthersStay, kind_at, kinds_of, numbers_of, rules_at}
use Rattle.vc_store.specs.declared.stores.store.Store.{Store}
use Rattle.vc_store.proofs.Looked.{layers-same, rules-kept}
use Rattle.vc_model.specs.Discipline.{Discipline}

-- an object that stands at a place is one of its own dictionary's kind
pub stands-alone : (all : Layered) (d : ℕ) (r : Option (ℕ × Addr)) → IsStanding all d r → IfSome r (λ p. StandsInLike all p.0 p)
stands-alone all d None s = tt
stands-alone all d (Some p) s = record { there = s.there; kind = refl; object = s.object }

module _ {D : Type 0} {I : Type 0} {V : I → Type 0} {rules_by : D → Rules} where
  pub rules-stay : (s t : Store D I V) (rules : Rules) → kinds_of t ≡ kinds_of s → HaveRules rules_by s rules → HaveRules rules_by t rules
  rules-stay s t rules same all n kind at = all n kind (sym (ap (λ ks. slice_get ks n) same) ∙ at)

  pub alike-kept : {s t : Store D I V} (like like' : ℕ) → like' ≡ like → Keeps rules_by s t → AreAlike rules_by s like → AreAlike rules_by t like'
  alike-kept {s} {t} like like' same k a = record {
    layer = subst (λ n. HasLayer rules_by t like' n) (sym same) ((layers-same k like like' same).has like a.layer);
    kinds = λ n kind at. rules-stay s t (rules_at rules_by s like) k.kinds a.kinds n kind at ∙ sym (rules-kept k like) ∙ sym (ap (rules_at rules_by t) same);
  }

  -- where each kind has some rules, they are those of one of the dictionaries
  pub alike-by : (s : Store D I V) (like : ℕ) (rules : Rules) (disc : Discipline) → IsOpen rules_by s disc → HasDict s like → HaveRules rules_by s rules → AreAlike rules_by s like
  alike-by s like rules disc is there all =
      let has : HasLayer rules_by s like like = record { disc = disc; is_open = is; there = there; rules = refl } in
      let kind = kind-there rules_by s like like has in
      record {
        layer = has;
        kinds = λ n k at. all n k at ∙ sym (ap (λ o. rules_or (option_map rules_by o)) kind.1 ∙ all like kind.0 kind.1);
      }

  -- a store with no number has no kind
  pub none-there : (s : Store D I V) (rules : Rules) (disc : Discipline) → IsOpen rules_by s disc → numbers_of s ≡ 0 → HaveRules rules_by s rules
  none-there s rules disc is none n k at = absurd (nothing (kinds_of s) n k (is.kinds ∙ none) at)
    where
      nothing : (ks : List D) (i : ℕ) (k : D) → length ks ≡ 0 → slice_get ks i ≡ Some k → ⊥
      nothing [] i k e at = none-some k at
      nothing (x ∷ xs) i k e at = omega (arith, e)

  -- with one more of the rules
  pub rules-more : (s t : Store D I V) (rules : Rules) (n : ℕ) (kind : D) → rules_by kind ≡ rules → kind_at t n ≡ Some kind → OthersStay s t n → HaveRules rules_by s rules → HaveRules rules_by t rules
  rules-more s t rules n kind is here others all m k at = elim (eqb_tells m n) as (λ _. rules_by k ≡ rules) [
    | inl same ↦ ap rules_by (sym (same_Some kind k (sym here ∙ ap (kind_at t) (sym same.1) ∙ at))) ∙ is
    | inr apart ↦ all m k (sym (others.kinds m apart.1) ∙ at)
  ]

  pub rules-after : {E : Type 0} (r : Result ℕ E) (s t : Store D I V) (rules : Rules) (kind : D) → rules_by kind ≡ rules → IfOk r (λ n. kind_at t n ≡ Some kind) → IfOk r (λ n. OthersStay s t n) → OnErr r (AllStay s t) → HaveRules rules_by s rules → HaveRules rules_by t rules
  rules-after (Ok n) s t rules kind is here others same all = rules-more s t rules n kind is here others all
  rules-after (Err e) s t rules kind is here others same all = rules-stay s t rules same.kinds all
