-- Why no dictionary is opened, by four tests.
use Rattle.vc_base.proofs.Common.{◌≡◌, ℕ, Bool, true, false, cond, not, List, length, nat_le, Some, None, Option, sym, ap, ◌∙◌, list_any}
use Rattle.vc_region.specs.Region.{is_best}
use Rattle.vc_script.specs.declared.refusal.Refusal.{Refusal}
use Rattle.vc_script.specs.declared.refusal.Refusal.TheVariants as why
use Rattle.vc_steps.specs.Dicts.{dict_limit, dict_refused, is_kind}
use Rattle.vc_views.specs.Views.{is_dict}
use Rattle.vc_commands.specs.Home.{Home}
use Rattle.vc_steps.specs.State.{State}

abbrev chosen : Bool → Bool → Bool → Bool → Option Refusal
chosen exists kind best full =
    cond exists (Some why.DictionaryExists) (cond (not kind) (Some why.NoSuchKind) (cond (not best) (Some why.WrongMethod) (cond full (Some why.TooManyDictionaries) None)))

module _ (s : State) (h : Home) (d : List ℕ) (k : ℕ) where
  abbrev exists : Bool
  exists = list_any (is_dict d) s.dicts

  abbrev full : Bool
  full = nat_le dict_limit (length s.dicts)

  pub refused-exists : exists ≡ true → Some why.DictionaryExists ≡ dict_refused s h d k
  refused-exists e = sym (ap (λ b. chosen b (is_kind s k) (is_best h.region) full) e)

  module _ (new : exists ≡ false) where
    pub refused-kind : is_kind s k ≡ false → Some why.NoSuchKind ≡ dict_refused s h d k
    refused-kind e =
        sym
        (ap (λ b. chosen b (is_kind s k) (is_best h.region) full) new ∙ ap (λ b. chosen false b (is_best h.region) full) e)

    module _ (kind : is_kind s k ≡ true) where
      pub refused-method : is_best h.region ≡ false → Some why.WrongMethod ≡ dict_refused s h d k
      refused-method e =
          sym
          (ap (λ b. chosen b (is_kind s k) (is_best h.region) full) new
          ∙ (ap (λ b. chosen false b (is_best h.region) full) kind ∙ ap (λ b. chosen false true b full) e))

      module _ (best : is_best h.region ≡ true) where
        pub refused-by : (v : Bool) → full ≡ v → cond v (Some why.TooManyDictionaries) None ≡ dict_refused s h d k
        refused-by v e =
            sym
            (ap (λ b. chosen b (is_kind s k) (is_best h.region) full) new
            ∙ (ap (λ b. chosen false b (is_best h.region) full) kind
            ∙ (ap (λ b. chosen false true b full) best ∙ ap (λ b. chosen false true true b) e)))
