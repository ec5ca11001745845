-- The terms of disciplines that are lent, and that are kept.
use Rattle.vc_base.proofs.Common.{◌≡◌, List, [], ◌∷◌, Bool, Option, Some, None, map, length, take, refl, ap, ap₂, ◌∙◌, Discipline, length-map}
use Rattle.vc_ways.specs.Answer.{Holding, KeepsWays}
use Rattle.vc_ways.specs.Lends.{Lends}
use Rattle.vc_ways.specs.PoolParts.{holding_in, holdings, terms_in}
use Rattle.vc_ways.specs.RegionsParts.{all_holdings, terms_of}
use Rattle.vc_ways.specs.declared.regions.Regions.{Regions}
use Rattle.vc_compare.specs.Terms.{place_terms, terms_on}

abbrev Slots : Type 0
Slots = List (Option Discipline)

kept-terms : (went : Bool) (hs gs : List Holding) → KeepsWays went hs gs → terms_in gs ≡ terms_in hs
kept-terms went [] [] kept = refl
kept-terms went [] (g ∷ gs) kept = absurd kept
kept-terms went (h ∷ hs) [] kept = absurd kept
kept-terms went (h ∷ hs) (g ∷ gs) kept = ap₂ (λ t ts. t ∷ ts) kept.0.kept.terms (kept-terms went hs gs kept.1)

lent-terms : (hs : List Holding) (old new : Slots) → Lends hs old new → terms_in hs ≡ map place_terms (take (length hs) old)
lent-terms [] old new lends = refl
lent-terms (h ∷ hs) [] new lends = absurd lends
lent-terms (h ∷ hs) (None ∷ old) new lends = absurd lends
lent-terms (h ∷ hs) (Some d ∷ old) [] lends = absurd lends
lent-terms (h ∷ hs) (Some d ∷ old) (Some e ∷ new) lends = absurd lends
lent-terms (h ∷ hs) (Some d ∷ old) (None ∷ new) lends = ap₂ (λ t ts. t ∷ ts) lends.0.kept.terms (lent-terms hs old new lends.1)

module _ {I : Type 0} {V : I → Type 0} (meaning : (x : I) × V x → Discipline) where
  -- the terms of all ways stay
  pub regions-terms : (went : Bool) (old new : Regions I V) → KeepsWays went (all_holdings meaning old) (all_holdings meaning new) → terms_of meaning new ≡ terms_of meaning old
  regions-terms went old new kept =
      let first = kept.0.kept.terms in
      let second = kept.1.0.kept.terms in
      let pools = kept-terms went (holdings meaning old.pools.items) (holdings meaning new.pools.items) kept.1.1 in
      λ i. record { best = first i; last = second i; pools = pools i }

  -- and are those of the places from which they are lent
  pub opened-terms : (r : Regions I V) (old new : Slots) → length r.pools.items ≡ 20 → Lends (all_holdings meaning r) old new → terms_of meaning r ≡ terms_on old
  opened-terms r [] new many lends = absurd lends
  opened-terms r (None ∷ old) new many lends = absurd lends
  opened-terms r (Some d ∷ old) [] many lends = absurd lends
  opened-terms r (Some d ∷ old) (Some e ∷ new) many lends = absurd lends
  opened-terms r (Some d ∷ []) (None ∷ new) many lends = absurd lends.1
  opened-terms r (Some d ∷ None ∷ old) (None ∷ new) many lends = absurd lends.1
  opened-terms r (Some d ∷ Some e ∷ old) (None ∷ []) many lends = absurd lends.1
  opened-terms r (Some d ∷ Some e ∷ old) (None ∷ Some y ∷ new) many lends = absurd lends.1
  opened-terms r (Some d ∷ Some e ∷ old) (None ∷ None ∷ new) many lends =
      let first = lends.0.kept.terms in
      let second = lends.1.0.kept.terms in
      let pools = lent-terms (holdings meaning r.pools.items) old new lends.1.1 ∙ ap (λ n. map place_terms (take n old)) (length-map r.pools.items (holding_in meaning) ∙ many) in
      λ i. record { best = first i; last = second i; pools = pools i }
