-- Pools that are opened.
use Rattle.vc_base.proofs.Common.{◌≡◌, ◌+◌, List, [], ◌∷◌, ◌++◌, All, length, replicate, refl, sym, ap, ap₂, ◌∙◌, subst, append-nil, append_assoc, arith, All-head, All-tail, All-cons, All-nil, length-append, length-map, map_push, Discipline, Option}
use Rattle.vc_model.specs.Pool.{empty_pool}
use Rattle.vc_pool.specs.Parts.{pool_of}
use Rattle.vc_pool.specs.declared.pool.Pool.{Pool}
use Rattle.vc_ways.specs.Answer.{HasOwnSegmentsOut, Holding}
use Rattle.vc_ways.specs.Lends.{HasOpened, Lends, Opens}
use Rattle.vc_ways.specs.PoolParts.{holding_in, holdings, pools_of}
use Rattle.vc_ways.specs.Settled.{AreTaken}
use Rattle.vc_ways.proofs.Loans.{are-taken}

-- with no segment there is none to be lent
pub lent-none : (h : Holding) → h.segments ≡ [] → HasOwnSegmentsOut h
lent-none h e = (h.disc.out, sym (ap (λ ss. h.disc.out ++ ss) e ∙ append-nil h.disc.out))

module _ {I : Type 0} {V : I → Type 0} (meaning : (x : I) × V x → Discipline) where
  pub empty-lent : (pools : List (Pool I V)) → All (λ p. pool_of p ≡ empty_pool) pools → All HasOwnSegmentsOut (holdings meaning pools)
  empty-lent [] h = All-nil HasOwnSegmentsOut
  empty-lent (p ∷ pools) h =
      All-cons HasOwnSegmentsOut (holding_in meaning p) (holdings meaning pools) (lent-none (holding_in meaning p) (ap (λ q. q.layout.segments) (All-head (λ p. pool_of p ≡ empty_pool) p pools h)))
      (empty-lent pools (All-tail (λ p. pool_of p ≡ empty_pool) p pools h))

  pub empty-pools : (pools : List (Pool I V)) → All (λ p. pool_of p ≡ empty_pool) pools → pools_of pools ≡ replicate (length pools) empty_pool
  empty-pools [] h = refl
  empty-pools (p ∷ pools) h =
      ap₂ (λ q qs. q ∷ qs) (All-head (λ p. pool_of p ≡ empty_pool) p pools h) (empty-pools pools (All-tail (λ p. pool_of p ≡ empty_pool) p pools h))

  -- how many are lent
  pub lent-size : (hs : List Holding) (pools : List (Pool I V)) → length hs ≡ 2 → length (hs ++ holdings meaning pools) ≡ length pools + 2
  lent-size hs pools two = omega (arith, length-append hs (holdings meaning pools), length-map pools (holding_in meaning), two)

  -- one more
  pub lent-push : (hs : List Holding) (pools : List (Pool I V)) (p : Pool I V) (old new : List (Option Discipline)) → Opens ((hs ++ holdings meaning pools) ++ holding_in meaning p ∷ []) old new → Opens (hs ++ holdings meaning (pools ++ p ∷ [])) old new
  lent-push hs pools p old new opens =
      subst (λ gs. Opens gs old new) (append_assoc hs (holdings meaning pools) (holding_in meaning p ∷ []) ∙ ap (λ gs. hs ++ gs) (sym (map_push (holding_in meaning) pools p))) opens

  pub pools-taken : (pools : List (Pool I V)) (before after : List (Option Discipline)) → HasOpened 2 before → ((old : List (Option Discipline)) (hs : List Holding) → length hs ≡ 2 → Opens hs old before → Lends (hs ++ holdings meaning pools) old after) → AreTaken (length pools + 2) after
  pools-taken pools before after lent lends =
      are-taken (lent.1.0 ++ holdings meaning pools) lent.0 after (length pools + 2) (lent-size lent.1.0 pools lent.1.1.0) (lends lent.0 lent.1.0 lent.1.1.0 lent.1.1.1)
