-- What freeing gives, by its method: the region without the block, or the refusal of a last region.
use Rattle.vc_base.proofs.Common.{◌≡◌, ℕ, true, false, cond, ◌⊎◌, Some, None, Option, sym, refl, ap, ◌∙◌, inl, inr, without_block_at, if_latest, latest, Block, Layout, is_at, Done, NotLast, Outcome, Refused, done_as, pool_free}
use Rattle.vc_model.specs.Outcome.{NoSegment}
use Rattle.vc_audit.specs.Debug.{debug_free}
use Rattle.vc_audit.specs.Profile.{profile_free}
use Rattle.vc_region.specs.Region.{OfBest, OfPool, OfLast, OfDebug, OfProfile, Region, keeps_freed, region_free, segments_of}

-- the region without the block at a place
abbrev pub without_block_in : {L : Type 0} → Region L → ℕ × ℕ → Region L
without_block_in (OfBest l) at = OfBest (without_block_at l at)
without_block_in (OfPool p) at = OfPool (pool_free p at)
without_block_in (OfLast l) at = OfLast (without_block_at l at)
without_block_in (OfDebug d) at = OfDebug (debug_free d at)
without_block_in (OfProfile p) at = OfProfile (profile_free p at)

abbrev FreedOrNot : {L : Type 0} → Outcome (Region L) → Region L → Type 0
FreedOrNot o r = (o ≡ Done r) ⊎ (o ≡ Refused NotLast)

latest-freed : {L : Type 0} (l : Layout L) (at : ℕ × ℕ) (o : Option (Block L)) → FreedOrNot (done_as OfLast (if_latest at (λ b. Done (without_block_at l at)) o)) (OfLast (without_block_at l at))
latest-freed l at None = inr refl
latest-freed l at (Some b) =
    elim (is_at at b) as (λ v. FreedOrNot (done_as OfLast (cond v (Done (without_block_at l at)) (Refused NotLast))) (OfLast (without_block_at l at)))
    [ true ↦ inl refl | false ↦ inr refl ]

freed-or-not : {L : Type 0} (r : Region L) (at : ℕ × ℕ) → FreedOrNot (region_free r at) (without_block_in r at)
freed-or-not (OfLast l) at = latest-freed l at (latest l)
freed-or-not r at = inl refl

-- freeing asks for no segment
pub free-granted : {L : Type 0} (r : Region L) (at : ℕ × ℕ) → region_free r at ≡ Refused NoSegment → ⊥
free-granted {L = L} r at e = by (freed-or-not r at)
  where
    by : FreedOrNot (region_free r at) (without_block_in r at) → ⊥
    by (inl done) = absurd cc
    by (inr refused) = absurd cc

abbrev done-region : {L : Type 0} → Region L → Outcome (Region L) → Region L
done-region r (Done q) = q
done-region r (Refused why) = r

-- where the block goes, the region is the one without it
pub freed-region : {L : Type 0} (r : Region L) (at : ℕ × ℕ) (r' : Region L) → region_free r at ≡ Done r' → r' ≡ without_block_in r at
freed-region {L = L} r at r' e = by (freed-or-not r at)
  where
    by : FreedOrNot (region_free r at) (without_block_in r at) → r' ≡ without_block_in r at
    by (inl done) = ap (done-region r) (sym e ∙ done)
    by (inr refused) = absurd cc

without-segments : {L : Type 0} (r : Region L) (at : ℕ × ℕ) → segments_of (without_block_in r at) ≡ segments_of r
without-segments (OfBest l) at = refl
without-segments r at = refl

without-keeps : {L : Type 0} (r : Region L) (at : ℕ × ℕ) → keeps_freed (without_block_in r at) ≡ keeps_freed r
without-keeps (OfBest l) at = refl
without-keeps r at = refl

-- the segments stay
pub free-segments : {L : Type 0} (r r' : Region L) (at : ℕ × ℕ) → region_free r at ≡ Done r' → segments_of r' ≡ segments_of r
free-segments r r' at e = ap (λ q. segments_of q) (freed-region r at r' e) ∙ without-segments r at

-- and so does whether freed names are kept
pub free-keeps : {L : Type 0} (r : Region L) (at : ℕ × ℕ) (r' : Region L) → region_free r at ≡ Done r' → keeps_freed r' ≡ keeps_freed r
free-keeps r at r' e = ap (λ q. keeps_freed q) (freed-region r at r' e) ∙ without-keeps r at
