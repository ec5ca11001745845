-- What the type keeps is a proposition.
use Rattle.vc_base.proofs.Common.{ℕ, List, [], ◌∷◌, le_prop, ∥∥₁_elim, ∥∥₁_map, ℕ_set, Block, address_of, IsSound}
use Rattle.vc_base.proofs.Sets.{block-set}
use Rattle.vc_seg.specs.Segment.{Bytes}
use Rattle.vc_last.specs.Head.{HasHead}
use Rattle.vc_last.specs.Chain.{IsChain, IsLast, IsLastOf}
use Rattle.vc_last.specs.Read.{layout_by}
use Rattle.vc_last.proofs.Kept.{sound-by}

head-prop : (segs : List Bytes) (b : Block ℕ) → IsProp (HasHead segs b)
head-prop segs b = hlevel (ℕ_set, le_prop, block-set)

chain-prop : (segs : List Bytes) (p q : ℕ) (bs : List (Block ℕ)) → IsProp (IsChain segs p bs q)
chain-prop segs p q [] = hlevel (ℕ_set)
chain-prop segs p q (b ∷ bs) = let rest = chain-prop segs (address_of b) q bs in hlevel (head-prop, ℕ_set, rest)

pub last-prop : (segs : List Bytes) (q : ℕ) (bs : List (Block ℕ)) → IsProp (IsLastOf segs q bs)
last-prop segs q bs = hlevel (chain-prop, ℕ_set, le_prop)

-- so it is had
pub have : (segs : List Bytes) (q : ℕ) → ∥ IsLast segs q ∥₁ → IsLast segs q
have segs q h = ∥∥₁_elim h (last-prop segs q _) (λ k. k)

pub have-sound : (segs : List Bytes) (q : ℕ) → ∥ IsLast segs q ∥₁ → ∥ IsSound (layout_by segs q) ∥₁
have-sound segs q h = ∥∥₁_map h (sound-by segs q)
