-- What is always true of a pool's segments is a proposition.
use Rattle.vc_base.proofs.Common.{ℕ, List, [], ◌∷◌, refl, le_prop, ∥∥₁_elim, ℕ_set}
use Rattle.vc_pool.specs.Cells.Cells.{Cells}
use Rattle.vc_pool.specs.Cells.Freed.{IsFreedChain, freed_link}
use Rattle.vc_pool.specs.Cells.Kept.{AreCellular, IsFront, IsPool, IsPoolOf}

all-prop : (element : ℕ) (segs : List Cells) → IsProp (AreCellular element segs)
all-prop element segs = hlevel (le_prop, ℕ_set)

front-prop : (segs : List Cells) → IsProp (IsFront segs)
front-prop [] = λ x y. refl
front-prop (s ∷ ss) = let rest = front-prop ss in hlevel (ℕ_set, rest)

chain-prop : (segs : List Cells) (a : ℕ) (ps : List (ℕ × ℕ)) → IsProp (IsFreedChain segs a ps)
chain-prop segs a [] = hlevel (ℕ_set)
chain-prop segs a (p ∷ ps) = let rest = chain-prop segs (freed_link segs a) ps in hlevel (le_prop, ℕ_set, rest)

pool-prop : (element : ℕ) (segs : List Cells) (a : ℕ) (ps : List (ℕ × ℕ)) → IsProp (IsPoolOf element segs a ps)
pool-prop element segs a ps = hlevel (all-prop, front-prop, chain-prop, ℕ_set, le_prop)

-- so it is had
pub have : (element : ℕ) (segs : List Cells) (a : ℕ) → ∥ IsPool element segs a ∥₁ → IsPool element segs a
have element segs a h = ∥∥₁_elim h (pool-prop element segs a _) (λ k. k)
