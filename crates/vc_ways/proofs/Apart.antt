-- Blocks that stay beside one that comes, moves or goes.
use Rattle.vc_base.proofs.Common.{◌≡◌, ◌≢◌, ℕ, zero, suc, List, [], ◌∷◌, true, false, refl, sym, ◌∙◌, subst, ⊎_elim, cases_Bool, arith, Block, HaveOwnPlaces, HasBlock, is_at, place_of, without_block}
use Rattle.vc_model.specs.Best.{zeros}
use Rattle.vc_model.proofs.Owned.{at-address, found-has, free-none_left}
use Rattle.vc_seg.specs.OneBlock.{IsBlockKept, IsBlockPut}

behind : (c : Block ℕ) (cs : List (Block ℕ)) (b : ℕ) → HasBlock cs b → HasBlock (c ∷ cs) b
behind c cs b has = (suc has.0, omega (arith, has.1), has.2)

-- what stands without a block stands with it
pub with-has : (at : ℕ × ℕ) (b : ℕ) (bs : List (Block ℕ)) → HasBlock (without_block at bs) b → HasBlock bs b
with-has at b [] has = has
with-has at b (c ∷ cs) has =
    ⊎_elim
    (λ (t : is_at at c ≡ true). let rest : HasBlock cs b = rw t at has in behind c cs b rest)
    (λ (t : is_at at c ≡ false). let rest : HasBlock (c ∷ without_block at cs) b = rw t at has in front b c (without_block at cs) cs (with-has at b cs) rest)
    (cases_Bool (is_at at c))
  where
    front : (b : ℕ) (c : Block ℕ) (ds cs : List (Block ℕ)) → (HasBlock ds b → HasBlock cs b) → HasBlock (c ∷ ds) b → HasBlock (c ∷ cs) b
    front b c ds cs more (zero, within, e) = (zero, omega arith, e)
    front b c ds cs more (suc k, within, e) = behind c cs b (more (k, omega (arith, within), e))

-- what stands at another address than a block stands without it
pub other-has : (a b : ℕ) (bs : List (Block ℕ)) → HasBlock bs b → b ≢ a → HasBlock (without_block (place_of a) bs) b
other-has a b [] has other = has
other-has a b (c ∷ cs) (zero, within, e) other =
    ⊎_elim
    (λ (t : is_at (place_of a) c ≡ true). absurd (other (sym e ∙ at-address a c t)))
    (λ (t : is_at (place_of a) c ≡ false). rw t (zero, omega arith, e))
    (cases_Bool (is_at (place_of a) c))
other-has a b (c ∷ cs) (suc k, within, e) other =
    let rest : HasBlock cs b = (k, omega (arith, within), e) in
    ⊎_elim
    (λ (t : is_at (place_of a) c ≡ true). rw t rest)
    (λ (t : is_at (place_of a) c ≡ false). rw t (behind c (without_block (place_of a) cs) b (other-has a b cs rest other)))
    (cases_Bool (is_at (place_of a) c))

-- a block is put
module _ (tag size a : ℕ) (old new : List (Block ℕ)) (put : IsBlockPut tag size a old new) where
  pub put-has : HasBlock new a
  put-has = found-has a new (zeros tag size (place_of a)) put.there

  pub put-stays : (b : ℕ) → HasBlock old b → HasBlock new b
  put-stays b has = with-has (place_of a) b new (subst (λ (bs : List (Block ℕ)). HasBlock bs b) (sym put.others) has)

  pub put-apart : (b : ℕ) → HasBlock old b → b ≢ a
  put-apart b has e = put.fresh (subst (HasBlock old) e has)

-- a block stays or moves
module _ (a to : ℕ) (old new : List (Block ℕ)) (owned : HaveOwnPlaces new) (kept : IsBlockKept a to old new) where
  left : (b : ℕ) → HasBlock old b → b ≢ a → HasBlock (without_block (place_of to) new) b
  left b has other = subst (λ (bs : List (Block ℕ)). HasBlock bs b) (sym kept.others) (other-has a b old has other)

  pub kept-stays : (b : ℕ) → HasBlock old b → b ≢ a → HasBlock new b
  kept-stays b has other = with-has (place_of to) b new (left b has other)

  pub kept-apart : (b : ℕ) → HasBlock old b → b ≢ a → b ≢ to
  kept-apart b has other e = free-none_left to new (without_block (place_of to) new) refl owned (subst (HasBlock (without_block (place_of to) new)) e (left b has other))
