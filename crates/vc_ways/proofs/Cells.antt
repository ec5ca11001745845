-- Cells of the classes that stay beside one that comes or goes.
use Rattle.vc_base.proofs.Common.{◌≡◌, ◌≢◌, ℕ, ◌<◌, List, set, length, sym, ap, subst, ⊎_elim, cases_eq, get_or-set_other, get_or-set_same, Block, HasBlock, place_of, pool_free}
use Rattle.vc_model.specs.Pool.{Pool, empty_pool}
use Rattle.vc_seg.specs.OneBlock.{IsBlockPut}
use Rattle.vc_ways.specs.PoolParts.{CellComes, class_blocks}
use Rattle.vc_ways.specs.PoolWay.{pool_at}
use Rattle.vc_ways.proofs.Apart.{other-has, put-apart, put-has, put-stays}

module _ (ps : List (Pool ℕ)) (k : ℕ) (q : Pool ℕ) (lt : k < length ps) where
  set-here : class_blocks (set ps k q) k ≡ q.layout.blocks
  set-here = ap (λ (p : Pool ℕ). p.layout.blocks) (get_or-set_same ps k q empty_pool lt)

  set-other : (n : ℕ) → n ≢ k → class_blocks (set ps k q) n ≡ class_blocks ps n
  set-other n other = ap (λ (p : Pool ℕ). p.layout.blocks) (get_or-set_other ps k n q empty_pool other)

  -- what stays in the pool of a class stays, and so do the cells of the other classes
  stays : (Stays : ℕ → Type 0) → ((b : ℕ) → HasBlock (class_blocks ps k) b → Stays b → HasBlock q.layout.blocks b) → (n b : ℕ) → HasBlock (class_blocks ps n) b → (n ≡ k → Stays b) → HasBlock (class_blocks (set ps k q) n) b
  stays Stays kept n b has may =
      ⊎_elim
      (λ (e : n ≡ k).
      subst (λ m. HasBlock (class_blocks (set ps k q) m) b) (sym e)
      (subst (λ (bs : List (Block ℕ)). HasBlock bs b) (sym set-here) (kept b (subst (λ m. HasBlock (class_blocks ps m) b) e has) (may e))))
      (λ (other : n ≢ k). subst (λ (bs : List (Block ℕ)). HasBlock bs b) (sym (set-other n other)) has)
      (cases_eq n k)

  pub comes : (tag size a : ℕ) → IsBlockPut tag size a (class_blocks ps k) q.layout.blocks → CellComes (λ _ _. Unit {0}) ps k a (set ps k q)
  comes tag size a put =
      record {
        there = subst (λ (bs : List (Block ℕ)). HasBlock bs a) (sym set-here) (put-has tag size a (class_blocks ps k) q.layout.blocks put);
        others =
            λ n b has _. (
              stays (λ _. Unit {0}) (λ c there _. put-stays tag size a (class_blocks ps k) q.layout.blocks put c there) n b has (λ _. tt),
              λ e. put-apart tag size a (class_blocks ps k) q.layout.blocks put b (subst (λ m. HasBlock (class_blocks ps m) b) e has),
            );
      }

pub freed-others : (ps : List (Pool ℕ)) (k a : ℕ) → k < length ps → (n b : ℕ) → HasBlock (class_blocks ps n) b → (n ≡ k → b ≢ a) → HasBlock (class_blocks (set ps k (pool_free (pool_at ps k) (place_of a))) n) b
freed-others ps k a lt n b has other =
    stays ps k (pool_free (pool_at ps k) (place_of a)) lt (λ c. c ≢ a) (λ c there elsewhere. other-has a c (class_blocks ps k) there elsewhere) n b has other
