-- A discipline of many that refuses a segment.
use Rattle.vc_base.proofs.Common.{◌≡◌, ℕ, zero, suc, ◌<◌, List, [], ◌∷◌, map, set, length, get_or, sym, ap, ap₂, ◌∙◌, subst, arith, Discipline}
use Rattle.vc_model.specs.Discipline.{Unserved}
use Rattle.vc_model.specs.Pool as model
use Rattle.vc_model.specs.Pool.{pool_need}
use Rattle.vc_pool.specs.Parts.{disc_in, pool_of}
use Rattle.vc_pool.specs.declared.pool.Pool.{Pool}
use Rattle.vc_ways.specs.Answer.{Holding}
use Rattle.vc_ways.specs.Asking.{Refuses, RefusesBehind, asking_cell}
use Rattle.vc_ways.specs.PoolParts.{holding_in, holdings, pools_of, terms_in}
use Rattle.vc_ways.specs.PoolWay.{class_bytes, class_of, pool_at, terms_at}
use Rattle.vc_ways.proofs.PoolLists.{pool-here, terms-here}

-- one of them changes
refuses-set : {A : Type 0} (f : A → Holding) (xs : List A) (k : ℕ) (x d : A) (segments : List (ℕ × ℕ)) (bytes : ℕ) → k < length xs → (f (get_or xs k d)).segments ≡ segments → Unserved (f (get_or xs k d)).disc (f x).disc bytes → RefusesBehind k segments bytes (map f xs) (map f (set xs k x))
refuses-set f [] k x d segments bytes lt same h = absurd (omega (arith, lt))
refuses-set f (y ∷ ys) zero x d segments bytes lt same h = (same, h)
refuses-set f (y ∷ ys) (suc k) x d segments bytes lt same h = refuses-set f ys k x d segments bytes (omega (arith, lt)) same h

module _ {I : Type 0} {V : I → Type 0} (meaning : (x : I) × V x → Discipline) (xs : List (Pool I V)) (k : ℕ) (p q : Pool I V) (lt : k < length xs) (is : p ≡ get_or xs k p) where
  abbrev need : ℕ → ℕ
  need n = pool_need (terms_at (terms_in (holdings meaning xs)) n) (pool_at (pools_of xs) n) (class_bytes n)

  bytes-here : pool_need (disc_in meaning p).terms (pool_of p) (class_bytes k) ≡ need k
  bytes-here =
      ap₂ (λ t (o : model.Pool ℕ). pool_need t o (class_bytes k)) (sym (terms-here meaning xs k p q lt is)) (sym (pool-here meaning xs k p q lt is))

  -- the pool of a class
  pub refused-here : (size : ℕ) → k ≡ class_of size → Unserved (disc_in meaning p) (disc_in meaning q) (pool_need (disc_in meaning p).terms (pool_of p) (class_bytes k)) → Refuses (asking_cell (terms_in (holdings meaning xs)) (pools_of xs) size) (holdings meaning xs) (holdings meaning (set xs k q))
  refused-here size e h =
      let segments = ap (λ (o : Pool I V). (pool_of o).layout.segments) (sym is) ∙ ap (λ (o : model.Pool ℕ). o.layout.segments) (sym (pool-here meaning xs k p q lt is)) in
      let there = subst (λ (o : Pool I V). Unserved (disc_in meaning o) (disc_in meaning q) (need k)) is (subst (Unserved (disc_in meaning p) (disc_in meaning q)) bytes-here h) in
      subst (λ n. RefusesBehind n (pool_at (pools_of xs) n).layout.segments (need n) (holdings meaning xs) (holdings meaning (set xs k q))) e
      (refuses-set (holding_in meaning) xs k q p (pool_at (pools_of xs) k).layout.segments (need k) lt segments there)
