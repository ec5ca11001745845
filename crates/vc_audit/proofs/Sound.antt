-- Of a layout that is sound: blocks at places of their own, and segments with numbers of their own.
use Rattle.vc_base.proofs.Common.{ℕ, le_prop, ∥∥₁_elim, ℕ_set, HaveOwnNumbers, HaveOwnPlaces, IsSound, Layout}
use Rattle.vc_model.proofs.Places.{own-places}

pub own-best : (r : Layout ℕ) → ∥ IsSound r ∥₁ → HaveOwnPlaces r.blocks
own-best r sound =
    record {
      distinct = λ i j d lt within e. ∥∥₁_elim sound (hlevel) (λ s. (own-places r s).distinct i j d lt within e);
      first = λ i d within. ∥∥₁_elim sound (le_prop) (λ s. (own-places r s).first i d within);
      exact = λ i d within. ∥∥₁_elim sound (hlevel (ℕ_set)) (λ s. s.exact i d within);
    }

pub own-numbers : (r : Layout ℕ) → ∥ IsSound r ∥₁ → HaveOwnNumbers r.segments
own-numbers r sound =
    record {
      first = λ i d within. ∥∥₁_elim sound (le_prop) (λ s. s.numbered.first i d within);
      distinct = λ i j d lt within e. ∥∥₁_elim sound (hlevel) (λ s. s.numbered.distinct i j d lt within e);
    }
