-- The blocks of a best region have places of their own.
use Rattle.vc_base.proofs.Common.{le_prop, ∥∥₁_elim, ℕ_set, HaveOwnPlaces}
use Rattle.vc_best.proofs.Common.{blocks_in, layout_of}
use Rattle.vc_model.proofs.Places.{own-places}
use Rattle.vc_best.specs.declared.best.Best.{Best}

pub own_places : {I : Type 0} {V : I → Type 0} (b : Best I V) → HaveOwnPlaces (blocks_in b)
own_places b =
    record {
      distinct = λ i j d lt within e. ∥∥₁_elim b.sound (hlevel) (λ s. (own-places (layout_of b) s).distinct i j d lt within e);
      first = λ i d within. ∥∥₁_elim b.sound (le_prop) (λ s. (own-places (layout_of b) s).first i d within);
      exact = λ i d within. ∥∥₁_elim b.sound (hlevel (ℕ_set)) (λ s. s.exact i d within);
    }
