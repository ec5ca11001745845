-- Every call of a pool commutes with a change of its labels.
use Rattle.std.proofs.Common.{◌≡◌, ℕ, Bool, true, false, cond, List, [], ◌∷◌, Option, Some, None, filter, map, refl, sym, ap, ◌∙◌}
use Rattle.std.specs.Prelude.{nat_lt}
use Rattle.vc_model.specs.Best.{zeros}
use Rattle.vc_model.specs.Compact.{compacted_layout, is_occupied}
use Rattle.vc_model.specs.Discipline.{Terms}
use Rattle.vc_model.specs.Layout.{Block, Layout, relabel_block, relabel_layout, with_grant}
use Rattle.vc_model.specs.Outcome.{Outcome, Done, Refused, Put, PoolSize, outcome_as}
use Rattle.vc_model.specs.Pool.{Pool, carved_in, cell_for, cell_offset, element_with, pool_alloc, pool_clear, pool_compact, pool_free, pool_need, pool_resize, put_asked, put_carving, put_cell, put_free, put_uncarved, relabel_pool, uncarved}
use Rattle.vc_model.specs.Resize.{resize_there, sized_block}
use Rattle.vc_model.specs.Segments.{Asked, Grant, Granted, TooMany, NotLent, ask}
use Rattle.vc_model.specs.Touch.{rewritten_block, with_bytes_at}
use Rattle.vc_model.proofs.Relabel.{change_block-relabel, compacted-relabel, occupied-relabel, with_block-relabel, without_block-relabel}

module _ {L M : Type 0} (f : L → M) where
  abbrev pool : List (ℕ × ℕ) → Option ℕ → List (ℕ × ℕ) → List (ℕ × ℕ) → List (Block M) → Pool M
  pool segments element freed carved blocks = record { layout = record { segments = segments; blocks = blocks }; element = element; freed = freed; carved = carved }

  -- an outcome with other labels
  abbrev pub relabel_pools : Outcome (Put (Pool L)) → Outcome (Put (Pool M))
  relabel_pools o = outcome_as (relabel_pool f) o

  put_cell-relabel : (p : Pool L) (label : L) (size : ℕ) (granted : Option Grant) (at : ℕ × ℕ) (r : Layout L) (freed carved : List (ℕ × ℕ)) →
      put_cell (relabel_pool f p) (f label) size granted at (relabel_layout f r) freed carved ≡ relabel_pools (put_cell p label size granted at r freed carved)
  put_cell-relabel p label size granted at r freed carved =
      ap (λ bs. Done (record { at = at; region = pool r.segments (Some (element_with p size)) freed carved bs; granted = granted })) (sym (with_block-relabel f (zeros label size at) r.blocks))

  put_uncarved-relabel : (p : Pool L) (label : L) (size : ℕ) (granted : Option Grant) (at : ℕ × ℕ) (r : Layout L) →
      put_uncarved (relabel_pool f p) (f label) size granted at (relabel_layout f r) ≡ relabel_pools (put_uncarved p label size granted at r)
  put_uncarved-relabel p label size granted at r = put_cell-relabel p label size granted at r p.freed _

  put_asked-relabel : (p : Pool L) (label : L) (size : ℕ) (asked : Asked) → put_asked (relabel_pool f p) (f label) size asked ≡ relabel_pools (put_asked p label size asked)
  put_asked-relabel p label size (Granted g) =
      put_uncarved-relabel p label size (Some g) (g.number, cell_offset (cell_for (element_with p size)) (carved_in g.number p.carved)) (with_grant p.layout g)
  put_asked-relabel p label size TooMany = refl
  put_asked-relabel p label size NotLent = refl

  put_carving-relabel : (terms : Terms) (p : Pool L) (label : L) (size : ℕ) (refused : Bool) (at : Option (ℕ × ℕ)) →
      put_carving terms (relabel_pool f p) (f label) size refused at ≡ relabel_pools (put_carving terms p label size refused at)
  put_carving-relabel terms p label size refused (Some at) = put_uncarved-relabel p label size None at p.layout
  put_carving-relabel terms p label size refused None = put_asked-relabel p label size (ask terms (pool_need terms p size) p.layout.segments refused)

  put_free-relabel : (terms : Terms) (p : Pool L) (label : L) (size : ℕ) (refused : Bool) (freed : List (ℕ × ℕ)) →
      put_free terms (relabel_pool f p) (f label) size refused freed ≡ relabel_pools (put_free terms p label size refused freed)
  put_free-relabel terms p label size refused (at ∷ freed) = put_cell-relabel p label size None at p.layout freed p.carved
  put_free-relabel terms p label size refused [] =
      put_carving-relabel terms p label size refused (uncarved (cell_for (element_with p size)) p.carved p.layout.segments)

  pub pool_alloc-relabel : (terms : Terms) (p : Pool L) (label : L) (size : ℕ) (refused : Bool) → pool_alloc terms (relabel_pool f p) (f label) size refused ≡ relabel_pools (pool_alloc terms p label size refused)
  pool_alloc-relabel terms p label size refused =
      elim (nat_lt (element_with p size) size) as (λ v. cond v (Refused PoolSize) (put_free terms (relabel_pool f p) (f label) size refused p.freed) ≡ relabel_pools (cond v (Refused PoolSize) (put_free terms p label size refused p.freed)))
      [ true ↦ refl | false ↦ put_free-relabel terms p label size refused p.freed ]

  pub pool_resize-relabel : (p : Pool L) (at : ℕ × ℕ) (size : ℕ) → pool_resize (relabel_pool f p) at size ≡ relabel_pools (pool_resize p at size)
  pool_resize-relabel p at size =
      let done : List (Block M) → Outcome (Put (Pool M)) = λ bs. Done (record { at = at; region = pool p.layout.segments p.element p.freed p.carved bs; granted = None }) in
      let before : Outcome (Put (Pool L)) = Done (record { at = at; region = record p { layout = resize_there p.layout at size }; granted = None }) in
      ap (λ bs. cond (nat_lt (element_with p size) size) (Refused PoolSize) (done bs)) (sym (change_block-relabel f (sized_block size) (sized_block size) (λ c. refl) at p.layout.blocks))
      ∙ (elim (nat_lt (element_with p size) size) as (λ v. cond v (Refused PoolSize) (relabel_pools before) ≡ relabel_pools (cond v (Refused PoolSize) before))
      [ true ↦ refl | false ↦ refl ])

  pub pool_free-relabel : (p : Pool L) (at : ℕ × ℕ) → pool_free (relabel_pool f p) at ≡ relabel_pool f (pool_free p at)
  pool_free-relabel p at = ap (pool p.layout.segments p.element (at ∷ p.freed) p.carved) (sym (without_block-relabel f at p.layout.blocks))

  pub pool_clear-relabel : (p : Pool L) → pool_clear (relabel_pool f p) ≡ relabel_pool f (pool_clear p)
  pool_clear-relabel p = refl

  pub pool_compact-relabel : (p : Pool L) → pool_compact (relabel_pool f p) ≡ relabel_pool f (pool_compact p)
  pool_compact-relabel p =
      let other : Layout M → List (ℕ × ℕ) → List (ℕ × ℕ) → Pool M = λ r freed carved. record { layout = r; element = p.element; freed = freed; carved = carved } in
      let before : List (ℕ × ℕ) → List (ℕ × ℕ) = filter (λ c. is_occupied (map (relabel_block f) p.layout.blocks) c.0) in
      let after = relabel_layout f (compacted_layout p.layout) in
      let freed = occupied-relabel f p.layout.blocks p.freed in
      let carved = occupied-relabel f p.layout.blocks p.carved in
      ap (λ r. other r (before p.freed) (before p.carved)) (compacted-relabel f p.layout)
      ∙ (ap (λ cs. other after cs (before p.carved)) freed
      ∙ ap (other after (filter (λ c. is_occupied p.layout.blocks c.0) p.freed)) carved)

  -- other bytes in the block at a place
  pub with_bytes_at-relabel : (r : Layout L) (at : ℕ × ℕ) (off : ℕ) (src : List ℕ) → with_bytes_at (relabel_layout f r) at off src ≡ relabel_layout f (with_bytes_at r at off src)
  with_bytes_at-relabel r at off src =
      let other : List (Block M) → Layout M = λ bs. record { segments = r.segments; blocks = bs } in
      ap other (sym (change_block-relabel f (rewritten_block off src) (rewritten_block off src) (λ c. refl) at r.blocks))

  pub pool_write-relabel : (p : Pool L) (at : ℕ × ℕ) (off : ℕ) (src : List ℕ) →
      (let q : Pool M = record { layout = with_bytes_at (relabel_layout f p.layout) at off src; element = p.element; freed = p.freed; carved = p.carved } in q)
      ≡ relabel_pool f (record { layout = with_bytes_at p.layout at off src; element = p.element; freed = p.freed; carved = p.carved })
  pool_write-relabel p at off src =
      let other : Layout M → Pool M = λ r. record { layout = r; element = p.element; freed = p.freed; carved = p.carved } in
      ap other (with_bytes_at-relabel p.layout at off src)
