-- What putting a block into a pool answers, by what the pool has.
use Rattle.vc_base.proofs.Common.{◌≡◌, ℕ, ◌<◌, ◌≤◌, Bool, true, false, ltb, List, [], ◌∷◌, Some, None, refl, sym, ap, ◌∙◌, le-ltb, lt-ltb, Terms, Layout, with_grant, Done, PoolSize, Refused, Pool, carve, carved_in, cell_for, cell_offset, element_with, pool_alloc, pool_need, pool_resize, put_asked, put_carving, put_free, uncarved, resize_there, Grant, Granted, NotLent, TooMany, ask}
use Rattle.vc_model.specs.Outcome.{TooManySegments, NoSegment}
use Rattle.vc_seg.specs.Put.{with_zeros}

module _ (terms : Terms) (p : Pool ℕ) (tag size : ℕ) (refused : Bool) where
  -- the pool after it
  abbrev pub after : Layout ℕ → List (ℕ × ℕ) → List (ℕ × ℕ) → Pool ℕ
  after layout freed carved = record { layout = layout; element = Some (element_with p size); freed = freed; carved = carved }

  fits-free : size ≤ element_with p size → pool_alloc terms p tag size refused ≡ put_free terms p tag size refused p.freed
  fits-free h = let test : ltb (element_with p size) size ≡ false = le-ltb (element_with p size) size h in rw test refl

  pub alloc-reused : (at : ℕ × ℕ) (rest : List (ℕ × ℕ)) → size ≤ element_with p size → p.freed ≡ at ∷ rest →
      pool_alloc terms p tag size refused ≡ Done (record { at = at; region = after (with_zeros p.layout tag size at) rest p.carved; granted = None })
  alloc-reused at rest h first = fits-free h ∙ ap (put_free terms p tag size refused) first

  fits-carving : size ≤ element_with p size → p.freed ≡ [] → pool_alloc terms p tag size refused ≡ put_carving terms p tag size refused (uncarved (cell_for (element_with p size)) p.carved p.layout.segments)
  fits-carving h empty = fits-free h ∙ ap (put_free terms p tag size refused) empty

  pub alloc-carved : (at : ℕ × ℕ) → size ≤ element_with p size → p.freed ≡ [] → uncarved (cell_for (element_with p size)) p.carved p.layout.segments ≡ Some at →
      pool_alloc terms p tag size refused ≡ Done (record { at = at; region = after (with_zeros p.layout tag size at) p.freed (carve at.0 p.carved); granted = None })
  alloc-carved at h empty found = fits-carving h empty ∙ ap (put_carving terms p tag size refused) found

  fits-asked : size ≤ element_with p size → p.freed ≡ [] → uncarved (cell_for (element_with p size)) p.carved p.layout.segments ≡ None →
      pool_alloc terms p tag size refused ≡ put_asked p tag size (ask terms (pool_need terms p size) p.layout.segments refused)
  fits-asked h empty none = fits-carving h empty ∙ ap (put_carving terms p tag size refused) none

  pub alloc-granted : (g : Grant) (at : ℕ × ℕ) → (let is : ℕ × ℕ = (g.number, cell_offset (cell_for (element_with p size)) (carved_in g.number p.carved)) in at ≡ is) →
      size ≤ element_with p size → p.freed ≡ [] → uncarved (cell_for (element_with p size)) p.carved p.layout.segments ≡ None → ask terms (pool_need terms p size) p.layout.segments refused ≡ Granted g →
      pool_alloc terms p tag size refused ≡ Done (record { at = at; region = after (with_zeros (with_grant p.layout g) tag size at) p.freed (carve at.0 p.carved); granted = Some g })
  alloc-granted g at place h empty none granted =
      fits-asked h empty none
      ∙ (ap (put_asked p tag size) granted
      ∙ ap (λ (q : ℕ × ℕ). Done (record { at = q; region = after (with_zeros (with_grant p.layout g) tag size q) p.freed (carve q.0 p.carved); granted = Some g })) (sym place))

  pub alloc-too_many : size ≤ element_with p size → p.freed ≡ [] → uncarved (cell_for (element_with p size)) p.carved p.layout.segments ≡ None → ask terms (pool_need terms p size) p.layout.segments refused ≡ TooMany →
      pool_alloc terms p tag size refused ≡ Refused TooManySegments
  alloc-too_many h empty none many = fits-asked h empty none ∙ ap (put_asked p tag size) many

  pub alloc-not_lent : size ≤ element_with p size → p.freed ≡ [] → uncarved (cell_for (element_with p size)) p.carved p.layout.segments ≡ None → ask terms (pool_need terms p size) p.layout.segments refused ≡ NotLent →
      pool_alloc terms p tag size refused ≡ Refused NoSegment
  alloc-not_lent h empty none not = fits-asked h empty none ∙ ap (put_asked p tag size) not

-- what a resize answers
module _ (p : Pool ℕ) (at : ℕ × ℕ) (size : ℕ) where
  pub resize-greater : element_with p size < size → pool_resize p at size ≡ Refused PoolSize
  resize-greater h = let test : ltb (element_with p size) size ≡ true = lt-ltb (element_with p size) size h in rw test refl

  pub resize-stays : size ≤ element_with p size → pool_resize p at size ≡ Done (record { at = at; region = record p { layout = resize_there p.layout at size }; granted = None })
  resize-stays h = let test : ltb (element_with p size) size ≡ false = le-ltb (element_with p size) size h in rw test refl
