-- Some of a pool's segments: those that have a block.
use Rattle.vc_base.proofs.Common.{◌≡◌, ℕ, ◌<◌, ◌≤◌, Bool, true, false, ◌&&◌, eqb, ltb, List, [], ◌∷◌, ◌++◌, map, get_or, All, filter, flat_map, sym, refl, ap, ◌∙◌, subst, ⊎_elim, arith, eq-eqb, ne_eqb, and_from, cases_Bool, cases_eq, All-filter, All-head, All-tail, filter_agree, filter_passes, list_any_at, count_by-le-length, length-filter, compacted_layout, is_occupied, Discipline, TookBack, Layout, cell_for}
use Rattle.vc_base.proofs.Lists.{filter-map}
use Rattle.vc_seg.specs.Segment.{AreSegments, Bytes}
use Rattle.vc_seg.proofs.Backs.{AreSegments-filter}
use Rattle.vc_seg.proofs.Filters.{filter-filter}
use Rattle.vc_seg.specs.InOrder.{in_order}
use Rattle.vc_pool.specs.Cells.Blocks.{segment_blocks, carved_by, layout_by, pair_of}
use Rattle.vc_pool.specs.Cells.Cells.{Cells, cells_of, pair_at}
use Rattle.vc_pool.specs.Cells.Freed.{IsFreeCell, cells_at, freed_cells, index_at, link_word}
use Rattle.vc_pool.specs.Cells.Kept.{AreCellular, IsCellular, IsFront, IsFull, IsPool, IsPoolOf, segment_of}
use Rattle.vc_pool.specs.Cells.Place.{cells_in}
use Rattle.vc_pool.specs.declared.cells.segment.PoolSegment.{PoolSegment}
use Rattle.vc_pool.proofs.Chains.{chain-same}
use Rattle.vc_pool.proofs.PoolChange.{pool-freed, pool-of}
use Rattle.vc_pool.specs.Compacting.{IsCompacted}
use Rattle.vc_pool.specs.Marks.{has_block, has_block_at}
use Rattle.vc_pool.specs.Relink.{KeepsAll}
use Rattle.vc_pool.proofs.BusySegments.{none-of, occupied-busy}

-- those of some of the segments
pub cells-filter : (stays : ℕ → Bool) (segs : List PoolSegment) → cells_in (filter (λ s. stays s.seg.number) segs) ≡ filter (λ c. stays c.number) (cells_in segs)
cells-filter stays segs = sym (filter-map cells_of (λ (c : Cells). stays c.number) segs)

front-filter : (test : Cells → Bool) (segs : List Cells) → IsFront segs → IsFront (filter test segs)
front-filter test [] h = h
front-filter test (s ∷ ss) h =
    let rest = front-filter test ss h.1 in
    ⊎_elim
    (λ (t : test s ≡ true). rw t (All-filter test (λ (u : Cells). 1 ≤ u.carved → IsFull s) ss h.0, rest))
    (λ (t : test s ≡ false). rw t rest)
    (cases_Bool (test s))

module _ (stays : ℕ → Bool) where
  abbrev test : Cells → Bool
  test s = stays s.number

  abbrev place_stays : ℕ × ℕ → Bool
  place_stays p = stays p.0

  -- the segment of a number that stays is the same
  cells-kept : (n : ℕ) (segs : List Cells) → stays n ≡ true → cells_at n (filter test segs) ≡ cells_at n segs
  cells-kept n [] t = refl
  cells-kept n (s ∷ ss) t =
      ⊎_elim
      (λ (e : s.number ≡ n). let own : stays s.number ≡ true = ap stays e ∙ t in rw own (rw (eq-eqb s.number n e) refl))
      (λ (e : s.number ≡ n → ⊥).
      ⊎_elim
      (λ (u : stays s.number ≡ true). rw u (rw (ne_eqb s.number n e) (cells-kept n ss t)))
      (λ (u : stays s.number ≡ false). rw u (rw (ne_eqb s.number n e) (cells-kept n ss t)))
      (cases_Bool (stays s.number)))
      (cases_eq s.number n)

  all-cells : (element : ℕ) (segs : List Cells) → AreCellular element segs → AreCellular element (filter test segs)
  all-cells element segs h =
      let t : Bytes → Bool = λ b. stays b.number in
      record {
        most = h.most;
        unset = λ z. let none = h.unset z in omega (arith, none, length-filter test segs, count_by-le-length test segs);
        segments = subst AreSegments (filter-map segment_of t segs) (AreSegments-filter t (map segment_of segs) h.segments);
        cellular = All-filter test (IsCellular (cell_for element) element) segs h.cellular;
      }

  -- a pool of which no freed cell is in a segment that goes
  pub pool-filter : (element : ℕ) (segs : List Cells) (freed : ℕ) (ps : List (ℕ × ℕ)) → All (λ p. place_stays p ≡ true) ps → IsPoolOf element segs freed ps → IsPoolOf element (filter test segs) freed ps
  pool-filter element segs freed ps stay h =
      record {
        cells = all-cells element segs h.cells;
        front = front-filter test segs h.front;
        chain = chain-same segs (filter test segs) freed ps h.chain
            (λ k d lt. ap (λ (x : Cells). link_word (get_or ps k d).1 x.bytes) (cells-kept (get_or ps k d).0 segs (stay k d lt)));
        free = λ k d lt.
            let p : ℕ × ℕ = get_or ps k d in
            let same : cells_at p.0 (filter test segs) ≡ cells_at p.0 segs = cells-kept p.0 segs (stay k d lt) in
            let f : IsFreeCell (cell_for element) segs p = h.free k d lt in
            let j : ℕ = index_at (cell_for element) p.1 in
            record {
              offset = f.offset;
              below = subst (λ (x : Cells). j < x.carved) (sym same) f.below;
              empty = ap (λ (x : Cells). (pair_at j x).0) same ∙ f.empty;
            };
        once = h.once;
      }

  -- those that go have no block
  blocks-filter : (cell : ℕ) (segs : List Cells) → All (λ s. test s ≡ false → has_block s ≡ false) segs → flat_map (segment_blocks cell) (filter test segs) ≡ flat_map (segment_blocks cell) segs
  blocks-filter cell [] h = refl
  blocks-filter cell (s ∷ ss) h =
      let P : Cells → Type 0 = λ x. test x ≡ false → has_block x ≡ false in
      let rest = blocks-filter cell ss (All-tail P s ss h) in
      ⊎_elim
      (λ (t : stays s.number ≡ true). rw t (ap (λ bs. segment_blocks cell s ++ bs) rest))
      (λ (t : stays s.number ≡ false). rw t (rest ∙ sym (ap (λ bs. bs ++ flat_map (segment_blocks cell) ss) (none-of cell s (All-head P s ss h t)))))
      (cases_Bool (stays s.number))

  module _ (cell : ℕ) (segs : List Cells) (busy : (n : ℕ) → stays n ≡ has_block_at segs n) where
    gone : All (λ s. test s ≡ false → has_block s ≡ false) segs
    gone =
        λ k d lt t.
        let s : Cells = get_or segs k d in
        ⊎_elim
        (λ (u : has_block s ≡ true).
        let some : has_block_at segs s.number ≡ true = list_any_at (λ (x : Cells). eqb x.number s.number && has_block x) segs k d lt (and_from (eqb s.number s.number) (has_block s) (eq-eqb s.number s.number refl) u) in
        let no : true ≡ false = sym some ∙ (sym (busy s.number) ∙ t) in absurd (cc))
        (λ (u : has_block s ≡ false). u)
        (cases_Bool (has_block s))

    pub occupied : (n : ℕ) → stays n ≡ is_occupied (layout_by cell segs).blocks n
    occupied n = busy n ∙ sym (occupied-busy n cell segs)

    made : layout_by cell (filter test segs) ≡ record { segments = filter place_stays (layout_by cell segs).segments; blocks = (layout_by cell segs).blocks }
    unfolding layout_by
    made = λ j. record { segments = sym (filter-map pair_of place_stays segs) j; blocks = ap in_order (blocks-filter cell segs gone) j }

    pub layout-filter : layout_by cell (filter test segs) ≡ compacted_layout (layout_by cell segs)
    layout-filter =
        made
        ∙ ap (λ (ss : List (ℕ × ℕ)). record { segments = ss; blocks = (layout_by cell segs).blocks })
        (filter_agree place_stays (λ (p : ℕ × ℕ). is_occupied (layout_by cell segs).blocks p.0) (λ p. occupied p.0) (layout_by cell segs).segments)

    and-turn : (x y : Bool) → (x && y) ≡ (y && x)
    and-turn true true = refl
    and-turn true false = refl
    and-turn false true = refl
    and-turn false false = refl

    pub carved-filter : carved_by (filter test segs) ≡ filter (λ (c : ℕ × ℕ). is_occupied (layout_by cell segs).blocks c.0) (carved_by segs)
    carved-filter =
        let counts : Cells → ℕ × ℕ = λ s. (s.number, s.carved) in
        let some : ℕ × ℕ → Bool = λ c. ltb 0 c.1 in
        let all : List (ℕ × ℕ) = map counts segs in
        ap (filter some) (sym (filter-map counts place_stays segs))
        ∙ (filter-filter place_stays some all
        ∙ (filter_agree (λ c. place_stays c && some c) (λ c. some c && place_stays c) (λ c. and-turn (place_stays c) (some c)) all
        ∙ (sym (filter-filter some place_stays all)
        ∙ filter_agree place_stays (λ (c : ℕ × ℕ). is_occupied (layout_by cell segs).blocks c.0) (λ c. occupied c.0) (filter some all))))

    pub freed-filter : (ps : List (ℕ × ℕ)) → filter place_stays ps ≡ filter (λ (p : ℕ × ℕ). is_occupied (layout_by cell segs).blocks p.0) ps
    freed-filter ps = filter_agree place_stays (λ (p : ℕ × ℕ). is_occupied (layout_by cell segs).blocks p.0) (λ p. occupied p.0) ps

pub segments-of : (cell : ℕ) (segs : List Cells) → (layout_by cell segs).segments ≡ map pair_of segs
unfolding layout_by
segments-of cell segs = refl

-- what a discipline took back, by equal lists of segments
pub took-by : (d d' : Discipline) (s s' t t' : List (ℕ × ℕ)) → s' ≡ s → t' ≡ t → TookBack d d' s t → TookBack d d' s' t'
took-by d d' s s' t t' e f h = subst (λ u. TookBack d d' u t') (sym e) (subst (TookBack d d' s) (sym f) h)

-- the segments without a block go
module _ (element first freed : ℕ) (old mid new : List PoolSegment) (stays : ℕ → Bool) (marked : (n : ℕ) → stays n ≡ has_block_at (cells_in old) n) (kept : IsPool element (cells_in mid) freed)
    (left : freed_cells (cells_in mid) freed ≡ filter (λ (p : ℕ × ℕ). stays p.0) (freed_cells (cells_in old) first)) (keeps : KeepsAll (cell_for element) (cells_in old) (cells_in mid)) (is : new ≡ filter (λ (s : PoolSegment). stays s.seg.number) mid) where
  abbrev wide : ℕ
  wide = cell_for element

  busy-mid : (n : ℕ) → stays n ≡ has_block_at (cells_in mid) n
  busy-mid n = marked n ∙ (sym (occupied-busy n wide (cells_in old)) ∙ (ap (λ (l : Layout ℕ). is_occupied l.blocks n) (sym keeps.layout) ∙ occupied-busy n wide (cells_in mid)))

  cells : cells_in new ≡ filter (λ (c : Cells). stays c.number) (cells_in mid)
  cells = ap cells_in is ∙ cells-filter stays mid

  pool : IsPoolOf element (filter (λ (c : Cells). stays c.number) (cells_in mid)) freed (freed_cells (cells_in mid) freed)
  pool =
      pool-filter stays element (cells_in mid) freed (freed_cells (cells_in mid) freed)
      (subst (λ (ps : List (ℕ × ℕ)). All (λ p. stays p.0 ≡ true) ps) (sym left) (filter_passes (λ (p : ℕ × ℕ). stays p.0) (freed_cells (cells_in old) first)))
      kept

  compacted-kept : IsPool element (cells_in new) freed
  compacted-kept = subst (λ (ss : List Cells). IsPool element ss freed) (sym cells) (pool-of element (filter (λ (c : Cells). stays c.number) (cells_in mid)) freed (freed_cells (cells_in mid) freed) pool)

  compacted-layout : layout_by wide (cells_in new) ≡ compacted_layout (layout_by wide (cells_in old))
  compacted-layout = ap (layout_by wide) cells ∙ (layout-filter stays wide (cells_in mid) busy-mid ∙ ap compacted_layout keeps.layout)

  compacted-freed : freed_cells (cells_in new) freed ≡ filter (λ (p : ℕ × ℕ). is_occupied (layout_by wide (cells_in old)).blocks p.0) (freed_cells (cells_in old) first)
  compacted-freed =
      ap (λ (ss : List Cells). freed_cells ss freed) cells
      ∙ (pool-freed element (filter (λ (c : Cells). stays c.number) (cells_in mid)) freed (freed_cells (cells_in mid) freed) pool
      ∙ (left
      ∙ (freed-filter stays wide (cells_in mid) busy-mid (freed_cells (cells_in old) first)
      ∙ ap (λ (l : Layout ℕ). filter (λ (p : ℕ × ℕ). is_occupied l.blocks p.0) (freed_cells (cells_in old) first)) keeps.layout)))

  compacted-carved : carved_by (cells_in new) ≡ filter (λ (c : ℕ × ℕ). is_occupied (layout_by wide (cells_in old)).blocks c.0) (carved_by (cells_in old))
  compacted-carved =
      ap carved_by cells
      ∙ (carved-filter stays wide (cells_in mid) busy-mid
      ∙ (ap (λ (l : Layout ℕ). filter (λ (c : ℕ × ℕ). is_occupied l.blocks c.0) (carved_by (cells_in mid))) keeps.layout
      ∙ ap (filter (λ (c : ℕ × ℕ). is_occupied (layout_by wide (cells_in old)).blocks c.0)) keeps.carved))

  pub compacted : IsCompacted element (cells_in old) (cells_in new) first freed
  compacted = record { kept = compacted-kept; layout = compacted-layout; freed = compacted-freed; carved = compacted-carved }
