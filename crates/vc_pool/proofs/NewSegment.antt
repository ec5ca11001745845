-- One more segment, of which no cell is carved, stands behind the others.
use Rattle.vc_base.proofs.Common.{◌≡◌, ℕ, zero, suc, ◌+◌, ◌-◌, ◌*◌, ◌/◌, ◌<◌, ◌≤◌, Bool, cond, eqb, ltb, ◌≢◌, List, [], ◌∷◌, ◌++◌, map, length, get_or, drop, replicate, All, filter, flat_map, sym, refl, ap, ◌∙◌, subst, ⊎_elim, append-nil, arith, length-append, take_at, ne_eqb, cases_eq, All-head, All-nil, All-push, All-tail, filter-append, all_pairs_push, get_or-map, length-map, length-replicate, map-append, Block, with_grant, cell_for, new_segment}
use Rattle.std.proofs.lemmas.List.{get_or_push}
use Rattle.std.proofs.lemmas.List.Concat.{flat_map-append}
use Rattle.std.proofs.lemmas.List.Elements.{All-replicate}
use Rattle.vc_seg.specs.Segment.{AreSegments, Bytes, IsRegionSegment}
use Rattle.vc_seg.specs.InOrder.{in_order}
use Rattle.vc_pool.specs.Cells.Blocks.{cell_blocks, segment_blocks, carved_by, layout_by, pair_of}
use Rattle.vc_pool.specs.Cells.Cells.{Cells, pair_at}
use Rattle.vc_pool.specs.Cells.Freed.{IsFreeCell, cells_at, freed_cells, index_at, no_segment, link_word}
use Rattle.vc_pool.specs.Cells.Kept.{AreCellular, IsCellular, IsFront, IsFull, IsPool, IsPoolOf, segment_of}
use Rattle.vc_pool.specs.Cells.Place.{IsOther}
use Rattle.vc_pool.proofs.Chains.{chain-same}
use Rattle.vc_pool.proofs.PoolChange.{pool-freed, pool-of}
use Rattle.vc_pool.specs.Cells.Open.{IsFirstOpen}

-- a segment has a pair (0, 0) for each cell, one at least, and none is carved
pub record IsFresh (cell : ℕ) (u : Cells) : Type 0 where
  pub legal : IsRegionSegment (segment_of u)
  pub carved : u.carved ≡ 0
  pub pairs : u.pairs ≡ replicate ((length u.bytes - 32) / cell) (0, 0)
  pub least : 32 + cell ≤ length u.bytes

-- a segment without a block
blocks-none : (n : ℕ) (bytes : List ℕ) (cell off m : ℕ) → cell_blocks n bytes cell off (replicate m (0, 0)) ≡ []
blocks-none n bytes cell off zero = refl
blocks-none n bytes cell off (suc m) = blocks-none n bytes cell (off + cell) m

pub none-in : (cell m : ℕ) (u : Cells) → u.pairs ≡ replicate m (0, 0) → segment_blocks cell u ≡ []
none-in cell m u e = ap (cell_blocks u.number u.bytes cell 32) e ∙ blocks-none u.number u.bytes cell 32 m

-- no segment of that number is among these
cells-none : (n : ℕ) (segs : List Cells) → All (IsOther n) segs → cells_at n segs ≡ no_segment
cells-none n [] h = refl
cells-none n (s ∷ ss) h = rw (ne_eqb s.number n (All-head (IsOther n) s ss h)) (cells-none n ss (All-tail (IsOther n) s ss h))

-- that of another number is the same
cells-grown : (n : ℕ) (segs : List Cells) (u : Cells) → u.number ≢ n → cells_at n (segs ++ u ∷ []) ≡ cells_at n segs
cells-grown n [] u other = rw (ne_eqb u.number n other) refl
cells-grown n (s ∷ ss) u other = ap (cond (eqb s.number n) s) (cells-grown n ss u other)

front-grown : (segs : List Cells) (u : Cells) → u.carved ≡ 0 → IsFront segs → IsFront (segs ++ u ∷ [])
front-grown [] u none h = (All-nil (λ (t : Cells). 1 ≤ t.carved → IsFull u), tt)
front-grown (s ∷ ss) u none h =
    (All-push (λ (t : Cells). 1 ≤ t.carved → IsFull s) ss u h.0 (λ some. absurd (omega (arith, some, none))), front-grown ss u none h.1)

segments-grown : (segs : List Cells) (u : Cells) → AreSegments (map segment_of segs) → length segs < 1023 → IsRegionSegment (segment_of u) → All (IsOther u.number) segs → AreSegments (map segment_of (segs ++ u ∷ []))
segments-grown segs u h few legal other =
    let own : Bytes = segment_of u in
    let olds : List Bytes = map segment_of segs in
    let long : length olds ≡ length segs = length-map segs segment_of in
    subst AreSegments (sym (map-append segment_of segs (u ∷ [])))
    (record {
      few = omega (arith, few, long, length-append olds (own ∷ []));
      legal = All-push IsRegionSegment olds own h.legal legal;
      distinct = all_pairs_push (λ (a b : Bytes). a.number ≢ b.number) olds own h.distinct
          (λ k d lt q.
          let within : k < length segs = omega (arith, lt, long) in
          let e : Cells = record { number = d.number; bytes = d.bytes; carved = 0; pairs = [] } in
          other k e within (ap (λ (b : Bytes). b.number) (sym (get_or-map segment_of segs k e d within)) ∙ q));
    })

module _ (cell element : ℕ) (u : Cells) (some : 1 ≤ cell) (h : IsFresh cell u) where
  cells-some : 1 ≤ length u.pairs
  cells-some =
      let q : ℕ = (length u.bytes - 32) / cell in
      let long : length u.pairs ≡ q = ap length h.pairs ∙ length-replicate q (0, 0) in
      ⊎_elim
      (λ (z : q ≡ 0). let zero : cell * q ≡ cell * 0 = ap (λ x. cell * x) z in let small : length u.bytes - 32 < cell = omega (arith, zero, some) in absurd (omega (arith, small)))
      (λ (z : q ≡ 0 → ⊥). omega (arith, long, z))
      (cases_eq q 0)

  fresh-cellular : IsCellular cell element u
  fresh-cellular =
      let q : ℕ = (length u.bytes - 32) / cell in
      let all : (P : ℕ × ℕ → Type 0) → P (0, 0) → All P u.pairs = λ P z. subst (λ (xs : List (ℕ × ℕ)). All P xs) (sym h.pairs) (All-replicate P q (0, 0) z) in
      record {
        count = ap length h.pairs ∙ length-replicate q (0, 0);
        some = cells-some;
        few = omega (arith, h.carved);
        fresh = subst (λ (n : ℕ). All (λ (c : ℕ × ℕ). c.0 ≡ 0) (drop n u.pairs)) (sym h.carved) (all (λ c. c.0 ≡ 0) refl);
        fits = all (λ c. c.0 ≤ element) (omega arith);
        blank = all (λ c. c.0 ≡ 0 → c.1 ≡ 0) (λ e. refl);
      }

module _ (element : ℕ) (segs : List Cells) (u : Cells) (k : AreCellular element segs) (some : 1 ≤ element) (few : length segs < 1023) (fresh : IsFresh (cell_for element) u) (other : All (IsOther u.number) segs) where
  abbrev grown : List Cells
  grown = segs ++ u ∷ []

  pub cellular-grown : AreCellular element grown
  cellular-grown =
      record {
        most = k.most;
        unset = λ e. absurd (omega (arith, e, some));
        segments = segments-grown segs u k.segments few fresh.legal other;
        cellular = All-push (IsCellular (cell_for element) element) segs u k.cellular (fresh-cellular (cell_for element) element u (omega (arith, some)) fresh);
      }

  -- and where each before it is full, it is the first that isn't
  pub open-grown : All IsFull segs → IsFirstOpen grown (length segs)
  open-grown full =
      let cells = cells-some (cell_for element) element u (omega (arith, some)) fresh in
      record {
        within = omega (arith, length-append segs (u ∷ []));
        first = record {
          full = subst (λ (ss : List Cells). All IsFull ss) (sym (take_at segs (u ∷ []) (length segs) refl)) full;
          room = λ lt d. subst (λ (s : Cells). s.carved < length s.pairs) (sym (get_or_push segs u d (length segs) refl)) (omega (arith, cells));
        };
      }

  -- a freed cell is in another segment
  free-other : (p : ℕ × ℕ) → IsFreeCell (cell_for element) segs p → u.number ≢ p.0
  free-other p f q =
      let none : cells_at p.0 segs ≡ no_segment = ap (λ n. cells_at n segs) (sym q) ∙ cells-none u.number segs other in
      let below : index_at (cell_for element) p.1 < 0 = subst (λ (s : Cells). index_at (cell_for element) p.1 < s.carved) none f.below in
      omega (arith, below)

  kept-grown : (last : ℕ) (ps : List (ℕ × ℕ)) → IsPoolOf element segs last ps → IsPoolOf element grown last ps
  kept-grown last ps h =
      let same : (p : ℕ × ℕ) → IsFreeCell (cell_for element) segs p → cells_at p.0 grown ≡ cells_at p.0 segs = λ p f. cells-grown p.0 segs u (free-other p f) in
      record {
        cells = cellular-grown;
        front = front-grown segs u fresh.carved h.front;
        chain = chain-same segs grown last ps h.chain (λ j d lt. let p : ℕ × ℕ = get_or ps j d in ap (λ (s : Cells). link_word p.1 s.bytes) (same p (h.free j d lt)));
        free = λ j d lt.
            let p : ℕ × ℕ = get_or ps j d in
            let f = h.free j d lt in
            record {
              offset = f.offset;
              below = subst (λ (s : Cells). index_at (cell_for element) p.1 < s.carved) (sym (same p f)) f.below;
              empty = subst (λ (s : Cells). (pair_at (index_at (cell_for element) p.1) s).0 ≡ 0) (sym (same p f)) f.empty;
            };
        once = h.once;
      }

  pub pool-grown : (last : ℕ) → IsPool element segs last → IsPool element grown last
  pool-grown last h = pool-of element grown last (freed_cells segs last) (kept-grown last (freed_cells segs last) h)

  pub freed-grown : (last : ℕ) → IsPool element segs last → freed_cells grown last ≡ freed_cells segs last
  freed-grown last h = pool-freed element grown last (freed_cells segs last) (kept-grown last (freed_cells segs last) h)

  pub layout-grown : layout_by (cell_for element) grown ≡ with_grant (layout_by (cell_for element) segs) (new_segment u.number (length u.bytes))
  unfolding layout_by
  layout-grown =
      let cell : ℕ = cell_for element in
      let none : flat_map (segment_blocks cell) (u ∷ []) ≡ [] = ap (λ (bs : List (Block ℕ)). bs ++ []) (none-in cell ((length u.bytes - 32) / cell) u fresh.pairs) in
      let blocks : flat_map (segment_blocks cell) grown ≡ flat_map (segment_blocks cell) segs =
      flat_map-append (segment_blocks cell) segs (u ∷ []) ∙ (ap (λ bs. flat_map (segment_blocks cell) segs ++ bs) none ∙ append-nil (flat_map (segment_blocks cell) segs)) in
      λ j. record { segments = map-append pair_of segs (u ∷ []) j; blocks = in_order (blocks j) }

  pub carved-grown : carved_by grown ≡ carved_by segs
  carved-grown =
      let count : Cells → ℕ × ℕ = λ s. (s.number, s.carved) in
      let test : ℕ × ℕ → Bool = λ c. ltb 0 c.1 in
      let none : filter test (count u ∷ []) ≡ [] = rw fresh.carved refl in
      ap (filter test) (map-append count segs (u ∷ []))
      ∙ (filter-append test (map count segs) (count u ∷ []) ∙ (ap (λ cs. carved_by segs ++ cs) none ∙ append-nil (carved_by segs)))
