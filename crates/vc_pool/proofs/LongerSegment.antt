-- The last segment, whose cells are all carved like those of the others, gets more bytes, and uncarved cells for them.
use Rattle.vc_base.proofs.Common.{◌≡◌, ℕ, zero, suc, ◌+◌, ◌-◌, ◌*◌, ◌/◌, ◌%◌, ◌<◌, ◌≤◌, Bool, false, List, [], ◌∷◌, ◌++◌, map, length, get_or, take, drop, set, replicate, All, flat_map, filter, ltb, sym, refl, ap, ◌∙◌, subst, ⊎_elim, mul-le-mul_right, arith, length-append, length-set, take_all, take_at, drop_at, get_or-set_same, get_or_append_left, get_or_default, cases_eq, cases_lt, All-append, All-head, All-nil, All-set, All-tail, All-weaker, length-replicate, IsSegmentSize, Block, with_grant, cell_for, w64, from_le_bytes}
use Rattle.std.proofs.lemmas.List.{take-set}
use Rattle.std.proofs.lemmas.List.Elements.{All-replicate, All-take}
use Rattle.vc_model.specs.Segments.{with_more}
use Rattle.vc_seg.proofs.Frames.{part-front}
use Rattle.vc_seg.specs.InOrder.{in_order}
use Rattle.vc_pool.specs.Cells.Blocks.{block_of_cell, cell_blocks, segment_blocks, carved_by, layout_by, pair_of}
use Rattle.vc_pool.specs.Cells.Cells.{Cells, pair_at, with_more_bytes}
use Rattle.vc_pool.specs.Cells.Freed.{IsFreeCell, cells_at, freed_cells, index_at, link_word}
use Rattle.vc_pool.specs.Cells.Kept.{AreCellular, IsCellular, IsFront, IsFull, IsPool, IsPoolOf}
use Rattle.vc_pool.specs.Cells.Open.{IsFirstOpen}
use Rattle.vc_pool.specs.Cells.Place.{IsAlone}
use Rattle.vc_pool.proofs.BlockPlaces.{all-legal, fits-cell, has-cell}
use Rattle.vc_pool.proofs.CellularSegments.{segments-sized}
use Rattle.vc_pool.proofs.Chains.{KeepsWord, chain-same}
use Rattle.vc_pool.proofs.OneCell.{blocks-below}
use Rattle.vc_pool.proofs.OneSegment.{alone, cells-first, cells-other, cells-set, map-stays}
use Rattle.vc_pool.proofs.PoolChange.{pool-freed, pool-of}

-- a cell more at least ends within so many bytes more
pub more-cells : (cell size more : ℕ) → 1 ≤ cell → 32 ≤ size → cell ≤ more → (size - 32) / cell < (size + more - 32) / cell
more-cells cell size more some least fits =
    let x : ℕ = size - 32 in
    let y : ℕ = size + more - 32 in
    let low : cell * (x / cell) + x % cell ≡ x = omega (arith, some) in
    let high : cell * (y / cell) + y % cell ≡ y = omega (arith, some) in
    let rest : y % cell < cell = omega (arith, some) in
    ⊎_elim
    (λ (lt : x / cell < y / cell). lt)
    (λ (le : y / cell ≤ x / cell).
    let few : y / cell * cell ≤ x / cell * cell = mul-le-mul_right cell le in
    absurd (omega (arith, few, low, high, rest, least, fits)))
    (cases_lt (x / cell) (y / cell))

-- pairs without a block at the end make none
blocks-blank : (n : ℕ) (bytes : List ℕ) (cell off m : ℕ) → cell_blocks n bytes cell off (replicate m (0, 0)) ≡ []
blocks-blank n bytes cell off zero = refl
blocks-blank n bytes cell off (suc m) = blocks-blank n bytes cell (off + cell) m

blocks-then : (n : ℕ) (bytes : List ℕ) (cell off m : ℕ) (cs : List (ℕ × ℕ)) → cell_blocks n bytes cell off (cs ++ replicate m (0, 0)) ≡ cell_blocks n bytes cell off cs
blocks-then n bytes cell off m [] = blocks-blank n bytes cell off m
blocks-then n bytes cell off m (c ∷ cs) = ap (λ (bs : List (Block ℕ)). block_of_cell n bytes off c ++ bs) (blocks-then n bytes cell (off + cell) m cs)

-- what is told of each segment, one behind another, stays where it is the same of the one that changes
flat-stays : {B : Type 0} (f : Cells → List B) (i : ℕ) (segs : List Cells) (new : Cells) → i < length segs → ((d : Cells) → f new ≡ f (get_or segs i d)) → flat_map f (set segs i new) ≡ flat_map f segs
flat-stays f i [] new within e = refl
flat-stays f zero (s ∷ ss) new within e = ap (λ bs. bs ++ flat_map f ss) (e s)
flat-stays f (suc i) (s ∷ ss) new within e = ap (λ bs. f s ++ bs) (flat-stays f i ss new (omega (arith, within)) (λ d. e d))

-- the segments as number and size, where the last one has more bytes
pub pairs-more : (more i : ℕ) (segs : List Cells) (new : Cells) → suc i ≡ length segs → ((d : Cells) → (let p : ℕ × ℕ = pair_of (get_or segs i d) in let q : ℕ × ℕ = (p.0, p.1 + more) in pair_of new ≡ q)) → map pair_of (set segs i new) ≡ with_more more (map pair_of segs)
pairs-more more i [] new last e = absurd (omega (arith, last))
pairs-more more zero (s ∷ []) new last e = ap (λ (p : ℕ × ℕ). p ∷ []) (e s)
pairs-more more zero (s ∷ t ∷ ts) new last e = absurd (omega (arith, last))
pairs-more more (suc i) (s ∷ []) new last e = absurd (omega (arith, last))
pairs-more more (suc i) (s ∷ t ∷ ts) new last e = ap (λ (ps : List (ℕ × ℕ)). pair_of s ∷ ps) (pairs-more more i (t ∷ ts) new (omega (arith, last)) (λ d. e d))

-- where each segment but the last is full, those with a carved cell stand first
front-last : (i : ℕ) (segs : List Cells) (new : Cells) → suc i ≡ length segs → All IsFull segs → IsFront (set segs i new)
front-last i [] new last full = tt
front-last zero (s ∷ []) new last full = (All-nil (λ (t : Cells). 1 ≤ t.carved → IsFull new), tt)
front-last zero (s ∷ t ∷ ts) new last full = absurd (omega (arith, last))
front-last (suc i) (s ∷ ss) new last full =
    (λ k d lt some. All-head IsFull s ss full, front-last i ss new (omega (arith, last)) (All-tail IsFull s ss full))

module _ (element more i : ℕ) (segs : List Cells) (u : Cells) (k : AreCellular element segs) (some : 1 ≤ element) (last : suc i ≡ length segs) (full : All IsFull segs)
    (is : u ≡ with_more_bytes (cell_for element) more (get_or segs i u)) (size : IsSegmentSize (length (get_or segs i u).bytes + more)) (fits : cell_for element ≤ more) where
  abbrev cell : ℕ
  cell = cell_for element

  abbrev o : Cells
  o = get_or segs i u

  abbrev longer : List Cells
  longer = set segs i u

  -- how many cells come
  abbrev come : ℕ
  come = (length o.bytes + more - 32) / cell - length o.pairs

  within : i < length segs
  within = omega (arith, last)

  number : u.number ≡ o.number
  number = ap (λ (s : Cells). s.number) is

  carved : u.carved ≡ o.carved
  carved = ap (λ (s : Cells). s.carved) is

  pairs : u.pairs ≡ o.pairs ++ replicate come (0, 0)
  pairs = ap (λ (s : Cells). s.pairs) is

  bytes : u.bytes ≡ o.bytes ++ replicate more 0
  bytes = ap (λ (s : Cells). s.bytes) is

  long : length u.bytes ≡ length o.bytes + more
  long = ap length bytes ∙ (length-append o.bytes (replicate more 0) ∙ ap (λ n. length o.bytes + n) (length-replicate more 0))

  own : IsCellular cell element o
  own = k.cellular i u within

  own-full : o.carved ≡ length o.pairs
  own-full = full i u within

  own-size : IsSegmentSize (length o.bytes)
  own-size = (all-legal segs k.segments i u within).size

  grows : length o.pairs < (length o.bytes + more - 32) / cell
  grows = let lt = more-cells cell (length o.bytes) more (omega (arith, some)) (let least = own-size.least in omega (arith, least)) fits in omega (arith, lt, own.count)

  many : length u.pairs ≡ (length o.bytes + more - 32) / cell
  many = ap length pairs ∙ (length-append o.pairs (replicate come (0, 0)) ∙ (let extra = length-replicate {A = ℕ × ℕ} come (0, 0) in omega (arith, grows, extra)))

  front-bytes : take (length o.bytes) u.bytes ≡ take (length o.bytes) o.bytes
  front-bytes = ap (take (length o.bytes)) bytes ∙ (take_at o.bytes (replicate more 0) (length o.bytes) refl ∙ sym (take_all (length o.bytes) o.bytes (omega arith)))

  cellular-longer : IsCellular cell element u
  cellular-longer =
      let all : (P : ℕ × ℕ → Type 0) → P (0, 0) → All P o.pairs → All P u.pairs =
      λ P z h. subst (λ (xs : List (ℕ × ℕ)). All P xs) (sym pairs) (All-append P o.pairs (replicate come (0, 0)) h (All-replicate P come (0, 0) z)) in
      record {
        count = many ∙ ap (λ n. (n - 32) / cell) (sym long);
        some = omega (arith, many, grows);
        few = omega (arith, carved, own-full, many, grows);
        fresh = subst (λ (xs : List (ℕ × ℕ)). All (λ (c : ℕ × ℕ). c.0 ≡ 0) xs)
            (sym (ap (λ n. drop n u.pairs) (carved ∙ own-full) ∙ (ap (drop (length o.pairs)) pairs ∙ drop_at o.pairs (replicate come (0, 0)) (length o.pairs) refl)))
            (All-replicate (λ (c : ℕ × ℕ). c.0 ≡ 0) come (0, 0) refl);
        fits = all (λ c. c.0 ≤ element) (omega arith) own.fits;
        blank = all (λ c. c.0 ≡ 0 → c.1 ≡ 0) (λ e. refl) own.blank;
      }

  pub cellular-more : AreCellular element longer
  cellular-more =
      record {
        most = k.most;
        unset = λ e. absurd (omega (arith, e, some));
        segments = segments-sized i segs u within number (subst IsSegmentSize (sym long) size) k.segments;
        cellular = All-set (IsCellular cell element) segs i u cellular-longer k.cellular;
      }

  -- the last segment is the first that isn't full
  pub open-more : IsFirstOpen longer i
  open-more =
      record {
        within = omega (arith, within, length-set segs i u);
        first = record {
          full = subst (λ (ss : List Cells). All IsFull ss) (sym (take-set segs i u)) (λ j d lt. full-take j d lt);
          room = λ lt d. subst (λ (s : Cells). s.carved < length s.pairs) (sym (get_or-set_same segs i u d within)) (omega (arith, carved, own-full, many, grows));
        };
      }
    where
      full-take : All IsFull (take i segs)
      full-take = All-take IsFull i segs full

  own-alone : IsAlone o.number segs i
  own-alone = alone o.number i segs k.segments within (λ d. ap (λ (s : Cells). s.number) (get_or_default segs i d u within))

  was : cells_at o.number segs ≡ o
  was = let al = own-alone in cells-first o.number segs i u within al.before refl

  is-now : cells_at o.number longer ≡ u
  is-now = let al = own-alone in cells-set o.number i segs u within al.before number

  elsewhere : (m : ℕ) → (m ≡ o.number → ⊥) → cells_at m longer ≡ cells_at m segs
  elsewhere m other = let al = own-alone in cells-other o.number m i segs u al.number within number other

  -- a freed cell lies below the old end
  module _ (p : ℕ × ℕ) (f : IsFreeCell cell segs p) where
    abbrev index : ℕ
    index = index_at cell p.1

    listed : p.0 ≡ o.number → index < length o.pairs
    listed e =
        let old : cells_at p.0 segs ≡ o = ap (λ m. cells_at m segs) e ∙ was in
        let below : index < o.carved = subst (λ (s : Cells). index < s.carved) old f.below in
        omega (arith, below, own-full)

    keeps : KeepsWord segs longer p
    keeps =
        ⊎_elim
        (λ (e : p.0 ≡ o.number).
        let has = has-cell cell element index o own own-size (listed e) in
        let end : p.1 + 8 ≤ length o.bytes = let inside = has.inside in let at = f.offset in omega (arith, inside, at, some) in
        ap (λ m. link_word p.1 (cells_at m longer).bytes) e
        ∙ (ap (λ (s : Cells). link_word p.1 s.bytes) is-now
        ∙ (ap (from_le_bytes w64) (part-front o.bytes u.bytes (length o.bytes) front-bytes p.1 8 end)
        ∙ (ap (λ (s : Cells). link_word p.1 s.bytes) (sym was)
        ∙ ap (λ m. link_word p.1 (cells_at m segs).bytes) (sym e)))))
        (λ (e : p.0 ≡ o.number → ⊥). ap (λ (s : Cells). link_word p.1 s.bytes) (elsewhere p.0 e))
        (cases_eq p.0 o.number)

    free : IsFreeCell cell longer p
    free =
        ⊎_elim
        (λ (e : p.0 ≡ o.number).
        let old : cells_at p.0 segs ≡ o = ap (λ m. cells_at m segs) e ∙ was in
        let new : cells_at p.0 longer ≡ u = ap (λ m. cells_at m longer) e ∙ is-now in
        record {
          offset = f.offset;
          below = subst (λ n. index < n) (sym (ap (λ (s : Cells). s.carved) new ∙ (carved ∙ ap (λ (s : Cells). s.carved) (sym old)))) f.below;
          empty = ap (λ (s : Cells). (pair_at index s).0) new
              ∙ (ap (λ (xs : List (ℕ × ℕ)). (get_or xs index (0, 0)).0) pairs
              ∙ (ap (λ (q : ℕ × ℕ). q.0) (get_or_append_left o.pairs (replicate come (0, 0)) (0, 0) index (listed e))
              ∙ (ap (λ (s : Cells). (pair_at index s).0) (sym old) ∙ f.empty)));
        })
        (λ (e : p.0 ≡ o.number → ⊥).
        let same = elsewhere p.0 e in
        record {
          offset = f.offset;
          below = subst (λ (s : Cells). index < s.carved) (sym same) f.below;
          empty = ap (λ (s : Cells). (pair_at index s).0) same ∙ f.empty;
        })
        (cases_eq p.0 o.number)

  kept-more : (a : ℕ) (ps : List (ℕ × ℕ)) → IsPoolOf element segs a ps → IsPoolOf element longer a ps
  kept-more a ps h =
      record {
        cells = cellular-more;
        front = front-last i segs u last full;
        chain = chain-same segs longer a ps h.chain (λ j d lt. keeps (get_or ps j d) (h.free j d lt));
        free = λ j d lt. free (get_or ps j d) (h.free j d lt);
        once = h.once;
      }

  pub pool-more : (a : ℕ) → IsPool element segs a → IsPool element longer a
  pool-more a h = pool-of element longer a (freed_cells segs a) (kept-more a (freed_cells segs a) h)

  pub freed-more : (a : ℕ) → IsPool element segs a → freed_cells longer a ≡ freed_cells segs a
  freed-more a h = pool-freed element longer a (freed_cells segs a) (kept-more a (freed_cells segs a) h)

  -- no block comes or goes
  blocks-more : segment_blocks cell u ≡ segment_blocks cell o
  blocks-more =
      let wide : All (λ (c : ℕ × ℕ). c.0 ≤ cell) o.pairs = All-weaker (λ (c : ℕ × ℕ). c.0 ≤ element) (λ (c : ℕ × ℕ). c.0 ≤ cell) (λ c le. omega (arith, le, fits-cell element)) o.pairs own.fits in
      let end : 32 + length o.pairs * cell ≤ length o.bytes = ends in
      ap (λ n. cell_blocks n u.bytes cell 32 u.pairs) number
      ∙ (ap (cell_blocks o.number u.bytes cell 32) pairs
      ∙ (blocks-then o.number u.bytes cell 32 come o.pairs
      ∙ blocks-below o.number cell 32 (length o.bytes) o.bytes u.bytes o.pairs front-bytes wide end))
    where
      ends : 32 + length o.pairs * cell ≤ length o.bytes
      ends =
          let q : ℕ = (length o.bytes - 32) / cell in
          let r : ℕ = (length o.bytes - 32) % cell in
          let least = own-size.least in
          let whole : cell * q + r ≡ length o.bytes - 32 = omega (arith, some) in
          let all : length o.pairs * cell ≡ cell * q = ap (λ n. n * cell) own.count ∙ (omega arith) in
          omega (arith, whole, all, least)

  pub layout-more : layout_by cell longer ≡ with_grant (layout_by cell segs) (record { number = o.number; bytes = more; fresh = false })
  unfolding layout_by
  layout-more =
      let segments : map pair_of longer ≡ with_more more (map pair_of segs) =
      pairs-more more i segs u last (λ d. (λ j. (number j, long j)) ∙ ap (λ (s : Cells). (let q : ℕ × ℕ = (s.number, length s.bytes + more) in q)) (get_or_default segs i u d within)) in
      let blocks : flat_map (segment_blocks cell) longer ≡ flat_map (segment_blocks cell) segs =
      flat-stays (segment_blocks cell) i segs u within (λ d. blocks-more ∙ ap (segment_blocks cell) (get_or_default segs i u d within)) in
      λ j. record { segments = segments j; blocks = in_order (blocks j) }

  pub carved-stays : carved_by longer ≡ carved_by segs
  carved-stays =
      let count : Cells → ℕ × ℕ = λ s. (s.number, s.carved) in
      let test : ℕ × ℕ → Bool = λ c. ltb 0 c.1 in
      ap (filter test) (map-stays count i segs u within (λ d. (λ j. (number j, carved j)) ∙ ap count (get_or_default segs i u d within)))
