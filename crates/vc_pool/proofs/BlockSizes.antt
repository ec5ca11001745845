-- The sizes of the blocks in the cells of a pool's segments.
use Rattle.vc_base.proofs.Common.{◌≡◌, ℕ, ◌+◌, ◌-◌, ◌*◌, ◌/◌, ◌<◌, ◌≤◌, min, true, false, eqb, List, [], ◌∷◌, ◌++◌, map, length, get_or, take, drop, All, sum, flat_map, sym, refl, ap, ◌∙◌, ⊎_elim, append-nil, mul-le-mul_left, div-mul-le_self, arith, length-append, length-drop, take-append-drop, get_or-drop, eq-eqb, ne_eqb, cases_Bool, cases_eq, All-append, All-cons, All-head, All-map, All-nil, All-tail, sum_by-cons, drop-map, drop_more, length-map, map-append, take_rest, Block, block_sizes, cell_count, cell_for}
use Rattle.std.proofs.lemmas.List.{drop_min}
use Rattle.std.proofs.lemmas.List.Elements.{All-drop}
use Rattle.vc_seg.specs.Tally.{HasRoom, tally_of}
use Rattle.vc_seg.specs.declared.tally.Tally.{Tally}
use Rattle.vc_seg.proofs.Tallies.{sizes-most, tallied-order, tally_of-bytes, tally_of-count}
use Rattle.vc_pool.specs.Cells.Blocks.{cell_blocks, segment_blocks, layout_by, pair_of}
use Rattle.vc_pool.specs.Cells.Cells.{Cells, cells_of}
use Rattle.vc_pool.specs.Cells.Freed.{cell_total}
use Rattle.vc_pool.specs.Cells.Kept.{AreCellular, IsCellular, segment_of}
use Rattle.vc_pool.specs.Cells.Place.{cells_in, pair_in}
use Rattle.vc_pool.specs.declared.cells.segment.PoolSegment.{PoolSegment}
use Rattle.vc_pool.proofs.BlockPlaces.{IsCell-for, all-legal, element-some}
use Rattle.vc_pool.proofs.SegmentList.{pairs-in}
use Rattle.vc_seg.specs.Segment.{AreSegments}
use Rattle.vc_pool.specs.Sizes.{element_of, sizes_in}

-- the sizes of the blocks in the cells of segments
abbrev pub sizes_of : List Cells → List ℕ
sizes_of segs = flat_map (λ s. sizes_in s.pairs) segs

-- the blocks in cells have the sizes of their pairs
sizes-from : (n : ℕ) (bytes : List ℕ) (cell off : ℕ) (cs : List (ℕ × ℕ)) → map (λ b. b.size) (cell_blocks n bytes cell off cs) ≡ sizes_in cs
sizes-from n bytes cell off [] = refl
sizes-from n bytes cell off (c ∷ cs) =
    let rest = sizes-from n bytes cell (off + cell) cs in
    ⊎_elim
    (λ (t : eqb c.0 0 ≡ true). rw t rest)
    (λ (t : eqb c.0 0 ≡ false). rw t (ap (λ ns. c.0 ∷ ns) rest))
    (cases_Bool (eqb c.0 0))

sizes-flat : (cell : ℕ) (segs : List Cells) → map (λ b. b.size) (flat_map (segment_blocks cell) segs) ≡ sizes_of segs
sizes-flat cell [] = refl
sizes-flat cell (s ∷ ss) =
    map-append (λ (b : Block ℕ). b.size) (segment_blocks cell s) (flat_map (segment_blocks cell) ss)
    ∙ (ap (λ ns. ns ++ map (λ (b : Block ℕ). b.size) (flat_map (segment_blocks cell) ss)) (sizes-from s.number s.bytes cell 32 s.pairs)
    ∙ ap (λ ns. sizes_in s.pairs ++ ns) (sizes-flat cell ss))

pub tally-layout : (cell : ℕ) (segs : List Cells) → tally_of (sizes_of segs) ≡ tally_of (block_sizes (layout_by cell segs))
unfolding layout_by
tally-layout cell segs = sym (tallied-order (tally_of []) (flat_map (segment_blocks cell) segs) ∙ ap tally_of (sizes-flat cell segs))

-- pairs without a block have no size
sizes-none : (cs : List (ℕ × ℕ)) → All (λ c. c.0 ≡ 0) cs → sizes_in cs ≡ []
sizes-none [] h = refl
sizes-none (c ∷ cs) h =
    let P : ℕ × ℕ → Type 0 = λ d. d.0 ≡ 0 in
    rw (All-head P c cs h) (sizes-none cs (All-tail P c cs h))

sizes-append : (cs ds : List (ℕ × ℕ)) → sizes_in (cs ++ ds) ≡ sizes_in cs ++ sizes_in ds
sizes-append [] ds = refl
sizes-append (c ∷ cs) ds =
    ⊎_elim
    (λ (t : eqb c.0 0 ≡ true). rw t (sizes-append cs ds))
    (λ (t : eqb c.0 0 ≡ false). rw t (ap (λ ns. c.0 ∷ ns) (sizes-append cs ds)))
    (cases_Bool (eqb c.0 0))

-- the carved cells have them all
pub sizes-front : (n : ℕ) (cs : List (ℕ × ℕ)) → All (λ c. c.0 ≡ 0) (drop n cs) → sizes_in (take n cs) ≡ sizes_in cs
sizes-front n cs h =
    sym (append-nil (sizes_in (take n cs)))
    ∙ (ap (λ ns. sizes_in (take n cs) ++ ns) (sym (sizes-none (drop n cs) h))
    ∙ (sym (sizes-append (take n cs) (drop n cs)) ∙ ap sizes_in (take-append-drop n cs)))

-- there are few
sizes-length : (cs : List (ℕ × ℕ)) → length (sizes_in cs) ≤ length cs
sizes-length [] = omega arith
sizes-length (c ∷ cs) =
    let rest = sizes-length cs in
    ⊎_elim
    (λ (t : eqb c.0 0 ≡ true). rw t (omega (arith, rest)))
    (λ (t : eqb c.0 0 ≡ false). rw t (omega (arith, rest)))
    (cases_Bool (eqb c.0 0))

sizes-fit : (most : ℕ) (cs : List (ℕ × ℕ)) → All (λ c. c.0 ≤ most) cs → All (λ n. n ≤ most) (sizes_in cs)
sizes-fit most [] h = All-nil (λ n. n ≤ most)
sizes-fit most (c ∷ cs) h =
    let P : ℕ × ℕ → Type 0 = λ d. d.0 ≤ most in
    let rest = sizes-fit most cs (All-tail P c cs h) in
    ⊎_elim
    (λ (t : eqb c.0 0 ≡ true). rw t rest)
    (λ (t : eqb c.0 0 ≡ false). rw t (All-cons (λ n. n ≤ most) c.0 (sizes_in cs) (All-head P c cs h) rest))
    (cases_Bool (eqb c.0 0))

-- a segment has few cells
cells-few : (cell bytes : ℕ) → 32 ≤ cell → bytes ≤ 33554432 → (bytes - 32) / cell ≤ 1048576
cells-few cell bytes least most =
    let q : ℕ = (bytes - 32) / cell in
    let all : q * cell ≤ bytes - 32 = div-mul-le_self (bytes - 32) cell in
    let low : q * 32 ≤ q * cell = mul-le-mul_left q least in
    omega (arith, all, low, most)

pairs-few : (element : ℕ) (segs : List Cells) → AreCellular element segs → All (λ s. length s.pairs ≤ 1048576) segs
pairs-few element segs h = λ k d lt.
    let s : Cells = get_or segs k d in
    let some : 1 ≤ element = element-some element segs h (omega (arith, lt)) in
    let size = (all-legal segs h.segments k d lt).size in
    omega (arith, cells-few (cell_for element) (length s.bytes) ((IsCell-for element some h.most).least) size.most, (h.cellular k d lt).count)

many : (segs : List Cells) → All (λ s. length s.pairs ≤ 1048576) segs → length (sizes_of segs) ≤ length segs * 1048576
many [] h = omega arith
many (s ∷ ss) h =
    let P : Cells → Type 0 = λ t. length t.pairs ≤ 1048576 in
    omega (arith, All-head P s ss h, many ss (All-tail P s ss h), sizes-length s.pairs, length-append (sizes_in s.pairs) (sizes_of ss))

fitting : (most : ℕ) (segs : List Cells) → All (λ s. All (λ c. c.0 ≤ most) s.pairs) segs → All (λ n. n ≤ most) (sizes_of segs)
fitting most [] h = All-nil (λ n. n ≤ most)
fitting most (s ∷ ss) h =
    let P : Cells → Type 0 = λ t. All (λ (c : ℕ × ℕ). c.0 ≤ most) t.pairs in
    All-append (λ n. n ≤ most) (sizes_in s.pairs) (sizes_of ss) (sizes-fit most s.pairs (All-head P s ss h)) (fitting most ss (All-tail P s ss h))

pub room-blocks : (element : ℕ) (segs : List Cells) → AreCellular element segs → HasRoom (tally_of []) (sizes_of segs)
room-blocks element segs h =
    let known = length-map segs segment_of in
    let long = many segs (pairs-few element segs h) in
    let all = sizes-most 16777216 (sizes_of segs) (fitting 16777216 segs (λ k d lt j e within. let here = (h.cellular k d lt).fits j e within in omega (arith, here))) in
    record { count = omega (arith, known, long); bytes = omega (arith, all, known, long) }

-- a cell that wasn't carved has no block
pub fresh-at : (n k : ℕ) (cs : List (ℕ × ℕ)) → All (λ c. c.0 ≡ 0) (drop n cs) → n ≤ k → k < length cs → (get_or cs k (0, 0)).0 ≡ 0
fresh-at n k cs h le lt =
    let here : (get_or (drop n cs) (k - n) (0, 0)).0 ≡ 0 = h (k - n) (0, 0) (omega (arith, le, lt, length-drop n cs)) in
    let same : n + (k - n) ≡ k = omega (arith, le) in
    sym (ap (λ (c : ℕ × ℕ). c.0) (get_or-drop n cs (k - n) (0, 0) ∙ ap (λ i. get_or cs i (0, 0)) same)) ∙ here

-- how many cells segments have
total-few : (segs : List Cells) → All (λ s. length s.pairs ≤ 1048576) segs → cell_total segs ≤ length segs * 1048576
total-few [] h = omega arith
total-few (s ∷ ss) h =
    let P : Cells → Type 0 = λ t. length t.pairs ≤ 1048576 in
    omega (arith, All-head P s ss h, total-few ss (All-tail P s ss h))

pub total-most : (element : ℕ) (segs : List Cells) → AreCellular element segs → cell_total segs ≤ 1072693248
total-most element segs h =
    omega (arith, length-map segs segment_of, total-few segs (pairs-few element segs h))

total-sum : (cell element : ℕ) (segs : List Cells) → All (IsCellular cell element) segs → cell_total segs ≡ sum (map (λ s. (s.1 - 32) / cell) (map pair_of segs))
total-sum cell element [] h = refl
total-sum cell element (s ∷ ss) h =
    let more = sum_by-cons (λ (m : ℕ). m) ((length s.bytes - 32) / cell) (map (λ (x : ℕ × ℕ). (x.1 - 32) / cell) (map pair_of ss)) in
    omega (arith, (All-head (IsCellular cell element) s ss h).count, total-sum cell element ss (All-tail (IsCellular cell element) s ss h), more)

pub total-count : (element : ℕ) (segs : List Cells) → AreCellular element segs → cell_total segs ≡ cell_count (element_of element) (map pair_of segs)
total-count element segs h =
    ⊎_elim
    (λ (e : element ≡ 0). rw (eq-eqb element 0 e) (none segs (h.unset e)))
    (λ (e : element ≡ 0 → ⊥). rw (ne_eqb element 0 e) (total-sum (cell_for element) element segs h.cellular))
    (cases_eq element 0)
  where
    none : (ss : List Cells) → length ss ≡ 0 → cell_total ss ≡ 0
    none [] e = refl
    none (s ∷ ss) e = absurd (omega (arith, e))

-- the cells of the segments that are left
pub total-next : (segs : List PoolSegment) (i : ℕ) (d : PoolSegment) → i < length segs → d ≡ get_or segs i d → cell_total (cells_in (drop i segs)) ≡ length d.cells.items + cell_total (cells_in (drop (i + 1) segs))
total-next segs i d lt is = ap (λ (xs : List PoolSegment). cell_total (cells_in xs)) (drop_more segs i d lt) ∙ ap (λ (x : PoolSegment). length x.cells.items + cell_total (cells_in (drop (i + 1) segs))) (sym is)

pub sizes-next : (segs : List PoolSegment) (i : ℕ) (d : PoolSegment) → i < length segs → d ≡ get_or segs i d → sizes_of (cells_in (drop i segs)) ≡ sizes_in d.cells.items ++ sizes_of (cells_in (drop (i + 1) segs))
sizes-next segs i d lt is = ap (λ (xs : List PoolSegment). sizes_of (cells_in xs)) (drop_more segs i d lt) ∙ ap (λ (x : PoolSegment). sizes_in x.cells.items ++ sizes_of (cells_in (drop (i + 1) segs))) (sym is)

-- the sizes of the segments behind the first ones are few, and so is their sum
module _ (segs : List Cells) (h : AreSegments (map segment_of segs)) (first : ℕ) where
  abbrev behind : List ℕ
  behind = map (λ (s : ℕ × ℕ). s.1) (drop first (map pair_of segs))

  behind-few : length behind ≤ 1023
  behind-few =
      omega (arith, length-map segs segment_of, length-map (drop first (map pair_of segs)) (λ (s : ℕ × ℕ). s.1), length-drop first (map pair_of segs), length-map segs pair_of)

  behind-legal : All (λ n. n ≤ 33554432) behind
  behind-legal =
      All-map (λ n. n ≤ 33554432) (λ (s : ℕ × ℕ). s.1) (drop first (map pair_of segs))
      (All-drop (λ (s : ℕ × ℕ). s.1 ≤ 33554432) first (map pair_of segs)
      (All-map (λ (s : ℕ × ℕ). s.1 ≤ 33554432) pair_of segs (λ k d lt. (all-legal segs h k d lt).size.most)))

  pub room-behind : HasRoom (tally_of []) behind
  room-behind =
      let few = behind-few in
      record { count = omega (arith, few); bytes = omega (arith, few, sizes-most 33554432 behind behind-legal) }

  pub count-behind : (tally_of behind).count ≤ 1023
  count-behind =
      omega (arith, behind-few, tally_of-count behind)

-- a tally of all segments
module _ (segs : List PoolSegment) (t : Tally) (is : t ≡ tally_of (map (λ s. s.1) (map pair_in segs))) where
  pub segments-count : t.count ≡ length (map pair_of (cells_in segs))
  segments-count =
      ap (λ (u : Tally). u.count) is
      ∙ (tally_of-count (map (λ (s : ℕ × ℕ). s.1) (map pair_in segs)) ∙ (length-map (map pair_in segs) (λ (s : ℕ × ℕ). s.1) ∙ ap length (pairs-in segs)))

  pub segments-bytes : t.bytes ≡ sum (map (λ s. s.1) (map pair_of (cells_in segs)))
  segments-bytes = ap (λ (u : Tally). u.bytes) is ∙ (tally_of-bytes (map (λ (s : ℕ × ℕ). s.1) (map pair_in segs)) ∙ ap (λ (ps : List (ℕ × ℕ)). sum (map (λ (s : ℕ × ℕ). s.1) ps)) (pairs-in segs))

-- the slice behind the lesser of a number and their length
pub slice-behind : (segs : List PoolSegment) (first k : ℕ) → k ≡ min first (length segs) → map pair_in (take (length segs - k) (drop k segs)) ≡ drop first (map pair_of (cells_in segs))
slice-behind segs first k is =
    pairs-in (take (length segs - k) (drop k segs))
    ∙ (ap (λ (xs : List PoolSegment). map pair_of (cells_in xs)) (take_rest segs k ∙ (ap (λ n. drop n segs) is ∙ drop_min first segs))
    ∙ (ap (map pair_of) (sym (drop-map cells_of first segs)) ∙ sym (drop-map pair_of first (cells_in segs))))
