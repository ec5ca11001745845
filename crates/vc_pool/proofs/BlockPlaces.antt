-- Each block stands in a cell, and its address tells its place.
use Rattle.vc_base.proofs.Common.{◌≡◌, ℕ, suc, ◌+◌, ◌-◌, ◌*◌, ◌/◌, ◌%◌, ◌<◌, ◌≤◌, ◌≢◌, List, [], ◌∷◌, map, length, get_or, All, AllPairs, flat_map, sym, refl, ap, ◌∙◌, subst, ⊎_elim, mul-le-mul_right, div-add-mod', arith, eq-eqb, ne_eqb, cases_eq, All-append, All-head, All-nil, All-tail, All-weaker, get_or-map, length-map, address, place_of, IsSegmentSize, Block, address_of, cell_for, cell_offset, HasBlock}
use Rattle.std.proofs.lemmas.Nat.{div-mul-add}
use Rattle.std.proofs.Math.Nat.{mul-mod_right}
use Rattle.vc_model.proofs.Pairs.{AllPairs-head, AllPairs-tail}
use Rattle.vc_seg.specs.Segment.{AreSegments, IsRegionSegment}
use Rattle.vc_seg.proofs.Blocks.{place_of-address}
use Rattle.vc_seg.proofs.InOrder.{All-in_order}
use Rattle.vc_pool.specs.Cells.Blocks.{block_of_cell, cell_blocks, segment_blocks, layout_by}
use Rattle.vc_pool.specs.Cells.Cells.{Cells, HasCell, IsCell, pair_at}
use Rattle.vc_pool.specs.Cells.Freed.{IsFreeCell, cells_at, index_at}
use Rattle.vc_pool.specs.Cells.Kept.{AreCellular, IsCellular, segment_of}
use Rattle.vc_pool.specs.Cells.Place.{IsListed, IsBlockCell}
use Rattle.vc_pool.proofs.OneCell.{All-block, others-of}
use Rattle.vc_pool.proofs.OneSegment.{numbers-apart}

-- the cells of an element size
pub IsCell-for : (element : ℕ) → 1 ≤ element → element ≤ 16777216 → IsCell (cell_for element)
IsCell-for element some most =
    record { least = omega (arith, some); most = omega (arith, most); multiple = mul-mod_right 32 ((element + 32 - 1) / 32) }

pub fits-cell : (element : ℕ) → element ≤ cell_for element
fits-cell element = omega arith

-- a cell begins at a multiple of 32
pub offset-multiple : (cell index : ℕ) → cell % 32 ≡ 0 → cell_offset cell index % 32 ≡ 0
offset-multiple cell index multiple =
    let q : ℕ = cell / 32 in
    let is : cell ≡ 32 * q = omega (arith, multiple) in
    let off : cell_offset cell index ≡ 32 * (1 + index * q) = ap (λ c. 32 + index * c) is ∙ (omega arith) in
    ap (λ x. x % 32) off ∙ mul-mod_right 32 (1 + index * q)

-- and its index is told by that
pub index-is : (cell index off : ℕ) → 1 ≤ cell → off ≡ cell_offset cell index → (off - 32) / cell ≡ index
index-is cell index off some e =
    let same : off - 32 ≡ index * cell + 0 = omega (arith, e) in
    ap (λ x. x / cell) same ∙ div-mul-add index cell 0 (omega (arith, some))

pub index-same : (cell i j : ℕ) → 1 ≤ cell → cell_offset cell i ≡ cell_offset cell j → i ≡ j
index-same cell i j some e = sym (index-is cell i (cell_offset cell i) some refl) ∙ index-is cell j (cell_offset cell i) some e

-- a segment has each cell that it lists
pub has-cell : (cell element index : ℕ) (o : Cells) → IsCellular cell element o → IsSegmentSize (length o.bytes) → index < length o.pairs → HasCell cell index o
has-cell cell element index o h size listed =
    let many : (index + 1) * cell ≤ (length o.bytes - 32) / cell * cell = mul-le-mul_right cell (omega (arith, listed, h.count)) in
    record { listed = listed; inside = omega (arith, many, div-add-mod' (length o.bytes - 32) cell); most = size.most }

-- what is true of each segment is true of the one of a number
pub at-number : (P : Cells → Type 0) (n : ℕ) (segs : List Cells) → All P segs → 1 ≤ length (cells_at n segs).pairs → P (cells_at n segs)
at-number P n [] h some = absurd (omega (arith, some))
at-number P n (s ∷ ss) h some =
    ⊎_elim
    (λ (e : s.number ≡ n). rw (eq-eqb s.number n e) (All-head P s ss h))
    (λ (e : s.number ≡ n → ⊥). let rest : 1 ≤ length (cells_at n ss).pairs = rw (ne_eqb s.number n e) at some in rw (ne_eqb s.number n e) (at-number P n ss (All-tail P s ss h) rest))
    (cases_eq s.number n)

-- which has that number
pub number-there : (n : ℕ) (segs : List Cells) → 1 ≤ length (cells_at n segs).pairs → (cells_at n segs).number ≡ n
number-there n [] some = absurd (omega (arith, some))
number-there n (s ∷ ss) some =
    ⊎_elim
    (λ (e : s.number ≡ n). rw (eq-eqb s.number n e) e)
    (λ (e : s.number ≡ n → ⊥). rw (ne_eqb s.number n e) (number-there n ss (rw (ne_eqb s.number n e) at some)))
    (cases_eq s.number n)

pub all-few : (cell element n : ℕ) (segs : List Cells) → All (IsCellular cell element) segs → (cells_at n segs).carved ≤ length (cells_at n segs).pairs
all-few cell element n [] h = omega arith
all-few cell element n (s ∷ ss) h =
    ⊎_elim
    (λ (e : s.number ≡ n). rw (eq-eqb s.number n e) ((All-head (IsCellular cell element) s ss h).few))
    (λ (e : s.number ≡ n → ⊥). rw (ne_eqb s.number n e) (all-few cell element n ss (All-tail (IsCellular cell element) s ss h)))
    (cases_eq s.number n)

pub all-legal : (segs : List Cells) → AreSegments (map segment_of segs) → All (λ s. IsRegionSegment (segment_of s)) segs
all-legal segs h = λ k d lt. subst IsRegionSegment (get_or-map segment_of segs k d (segment_of d) lt) (h.legal k (segment_of d) (omega (arith, lt, length-map segs segment_of)))

-- a block is in a cell of a segment, and has the size of its pair
pub record IsInCell (cell : ℕ) (s : Cells) (b : Block ℕ) : Type 0 where
  pub index : ℕ
  pub offset : b.off ≡ cell_offset cell index
  pub listed : index < length s.pairs
  pub size : b.size ≡ (pair_at index s).0
  pub some : 1 ≤ b.size

-- of the one of its number
abbrev pub IsIn : ℕ → List Cells → Block ℕ → Type 0
IsIn cell segs b = IsInCell cell (cells_at b.seg segs) b

-- the same of a run of cells from an offset on
record IsOf (n cell off : ℕ) (cs : List (ℕ × ℕ)) (b : Block ℕ) : Type 0 where
  index : ℕ
  seg : b.seg ≡ n
  offset : b.off ≡ off + index * cell
  listed : index < length cs
  size : b.size ≡ (get_or cs index (0, 0)).0
  some : 1 ≤ b.size

run-of : (n cell off : ℕ) (bytes : List ℕ) (cs : List (ℕ × ℕ)) → All (IsOf n cell off cs) (cell_blocks n bytes cell off cs)
run-of n cell off bytes [] = All-nil (IsOf n cell off [])
run-of n cell off bytes (c ∷ cs) =
    All-append (IsOf n cell off (c ∷ cs)) (block_of_cell n bytes off c) (cell_blocks n bytes cell (off + cell) cs)
    (All-block (IsOf n cell off (c ∷ cs)) n off bytes c (λ some. record { index = 0; seg = refl; offset = omega arith; listed = omega arith; size = refl; some = omega (arith, some) }))
    (All-weaker (IsOf n cell (off + cell) cs) (IsOf n cell off (c ∷ cs))
    (λ b h.
    let offset = h.offset in
    let listed = h.listed in
    record { index = suc h.index; seg = h.seg; offset = omega (arith, offset); listed = omega (arith, listed); size = h.size; some = h.some })
    (cell_blocks n bytes cell (off + cell) cs)
    (run-of n cell (off + cell) bytes cs))

-- each block is in a cell
all-in : (cell : ℕ) (segs : List Cells) → AllPairs (λ (a b : Cells). a.number ≢ b.number) segs → All (IsIn cell segs) (flat_map (segment_blocks cell) segs)
all-in cell [] apart = All-nil (IsIn cell [])
all-in cell (s ∷ ss) apart =
    let R : Cells → Cells → Type 0 = λ x y. x.number ≢ y.number in
    let P : Block ℕ → Type 0 = IsIn cell (s ∷ ss) in
    let heads = AllPairs-head R s ss apart in
    let rest = all-in cell ss (AllPairs-tail R s ss apart) in
    let others = others-of s.number cell ss (λ k d lt e. heads k d lt (sym e)) in
    All-append P (segment_blocks cell s) (flat_map (segment_blocks cell) ss)
    (All-weaker (IsOf s.number cell 32 s.pairs) P
    (λ b h.
    let is : cells_at b.seg (s ∷ ss) ≡ s = rw (eq-eqb s.number b.seg (sym h.seg)) refl in
    subst (λ (x : Cells). IsInCell cell x b) (sym is) (record { index = h.index; offset = h.offset; listed = h.listed; size = h.size; some = h.some }))
    (segment_blocks cell s) (run-of s.number cell 32 s.bytes s.pairs))
    (λ k d lt.
    let b : Block ℕ = get_or (flat_map (segment_blocks cell) ss) k d in
    let is : cells_at b.seg (s ∷ ss) ≡ cells_at b.seg ss = rw (ne_eqb s.number b.seg (λ e. others k d lt (sym e))) refl in
    subst (λ (x : Cells). IsInCell cell x b) (sym is) (rest k d lt))

-- so one is in the cell at its place
in-live : (cell : ℕ) (segs : List Cells) (b : Block ℕ) → IsIn cell segs b → IsBlockCell cell segs (b.seg, b.off)
in-live cell segs b h =
    record { index = h.index; offset = h.offset; listed = h.listed; size = let size = h.size in let some = h.some in omega (arith, size, some) }

pub all-live : (cell : ℕ) (segs : List Cells) → AllPairs (λ (a b : Cells). a.number ≢ b.number) segs → All (λ b. IsBlockCell cell segs (b.seg, b.off)) (flat_map (segment_blocks cell) segs)
all-live cell segs apart = All-weaker (IsIn cell segs) (λ (b : Block ℕ). IsBlockCell cell segs (b.seg, b.off)) (in-live cell segs) (flat_map (segment_blocks cell) segs) (all-in cell segs apart)

pub blocks-in : (element : ℕ) (segs : List Cells) → AreCellular element segs → All (IsIn (cell_for element) segs) (layout_by (cell_for element) segs).blocks
unfolding layout_by
blocks-in element segs h =
    All-in_order (IsIn (cell_for element) segs) (flat_map (segment_blocks (cell_for element)) segs) (all-in (cell_for element) segs (numbers-apart segs h.segments))

module _ (element : ℕ) (segs : List Cells) (h : AreCellular element segs) (some : 1 ≤ element) where
  -- a cell of a segment
  pub cell-there : (n index : ℕ) → index < length (cells_at n segs).pairs → HasCell (cell_for element) index (cells_at n segs)
  cell-there n index listed =
      let there : 1 ≤ length (cells_at n segs).pairs = omega (arith, listed) in
      has-cell (cell_for element) element index (cells_at n segs) (at-number (IsCellular (cell_for element) element) n segs h.cellular there)
      ((at-number (λ s. IsRegionSegment (segment_of s)) n segs (all-legal segs h.segments) there).size) listed

  -- a listed cell's place is told by its address
  pub place-there : (n index : ℕ) → index < length (cells_at n segs).pairs → place_of (address (n, cell_offset (cell_for element) index)) ≡ (n, cell_offset (cell_for element) index)
  place-there n index listed =
      let cell = cell-there n index listed in
      let legal = IsCell-for element some h.most in
      place_of-address n (cell_offset (cell_for element) index) (omega arith) (offset-multiple (cell_for element) index legal.multiple)

  pub stands : (a : ℕ) → HasBlock (layout_by (cell_for element) segs).blocks a → IsBlockCell (cell_for element) segs (place_of a)
  stands a live =
      let blocks : List (Block ℕ) = (layout_by (cell_for element) segs).blocks in
      let none : Block ℕ = record { label = 0; seg = 0; off = 0; size = 0; bytes = [] } in
      let k : ℕ = live.0 in
      let within : k < length blocks = omega (arith, live.1, length-map blocks address_of) in
      let b : Block ℕ = get_or blocks k none in
      let l = in-live (cell_for element) segs b (blocks-in element segs h k none within) in
      let own : address (b.seg, b.off) ≡ a = sym (get_or-map address_of blocks k none a within) ∙ live.2 in
      let pair : ℕ → ℕ → ℕ × ℕ = λ x y. (x, y) in
      let off : pair b.seg b.off ≡ pair b.seg (cell_offset (cell_for element) l.index) = ap (pair b.seg) l.offset in
      let place : place_of a ≡ pair b.seg b.off = ap place_of (sym own ∙ ap address off) ∙ (place-there b.seg l.index l.listed ∙ sym off) in
      subst (IsBlockCell (cell_for element) segs) (sym place) l

-- with a segment an element size is set
pub element-some : (element : ℕ) (segs : List Cells) → AreCellular element segs → 1 ≤ length segs → 1 ≤ element
element-some element segs h some =
    ⊎_elim
    (λ (e : element ≡ 0). absurd (omega (arith, h.unset e, some)))
    (λ (e : element ≡ 0 → ⊥). omega (arith, e))
    (cases_eq element 0)

-- so it is with a cell
pub cell-some : (element n : ℕ) (segs : List Cells) → AreCellular element segs → 1 ≤ length (cells_at n segs).pairs → 1 ≤ element
cell-some element n [] h listed = absurd (omega (arith, listed))
cell-some element n (s ∷ ss) h listed = element-some element (s ∷ ss) h (omega arith)

-- and with a block
pub block-some : (element a : ℕ) (segs : List Cells) → AreCellular element segs → HasBlock (layout_by (cell_for element) segs).blocks a → 1 ≤ element
unfolding layout_by
block-some element a [] h live = absurd (omega (arith, live.1))
block-some element a (s ∷ ss) h live = element-some element (s ∷ ss) h (omega arith)

-- a cell with a block is one of its segment's
pub live-listed : (cell : ℕ) (segs : List Cells) (at : ℕ × ℕ) → IsBlockCell cell segs at → IsListed cell segs at
live-listed cell segs at l = record { index = l.index; offset = l.offset; listed = l.listed }

pub block-listed : (element a : ℕ) (segs : List Cells) → AreCellular element segs → HasBlock (layout_by (cell_for element) segs).blocks a → IsListed (cell_for element) segs (place_of a)
block-listed element a segs h live = live-listed (cell_for element) segs (place_of a) (stands element segs h (block-some element a segs h live) a live)

-- a cell with a block isn't a freed one
pub live-other : (cell : ℕ) (segs : List Cells) (at p : ℕ × ℕ) → 1 ≤ cell → IsBlockCell cell segs at → IsFreeCell cell segs p → at ≢ p
live-other cell segs at p some l f e =
    let k : ℕ = index_at cell p.1 in
    let same : l.index ≡ k = index-same cell l.index k some (sym l.offset ∙ (ap (λ (q : ℕ × ℕ). q.1) e ∙ f.offset)) in
    let size : 1 ≤ (pair_at k (cells_at p.0 segs)).0 = subst (λ (q : ℕ × ℕ). 1 ≤ (pair_at k (cells_at q.0 segs)).0) e (subst (λ j. 1 ≤ (pair_at j (cells_at at.0 segs)).0) same l.size) in
    omega (arith, size)

-- the number of a segment with cells is from 1 to 1,023
pub number-legal : (n : ℕ) (segs : List Cells) → AreSegments (map segment_of segs) → 1 ≤ length (cells_at n segs).pairs → (1 ≤ n) × (n ≤ 1023)
number-legal n segs h some =
    let legal = at-number (λ s. IsRegionSegment (segment_of s)) n segs (all-legal segs h) some in
    let own = number-there n segs some in
    (subst (λ m. 1 ≤ m) own legal.first, subst (λ m. m ≤ 1023) own legal.last)
