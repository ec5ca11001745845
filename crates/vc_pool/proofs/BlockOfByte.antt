-- The block that holds a byte is the one in the cell that the offset falls in.
use Rattle.vc_base.proofs.Common.{◌≡◌, ℕ, ◌+◌, ◌-◌, ◌*◌, ◌/◌, ◌%◌, ◌<◌, ◌≤◌, true, false, ◌&&◌, eqb, ltb, leb, List, length, get_or, Some, None, option_map, sym, ap, ◌∙◌, subst, ⊎_elim, div-add-mod', arith, ltb-true, lt-ltb, eq-eqb, eqb-true, le-leb, leb-true, and_from, and_parts, cases_Bool, false≢true, Block, is_at, cell_for, cell_offset, find_block, block_at, holds_byte}
use Rattle.std.proofs.lemmas.Nat.{div-mul-add}
use Rattle.vc_pool.specs.Cells.Blocks.{layout_by}
use Rattle.vc_pool.specs.Cells.Cells.{Cells, pair_at}
use Rattle.vc_pool.specs.Cells.Freed.{cells_at}
use Rattle.vc_pool.specs.Cells.Kept.{AreCellular, IsCellular}
use Rattle.vc_pool.proofs.BlockPlaces.{IsIn, at-number, blocks-in, fits-cell, index-same}
use Rattle.vc_pool.proofs.FoundBlock.{find-none, find-same}

-- the byte at an offset is in a cell's block
pub record HasByte (cell n off : ℕ) (segs : List Cells) (k : ℕ) : Type 0 where
  pub listed : k < length (cells_at n segs).pairs
  pub low : cell_offset cell k ≤ off
  pub high : off < cell_offset cell k + (pair_at k (cells_at n segs)).0

index-of : (cell k off size : ℕ) → 1 ≤ cell → size ≤ cell → cell_offset cell k ≤ off → off < cell_offset cell k + size → (off - 32) / cell ≡ k
index-of cell k off size some fits low high =
    let same : off - 32 ≡ k * cell + (off - cell_offset cell k) = omega (arith, low) in
    ap (λ x. x / cell) same ∙ div-mul-add k cell (off - cell_offset cell k) (omega (arith, low, high, fits))

holder : (cell n off : ℕ) (segs : List Cells) (b : Block ℕ) (h : IsIn cell segs b) → holds_byte (n, off) b ≡ true → HasByte cell n off segs h.index
holder cell n off segs b h e =
    let both = and_parts (eqb b.seg n) (leb b.off off && ltb off (b.off + b.size)) e in
    let seg : b.seg ≡ n = eqb-true b.seg n both.0 in
    let within = and_parts (leb b.off off) (ltb off (b.off + b.size)) both.1 in
    let low = leb-true b.off off within.0 in
    let high = ltb-true off (b.off + b.size) within.1 in
    let size : b.size ≡ (pair_at h.index (cells_at n segs)).0 = subst (λ m. b.size ≡ (pair_at h.index (cells_at m segs)).0) seg h.size in
    record {
      listed = subst (λ m. h.index < length (cells_at m segs).pairs) seg h.listed;
      low = omega (arith, low);
      high = omega (arith, high, size);
    }

-- no block holds it, where no cell does
pub byte-none : (element n off : ℕ) (segs : List Cells) → AreCellular element segs → ((k : ℕ) → HasByte (cell_for element) n off segs k → ⊥) → block_at (n, off) (layout_by (cell_for element) segs).blocks ≡ None
byte-none element n off segs h never =
    let cell : ℕ = cell_for element in
    let blocks : List (Block ℕ) = (layout_by cell segs).blocks in
    let all = blocks-in element segs h in
    ap (option_map {U = Block ℕ × ℕ} (λ (b : Block ℕ). (b, off - b.off)))
    (find-none (holds_byte (n, off)) blocks
    (λ k d lt.
    let b : Block ℕ = get_or blocks k d in
    ⊎_elim
    (λ (t : holds_byte (n, off) b ≡ true). absurd (never (all k d lt).index (holder cell n off segs b (all k d lt) t)))
    (λ (t : holds_byte (n, off) b ≡ false). t)
    (cases_Bool (holds_byte (n, off) b))))

module _ (element n off : ℕ) (segs : List Cells) (h : AreCellular element segs) (some : 1 ≤ element) where
  abbrev cell : ℕ
  cell = cell_for element

  fits : (k : ℕ) → k < length (cells_at n segs).pairs → (pair_at k (cells_at n segs)).0 ≤ cell
  fits k lt =
      let cellular = at-number (IsCellular cell element) n segs h.cellular (omega (arith, lt)) in
      omega (arith, cellular.fits k (0, 0) lt, fits-cell element)

  of-byte : (k : ℕ) → HasByte cell n off segs k → (off - 32) / cell ≡ k
  of-byte k b = index-of cell k off (pair_at k (cells_at n segs)).0 (omega (arith, some)) (fits k b.listed) b.low b.high

  -- where the cell isn't listed, or the offset in it is behind the block
  pub never-listed : length (cells_at n segs).pairs ≤ (off - 32) / cell → (k : ℕ) → HasByte cell n off segs k → ⊥
  never-listed few k b =
      omega (arith, few, of-byte k b)

  pub never-within : (pair_at ((off - 32) / cell) (cells_at n segs)).0 ≤ (off - 32) % cell → (k : ℕ) → HasByte cell n off segs k → ⊥
  never-within small k b =
      let same = of-byte k b in
      let size : (pair_at k (cells_at n segs)).0 ≤ (off - 32) % cell = subst (λ j. (pair_at j (cells_at n segs)).0 ≤ (off - 32) % cell) same small in
      let parts : k * cell + (off - 32) % cell ≡ off - 32 = subst (λ j. j * cell + (off - 32) % cell ≡ off - 32) same (div-add-mod' (off - 32) cell) in
      omega (arith, size, parts)

  -- and where it is in the block
  pub byte-there : 32 ≤ off → (off - 32) / cell < length (cells_at n segs).pairs → (off - 32) % cell < (pair_at ((off - 32) / cell) (cells_at n segs)).0 → HasByte cell n off segs ((off - 32) / cell)
  byte-there first listed within =
      let parts = div-add-mod' (off - 32) cell in
      record { listed = listed; low = omega (arith, first, parts); high = omega (arith, first, parts, within) }

  same-test : (index : ℕ) → HasByte cell n off segs index → (b : Block ℕ) → IsIn cell segs b → holds_byte (n, off) b ≡ is_at (n, cell_offset cell index) b
  same-test index own b i =
      ⊎_elim
      (λ (t : holds_byte (n, off) b ≡ true).
      let seg : b.seg ≡ n = eqb-true b.seg n (and_parts (eqb b.seg n) (leb b.off off && ltb off (b.off + b.size)) t).0 in
      let there = holder cell n off segs b i t in
      let same : i.index ≡ index = sym (of-byte i.index there) ∙ of-byte index own in
      t ∙ sym (and_from (eqb b.seg n) (eqb b.off (cell_offset cell index)) (eq-eqb b.seg n seg) (eq-eqb b.off (cell_offset cell index) (i.offset ∙ ap (cell_offset cell) same))))
      (λ (t : holds_byte (n, off) b ≡ false).
      ⊎_elim
      (λ (u : is_at (n, cell_offset cell index) b ≡ true).
      let both = and_parts (eqb b.seg n) (eqb b.off (cell_offset cell index)) u in
      let seg : b.seg ≡ n = eqb-true b.seg n both.0 in
      let offset : b.off ≡ cell_offset cell index = eqb-true b.off (cell_offset cell index) both.1 in
      let same : i.index ≡ index = index-same cell i.index index (omega (arith, some)) (sym i.offset ∙ offset) in
      let size : b.size ≡ (pair_at index (cells_at n segs)).0 = i.size ∙ (ap (λ m. (pair_at i.index (cells_at m segs)).0) seg ∙ ap (λ j. (pair_at j (cells_at n segs)).0) same) in
      let holds : holds_byte (n, off) b ≡ true =
      and_from (eqb b.seg n) (leb b.off off && ltb off (b.off + b.size)) (eq-eqb b.seg n seg)
      (and_from (leb b.off off) (ltb off (b.off + b.size)) (le-leb b.off off (omega (arith, offset))) (lt-ltb off (b.off + b.size) (omega (arith, offset, size)))) in
      absurd (false≢true (sym t ∙ holds)))
      (λ (u : is_at (n, cell_offset cell index) b ≡ false). t ∙ sym u)
      (cases_Bool (is_at (n, cell_offset cell index) b)))
      (cases_Bool (holds_byte (n, off) b))

  -- it is the block at the cell's place
  pub byte-some : (index : ℕ) → HasByte cell n off segs index → (b : Block ℕ) → find_block (n, cell_offset cell index) (layout_by cell segs).blocks ≡ Some b → block_at (n, off) (layout_by cell segs).blocks ≡ Some (b, off - b.off)
  byte-some index own b found =
      let blocks : List (Block ℕ) = (layout_by cell segs).blocks in
      let all = blocks-in element segs h in
      ap (option_map {U = Block ℕ × ℕ} (λ (c : Block ℕ). (c, off - c.off)))
      (find-same (holds_byte (n, off)) (is_at (n, cell_offset cell index)) blocks (λ k d lt. same-test index own (get_or blocks k d) (all k d lt)) ∙ found)
