-- What a write into a cell leaves of its segment, and of the block in it.
use Rattle.vc_base.proofs.Common.{◌≡◌, ℕ, ◌+◌, ◌-◌, ◌^◌, ◌<◌, ◌≤◌, List, [], ◌∷◌, length, take, drop, set, replicate, sym, refl, ap, ◌∙◌, subst, arith, take-take, w64, eq-eqb, ne_eqb, length-replicate, places, same_lists, from_le_bytes, to_le_bytes, zeros, with_bytes, Block, cell_offset, fitted_bytes, sized_block, rewritten_block}
use Rattle.std.proofs.lemmas.List.{set-get_or, take-replicate}
use Rattle.std.proofs.lemmas.Nat.{from_le_bytes-to_le_bytes_8}
use Rattle.vc_base.proofs.Overwrites.{part-written}
use Rattle.vc_seg.proofs.Frames.{drop-back, take-front, written-above, written-below, written-length, written-part}
use Rattle.vc_pool.specs.Cells.Blocks.{block_of_cell}
use Rattle.vc_pool.specs.Cells.Cells.{Cells, HasCell, with_zeros_in, pair_at, with_free_cell, with_cell_size, with_cell_bytes}
use Rattle.vc_pool.specs.Cells.Freed.{link_word}
use Rattle.vc_pool.proofs.OneCell.{ChangesCell}

pub next-cell : (cell index : ℕ) → cell_offset cell (index + 1) ≡ cell_offset cell index + cell
next-cell cell index = omega arith

link-length : (link : ℕ) → length (to_le_bytes w64 link) ≡ 8
link-length link = refl

-- bytes that are written into a cell
pub changes : (cell index at : ℕ) (c : ℕ × ℕ) (src : List ℕ) (o s : Cells) → cell_offset cell index ≤ at → at + length src ≤ cell_offset cell (index + 1) → cell_offset cell (index + 1) ≤ length o.bytes →
    s.number ≡ o.number → s.bytes ≡ with_bytes at src o.bytes → s.pairs ≡ set o.pairs index c → ChangesCell cell index c o s
changes cell index at c src o s first last within number bytes pairs =
    let fits : at + length src ≤ length o.bytes = omega (arith, last, within) in
    record {
      number = number;
      len = ap length bytes ∙ written-length at src o.bytes fits;
      below = take-front o.bytes s.bytes at (ap (take at) bytes ∙ written-below at src o.bytes fits) (cell_offset cell index) first;
      above = drop-back o.bytes s.bytes (at + length src) (ap (drop (at + length src)) bytes ∙ written-above at src o.bytes fits) (cell_offset cell (index + 1)) last;
      pairs = pairs;
    }

module _ (cell index : ℕ) (o : Cells) (h : HasCell cell index o) where
  pub laid-changes : (size tag : ℕ) → ChangesCell cell index (size, tag) o (with_zeros_in cell index size tag o)
  laid-changes size tag =
      let long = length-replicate {A = ℕ} cell 0 in
      changes cell index (cell_offset cell index) (size, tag) (replicate cell 0) o (with_zeros_in cell index size tag o) (omega arith) (omega (arith, long, next-cell cell index)) h.inside refl refl refl

  pub released-changes : (link : ℕ) → 8 ≤ cell → ChangesCell cell index (0, 0) o (with_free_cell cell index link o)
  released-changes link least =
      changes cell index (cell_offset cell index) (0, 0) (to_le_bytes w64 link) o (with_free_cell cell index link o) (omega arith) (omega (arith, link-length link, least, next-cell cell index)) h.inside refl refl refl

  pub resized-changes : (size : ℕ) → (pair_at index o).0 ≤ cell → size ≤ cell → ChangesCell cell index (size, (pair_at index o).1) o (with_cell_size cell index size o)
  resized-changes size fitted_bytes fits =
      changes cell index (cell_offset cell index + (pair_at index o).0) (size, (pair_at index o).1) (replicate (size - (pair_at index o).0) 0) o (with_cell_size cell index size o)
      (omega arith) (omega (arith, length-replicate {A = ℕ} (size - (pair_at index o).0) 0, fitted_bytes, fits, next-cell cell index)) h.inside refl refl refl

  pub written-changes : (off : ℕ) (src : List ℕ) → off + length src ≤ cell → ChangesCell cell index (pair_at index o) o (with_cell_bytes cell index off src o)
  written-changes off src range =
      changes cell index (cell_offset cell index + off) (pair_at index o) src o (with_cell_bytes cell index off src o) (omega arith) (omega (arith, range, next-cell cell index)) h.inside refl refl (sym (set-get_or o.pairs index (0, 0)))

-- the block in a cell, by its pair
pub one-block : (n off : ℕ) (bytes : List ℕ) (c : ℕ × ℕ) → 1 ≤ c.0 → block_of_cell n bytes off c ≡ record { label = c.1; seg = n; off = off; size = c.0; bytes = take c.0 (drop off bytes) } ∷ []
one-block n off bytes c some = rw (ne_eqb c.0 0 (λ e. omega (arith, e, some))) refl

pub no-block : (n off : ℕ) (bytes : List ℕ) (c : ℕ × ℕ) → c.0 ≡ 0 → block_of_cell n bytes off c ≡ []
no-block n off bytes c none = rw (eq-eqb c.0 0 none) refl

block-of-bytes : (n off : ℕ) (bytes part : List ℕ) (c : ℕ × ℕ) → 1 ≤ c.0 → take c.0 (drop off bytes) ≡ part → block_of_cell n bytes off c ≡ record { label = c.1; seg = n; off = off; size = c.0; bytes = part } ∷ []
block-of-bytes n off bytes part c some e =
    one-block n off bytes c some ∙ ap (λ (x : List ℕ). record { label = c.1; seg = n; off = off; size = c.0; bytes = x } ∷ []) e

zeros-laid : (off cell size : ℕ) (b : List ℕ) → off + cell ≤ length b → size ≤ cell → take size (drop off (with_bytes off (replicate cell 0) b)) ≡ replicate size 0
zeros-laid off cell size b within fits =
    let long = length-replicate {A = ℕ} cell 0 in
    let all : take cell (drop off (with_bytes off (replicate cell 0) b)) ≡ replicate cell 0 =
    subst (λ k. take k (drop off (with_bytes off (replicate cell 0) b)) ≡ replicate cell 0) long (written-part off (replicate cell 0) b (omega (arith, long, within))) in
    sym (take-take size cell (drop off (with_bytes off (replicate cell 0) b)) fits) ∙ (ap (take size) all ∙ take-replicate size cell 0 fits)

zeros-behind : (off old size : ℕ) (b : List ℕ) → off + old ≤ length b → off + size ≤ length b → take size (drop off (with_bytes (off + old) (replicate (size - old) 0) b)) ≡ fitted_bytes size (take old (drop off b))
zeros-behind off old size b within fits = same_lists _ _ (grind (arith, places)) (λ k d lt. grind (arith, places))

module _ (n cell index : ℕ) (o : Cells) (h : HasCell cell index o) where
  -- a block of zeros
  pub block-laid : (size tag : ℕ) → 1 ≤ size → size ≤ cell → block_of_cell n (with_zeros_in cell index size tag o).bytes (cell_offset cell index) (size, tag) ≡ zeros tag size (n, cell_offset cell index) ∷ []
  block-laid size tag some fits =
      block-of-bytes n (cell_offset cell index) (with_zeros_in cell index size tag o).bytes (replicate size 0) (size, tag) some
      (zeros-laid (cell_offset cell index) cell size o.bytes (omega (arith, next-cell cell index)) fits)

  abbrev own : Block ℕ
  own = record { label = (pair_at index o).1; seg = n; off = cell_offset cell index; size = (pair_at index o).0; bytes = take (pair_at index o).0 (drop (cell_offset cell index) o.bytes) }

  -- one of another size
  pub block-resized : (size : ℕ) → 1 ≤ size → size ≤ cell → (pair_at index o).0 ≤ cell → block_of_cell n (with_cell_size cell index size o).bytes (cell_offset cell index) (size, (pair_at index o).1) ≡ sized_block size own ∷ []
  block-resized size some fits fitted_bytes =
      block-of-bytes n (cell_offset cell index) (with_cell_size cell index size o).bytes _ (size, (pair_at index o).1) some
      (zeros-behind (cell_offset cell index) (pair_at index o).0 size o.bytes (omega (arith, next-cell cell index, fitted_bytes)) (omega (arith, next-cell cell index, fits)))

  -- one with other bytes
  pub block-written : (off : ℕ) (src : List ℕ) → 1 ≤ (pair_at index o).0 → (pair_at index o).0 ≤ cell → off + length src ≤ (pair_at index o).0 → block_of_cell n (with_cell_bytes cell index off src o).bytes (cell_offset cell index) (pair_at index o) ≡ rewritten_block off src own ∷ []
  block-written off src some fitted_bytes range =
      block-of-bytes n (cell_offset cell index) (with_cell_bytes cell index off src o).bytes _ (pair_at index o) some
      (part-written (cell_offset cell index) (pair_at index o).0 off src o.bytes range (omega (arith, next-cell cell index, fitted_bytes)))

  -- the link that is written into a cell is the one that stands there
  pub word-released : (link : ℕ) → link < 2 ^ 64 → 8 ≤ cell → link_word (cell_offset cell index) (with_free_cell cell index link o).bytes ≡ link
  word-released link small least =
      ap (from_le_bytes w64) (written-part (cell_offset cell index) (to_le_bytes w64 link) o.bytes (omega (arith, link-length link, least, next-cell cell index)))
      ∙ from_le_bytes-to_le_bytes_8 link small
