-- The segments of a pool with their cells, and what the calls on one cell make of a segment.
use Rattle.std.specs.Prelude.{◌≡◌, ℕ, ◌+◌, ◌-◌, ◌/◌, ◌%◌, ◌<◌, ◌≤◌, List, ◌++◌, get_or, length, replicate, set, take, drop}
use Rattle.std.specs.Int.{from_le_bytes, to_le_bytes, w64}
use Rattle.vc_model.specs.Bytes.{with_bytes}
use Rattle.vc_model.specs.Pool.{cell_offset}
use Rattle.vc_pool.specs.declared.cells.segment.PoolSegment.{PoolSegment}

-- a segment: its number and its bytes, how many of its cells were carved, from the lowest on, and for each cell the size and the tag of the block in it, (0, 0) where none is
pub record Cells : Type 0 where
  pub number : ℕ
  pub bytes : List ℕ
  pub carved : ℕ
  pub pairs : List (ℕ × ℕ)

-- what a pool's segment keeps
abbrev pub cells_of : PoolSegment → Cells
cells_of s = record { number = s.seg.number; bytes = s.seg.bytes; carved = s.carved; pairs = s.cells.items }

-- the bytes of a cell: a multiple of 32 up to the greatest size of a block
pub record IsCell (cell : ℕ) : Type 0 where
  pub least : 32 ≤ cell
  pub most : cell ≤ 16777216
  pub multiple : cell % 32 ≡ 0

-- a segment has a cell of that index, counted from 0
pub record HasCell (cell index : ℕ) (s : Cells) : Type 0 where
  pub listed : index < length s.pairs
  pub inside : cell_offset cell (index + 1) ≤ length s.bytes
  pub most : length s.bytes ≤ 33554432

-- the size and the tag in a cell
abbrev pub pair_at : ℕ → Cells → ℕ × ℕ
pair_at index s = get_or s.pairs index (0, 0)

-- the number in a cell's first 8 bytes, the lowest first
abbrev pub cell_link : ℕ → ℕ → Cells → ℕ
cell_link cell index s = from_le_bytes w64 (take 8 (drop (cell_offset cell index) s.bytes))

-- a block of zeros is put into a cell, which is zero then as a whole
abbrev pub with_zeros_in : ℕ → ℕ → ℕ → ℕ → Cells → Cells
with_zeros_in cell index size tag s =
    record s {
      bytes = with_bytes (cell_offset cell index) (replicate cell 0) s.bytes;
      pairs = set s.pairs index (size, tag);
    }

-- a block is put into the lowest cell that wasn't carved
abbrev pub carved_with : ℕ → ℕ → ℕ → Cells → Cells
carved_with cell size tag s =
    record (with_zeros_in cell s.carved size tag s) { carved = s.carved + 1 }

-- the block in a cell goes, and a link stands in the cell's first 8 bytes
abbrev pub with_free_cell : ℕ → ℕ → ℕ → Cells → Cells
with_free_cell cell index link s =
    record s {
      bytes = with_bytes (cell_offset cell index) (to_le_bytes w64 link) s.bytes;
      pairs = set s.pairs index (0, 0);
    }

-- the block in a cell has another size, and what is added is zero
abbrev pub with_cell_size : ℕ → ℕ → ℕ → Cells → Cells
with_cell_size cell index size s =
    record s {
      bytes = with_bytes (cell_offset cell index + (pair_at index s).0) (replicate (size - (pair_at index s).0) 0) s.bytes;
      pairs = set s.pairs index (size, (pair_at index s).1);
    }

-- the block in a cell has other bytes, from an offset in it on
abbrev pub with_cell_bytes : ℕ → ℕ → ℕ → List ℕ → Cells → Cells
with_cell_bytes cell index off src s = record s { bytes = with_bytes (cell_offset cell index + off) src s.bytes }

-- a pair (0, 0) for each of so many cells stands behind the others
abbrev pub with_more_pairs : ℕ → Cells → Cells
with_more_pairs count s = record s { pairs = s.pairs ++ replicate count (0, 0) }

-- so many zeros stand behind its bytes, and a pair (0, 0) for each cell that comes with them
abbrev pub with_more_bytes : ℕ → ℕ → Cells → Cells
with_more_bytes cell more s =
    record (with_more_pairs ((length s.bytes + more - 32) / cell - length s.pairs) s) { bytes = s.bytes ++ replicate more 0 }

-- no cell is carved
abbrev pub uncarved_all : Cells → Cells
uncarved_all s = record s { carved = 0; pairs = replicate (length s.pairs) (0, 0) }
