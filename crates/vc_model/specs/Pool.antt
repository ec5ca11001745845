-- A pool: each block in a cell, all cells of one size, which the first granted block sets. Cells have no head.
use Rattle.std.specs.Prelude.{◌≡◌, ℕ, ◌+◌, ◌-◌, ◌*◌, ◌/◌, ◌≤◌, List, [], ◌∷◌, Option, Some, None, Bool, All, AllPairs, Any, filter, map, nat_le, nat_lt, option_map, sum, unwrap_or, ◌==◌, if◌then◌else◌}
use Rattle.std.specs.List.{find}
use Rattle.std.specs.Option.{option_map_or}
use Rattle.vc_model.specs.Discipline.{Terms}
use Rattle.vc_model.specs.Segments.{Asked, Grant, Granted, TooMany, NotLent, ask, round_up}
use Rattle.vc_model.specs.Gap.{Run}
use Rattle.vc_model.specs.Layout.{Block, Layout, empty_layout, relabel_layout, with_block, with_grant}
use Rattle.vc_model.specs.Sound.{HaveOwnNumbers, HaveOwnPlaces, IsApart}
use Rattle.vc_model.specs.Outcome.{Outcome, Done, Refused, Put, TooManySegments, NoSegment, PoolSize}
use Rattle.vc_model.specs.Best.{zeros, without_block_at}
use Rattle.vc_model.specs.Resize.{resize_there}
use Rattle.vc_model.specs.Compact.{cleared_layout, compacted_layout, is_occupied}
use Rattle.vc_model.specs.Numbers.{block_count}

-- segments and blocks, by address; the element size, once one is set; the places of the freed cells, as segment and offset, the one freed last first; how many cells of a segment were carved, by its number, where any were
pub record Pool (L : Type 0) : Type 0 where
  pub layout : Layout L
  pub element : Option ℕ
  pub freed : List (ℕ × ℕ)
  pub carved : List (ℕ × ℕ)

-- the same with other labels
abbrev pub relabel_pool : {L M : Type 0} → (L → M) → Pool L → Pool M
relabel_pool name p = record { layout = relabel_layout name p.layout; element = p.element; freed = p.freed; carved = p.carved }

-- with no segment and no element size
abbrev pub empty_pool : {L : Type 0} → Pool L
empty_pool = record { layout = empty_layout; element = None; freed = []; carved = [] }

-- the bytes of a cell for elements of a size, a multiple of 32
abbrev pub cell_for : ℕ → ℕ
cell_for element = round_up element 32

-- the element size when a block of this size is put: the first block sets it
abbrev pub element_with : {L : Type 0} → Pool L → ℕ → ℕ
element_with p size = unwrap_or p.element size

-- how many cells of the segment of that number were carved
abbrev pub carved_in : ℕ → List (ℕ × ℕ) → ℕ
carved_in number [] = 0
carved_in number (c ∷ cs) = if c.0 == number then c.1 else carved_in number cs

-- one more of them is
abbrev pub carve : ℕ → List (ℕ × ℕ) → List (ℕ × ℕ)
carve number [] = (number, 1) ∷ []
carve number (c ∷ cs) = if c.0 == number then (number, c.1 + 1) ∷ cs else c ∷ carve number cs

-- where a cell begins: the first one at offset 32, each behind the one before
abbrev pub cell_offset : ℕ → ℕ → ℕ
cell_offset cell i = 32 + i * cell

-- whether a segment has an uncarved cell: it ends within the segment
abbrev pub has_uncarved : ℕ → List (ℕ × ℕ) → ℕ × ℕ → Bool
has_uncarved cell carved s = nat_le (cell_offset cell (carved_in s.0 carved + 1)) s.1

-- the lowest uncarved cell of the first segment, in order of lending, that has one
abbrev pub uncarved : ℕ → List (ℕ × ℕ) → List (ℕ × ℕ) → Option (ℕ × ℕ)
uncarved cell carved segments = option_map {U = ℕ × ℕ} (λ s. (s.0, cell_offset cell (carved_in s.0 carved))) (find (has_uncarved cell carved) segments)

-- the bytes that are asked for where no cell is free
abbrev pub pool_need : {L : Type 0} → Terms → Pool L → ℕ → ℕ
pool_need terms p size = round_up (32 + cell_for (element_with p size)) terms.round

-- a block is put into a cell of these segments, which leaves these freed cells and these counts
abbrev pub put_cell : {L : Type 0} → Pool L → L → ℕ → Option Grant → ℕ × ℕ → Layout L → List (ℕ × ℕ) → List (ℕ × ℕ) → Outcome (Put (Pool L))
put_cell p label size granted at layout freed carved =
    Done (record {
      at = at;
      region = record {
        layout = record { segments = layout.segments; blocks = with_block (zeros label size at) layout.blocks };
        element = Some (element_with p size);
        freed = freed;
        carved = carved;
      };
      granted = granted;
    })

-- into an uncarved cell
abbrev pub put_uncarved : {L : Type 0} → Pool L → L → ℕ → Option Grant → ℕ × ℕ → Layout L → Outcome (Put (Pool L))
put_uncarved p label size granted at layout = put_cell p label size granted at layout p.freed (carve at.0 p.carved)

abbrev pub put_asked : {L : Type 0} → Pool L → L → ℕ → Asked → Outcome (Put (Pool L))
put_asked p label size (Granted g) =
    put_uncarved p label size (Some g) (g.number, cell_offset (cell_for (element_with p size)) (carved_in g.number p.carved)) (with_grant p.layout g)
put_asked p label size TooMany = Refused TooManySegments
put_asked p label size NotLent = Refused NoSegment

abbrev pub put_carving : {L : Type 0} → Terms → Pool L → L → ℕ → Bool → Option (ℕ × ℕ) → Outcome (Put (Pool L))
put_carving terms p label size refused (Some at) = put_uncarved p label size None at p.layout
put_carving terms p label size refused None = put_asked p label size (ask terms (pool_need terms p size) p.layout.segments refused)

abbrev pub put_free : {L : Type 0} → Terms → Pool L → L → ℕ → Bool → List (ℕ × ℕ) → Outcome (Put (Pool L))
put_free terms p label size refused (at ∷ freed) = put_cell p label size None at p.layout freed p.carved
put_free terms p label size refused [] =
    put_carving terms p label size refused (uncarved (cell_for (element_with p size)) p.carved p.layout.segments)

-- a block goes into the cell that was freed last; with none, into the lowest uncarved cell; with none, more bytes are asked for first. No block is greater than the element size
abbrev pub pool_alloc : {L : Type 0} → Terms → Pool L → L → ℕ → Bool → Outcome (Put (Pool L))
pool_alloc terms p label size refused =
    if nat_lt (element_with p size) size then Refused PoolSize else put_free terms p label size refused p.freed

-- the block at a place gets another size, up to the element size, where it is
abbrev pub pool_resize : {L : Type 0} → Pool L → ℕ × ℕ → ℕ → Outcome (Put (Pool L))
pool_resize p at size =
    if nat_lt (element_with p size) size then Refused PoolSize
    else Done (record { at = at; region = record p { layout = resize_there p.layout at size }; granted = None })

-- the block at a place goes, and its cell is the one freed last
abbrev pub pool_free : {L : Type 0} → Pool L → ℕ × ℕ → Pool L
pool_free p at = record p { layout = without_block_at p.layout at; freed = at ∷ p.freed }

-- all blocks go, and every cell is uncarved; the element size stays
abbrev pub pool_clear : {L : Type 0} → Pool L → Pool L
pool_clear p = record { layout = cleared_layout p.layout; element = p.element; freed = []; carved = [] }

-- the segments without a block go, and so do their freed cells and their counts; the order of the others stays
abbrev pub pool_compact : {L : Type 0} → Pool L → Pool L
pool_compact p =
    let stays : ℕ × ℕ → Bool = λ c. is_occupied p.layout.blocks c.0 in
    record { layout = compacted_layout p.layout; element = p.element; freed = filter stays p.freed; carved = filter stays p.carved }

-- the bytes of a cell; 0 while there is no element size
abbrev pub cell_of : {L : Type 0} → Pool L → ℕ
cell_of p = option_map_or cell_for p.element 0

-- how many cells these segments have
abbrev pub cell_count : Option ℕ → List (ℕ × ℕ) → ℕ
cell_count None segments = 0
cell_count (Some element) segments = sum (map (λ s. (s.1 - 32) / cell_for element) segments)

-- how many cells no block is in, freed ones and uncarved ones alike
abbrev pub free_cells : {L : Type 0} → Pool L → ℕ
free_cells p = cell_count p.element p.layout.segments - block_count p.layout

-- their bytes, and the greatest of them
abbrev pub free_cell_bytes : {L : Type 0} → Pool L → ℕ
free_cell_bytes p = free_cells p * cell_of p

abbrev pub greatest_free_cell : {L : Type 0} → Pool L → ℕ
greatest_free_cell p = if free_cells p == 0 then 0 else cell_of p

-- the whole cell that a block is in
abbrev pub cell_run : {L : Type 0} → ℕ → Block L → Run
cell_run cell b = record { seg = b.seg; from = b.off; to = b.off + cell }

-- a run lies in one of these segments, behind its first 32 bytes
abbrev pub IsInside : List (ℕ × ℕ) → Run → Type 0
IsInside segments f = Any (λ s. (f.seg ≡ s.0) × (32 ≤ f.from) × (f.to ≤ s.1)) segments

-- no two cells with a block overlap, each lies in a segment, each block fits its cell, and blocks have places and segments numbers of their own
pub record IsPoolSound {L : Type 0} (p : Pool L) : Type 0 where
  pub apart : AllPairs (λ a b. IsApart (cell_run (cell_of p) a) (cell_run (cell_of p) b)) p.layout.blocks
  pub inside : All (λ b. IsInside p.layout.segments (cell_run (cell_of p) b)) p.layout.blocks
  pub fits : All (λ b. b.size ≤ cell_of p) p.layout.blocks
  pub places : HaveOwnPlaces p.layout.blocks
  pub numbered : HaveOwnNumbers p.layout.segments
