-- The unlabelled blocks of a best region as cells: their bytes, by their addresses.
use Rattle.std.specs.Prelude.{◌≡◌, ℕ, List, Option, Some, None, Bool, filter, map, nat_lt, replicate, ◌==◌, if◌then◌else◌}
use Rattle.vc_base.specs.Cells.{Blocks}
use Rattle.vc_model.specs.Addr.{place_of}
use Rattle.vc_model.specs.Layout.{Block, Layout}
use Rattle.vc_model.specs.Touch.{find_block}
use Rattle.vc_best.specs.Parts.{blocks_in, layout_of}
use Rattle.vc_best.specs.declared.best.Best.{Best}

-- an unlabelled block has the tag 0
abbrev pub is_unlabelled : Block ℕ → Bool
is_unlabelled b = b.label == 0

-- the bytes of a block where it is unlabelled
abbrev pub cell_bytes : Option (Block ℕ) → Option (List ℕ)
cell_bytes None = None
cell_bytes (Some b) = if is_unlabelled b then Some b.bytes else None

-- the bytes of the unlabelled block at each address
abbrev pub cells_of : List (Block ℕ) → Blocks
cells_of blocks = λ a. cell_bytes (find_block (place_of a) blocks)

-- the cells without the one at an address
abbrev pub without_cell : ℕ → Blocks → Blocks
without_cell at blocks = λ a. if a == at then None else blocks a

-- a block that shows zeros where it is unlabelled
abbrev pub block_shown : Block ℕ → Block ℕ
block_shown b = record b { bytes = if is_unlabelled b then replicate b.size 0 else b.bytes }

-- a layout but for the bytes of its unlabelled blocks
abbrev pub zeroed_layout : Layout ℕ → Layout ℕ
zeroed_layout r = record { segments = r.segments; blocks = map block_shown r.blocks }

-- its labelled blocks, those of a tag from 1 on
abbrev pub labelled_blocks : Layout ℕ → List (Block ℕ)
labelled_blocks r = filter (λ b. nat_lt 0 b.label) r.blocks

-- the cells of a region
abbrev pub cells_in : {I : Type 0} {V : I → Type 0} → Best I V → Blocks
cells_in b = cells_of (blocks_in b)

-- its layout but for the bytes in its cells
abbrev pub rest_in : {I : Type 0} {V : I → Type 0} → Best I V → Layout ℕ
rest_in b = zeroed_layout (layout_of b)

-- its segments, its labelled blocks, the places and sizes of the unlabelled ones, and its discipline stayed
pub record StaysButCells {I : Type 0} {V : I → Type 0} (old new : Best I V) : Type 0 where
  pub layout : rest_in new ≡ rest_in old
  pub disc : new.disc ≡ old.disc
