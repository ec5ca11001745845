-- The unlabelled blocks of an image, and marks that tell them.
use Rattle.std.specs.Prelude.{◌≡◌, ℕ, List, All, Bool, length, nat_lt, take, drop, slice_index, ◌&&◌, ◌==◌}
use Rattle.vc_base.specs.Cells.{Blocks}
use Rattle.vc_seg.specs.Memory.{bytes_of_number}
use Rattle.vc_extent.specs.Extent.{Extent}
use Rattle.vc_extent.specs.Tiles.{IsTiled}
use Rattle.vc_extent.specs.Tiling.{IsThere, extent_of, tiling}
use Rattle.vc_best.specs.Blocks.{layout_by}
use Rattle.vc_best.specs.Cells.{cells_of}
use Rattle.vc_image_check.specs.Bytes.Contents.{contents_of_image}
use Rattle.vc_image_check.specs.Bytes.Header.{IsHeader}
use Rattle.vc_image_check.specs.Marks.Mark.{lists, mark_at}
use Rattle.vc_image_check.specs.declared.marks.marks.Marks.{Marks}

-- the unlabelled blocks of an image's segments, by their addresses
abbrev pub image_blocks : List ℕ → Blocks
image_blocks image = cells_of (layout_by (contents_of_image image).segs).blocks

-- whether an extent has an unlabelled block
abbrev pub is_cell : Extent → Bool
is_cell e = nat_lt 0 e.span && (nat_lt 0 e.size && (e.tag == 0))

-- bytes have the head of an image, extents tile its segments, marks from 3 on are those of unlabelled blocks, and each
-- segment's bytes begin at a place of the image
pub record HasBlockMarks (image : List ℕ) (rows : List (List ℕ)) (places : List ℕ) : Type 0 where
  pub head : IsHeader image
  pub tiled : All (λ s. IsTiled s.bytes) (contents_of_image image).segs
  pub marks : (a : ℕ) → nat_lt 2 (mark_at rows a) ≡ is_cell (extent_of (tiling (contents_of_image image).segs) a)
  pub parts : (n : ℕ) → IsThere n (contents_of_image image).segs
      → take (length (bytes_of_number n (contents_of_image image).segs)) (drop (slice_index places n) image) ≡ bytes_of_number n (contents_of_image image).segs

abbrev pub AreBlockMarks : List ℕ → Marks → Type 0
AreBlockMarks image marks = HasBlockMarks image (lists marks.rows.items) marks.places.items
