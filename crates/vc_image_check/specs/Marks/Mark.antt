-- What begins at a place of a segment, as a number.
use Rattle.std.specs.Prelude.{◌≡◌, ℕ, ◌+◌, ◌*◌, ◌/◌, ◌%◌, ◌<◌, List, [], Vec, length, map, slice_index, slice_index_or, take, drop, ◌==◌, if◌then◌else◌}
use Rattle.std.specs.declared.alloc.Global.{Global}
use Rattle.vc_extent.specs.Extent.{Extent, extents}
use Rattle.vc_extent.specs.Change.{extent_in}
use Rattle.vc_extent.specs.Tiling.{IsThere, extent_of, tiling}
use Rattle.vc_seg.specs.Memory.{bytes_of_number}
use Rattle.vc_image_check.specs.Bytes.Contents.{contents_of_image}
use Rattle.vc_image_check.specs.declared.marks.marks.Marks.{Marks}

-- 0 where there is no extent, 1 for a free one, 2 for a busy one with a label, 3 for one with none
abbrev pub mark_of : Extent → ℕ
mark_of e = if e.span == 0 then 0 else (if e.size == 0 then 1 else (if e.tag == 0 then 3 else 2))

-- for each 32 bytes of a segment, what is named by the offset where they begin
pub record AreMarks (bytes marks : List ℕ) : Type 0 where
  pub len : length marks * 32 ≡ length bytes
  pub each : (k : ℕ) → slice_index marks k ≡ mark_of (extent_in (k * 32) (extents bytes))

-- the lists of some vectors
abbrev pub lists : List (Vec ℕ Global) → List (List ℕ)
lists rows = map (λ r. r.items) rows

-- the mark of an address by the number of its segment, 0 where there is none
abbrev pub mark_at : List (List ℕ) → ℕ → ℕ
mark_at rows a = slice_index (slice_index_or rows (a / 1048576) []) (a % 1048576)

abbrev pub mark_in : Marks → ℕ → ℕ
mark_in marks a = mark_at (lists marks.rows.items) a

-- where the bytes that an address names begin in an image, by the places of its segments
abbrev pub start_of : List ℕ → ℕ → ℕ
start_of places a = slice_index places (a / 1048576) + 32 * (a % 1048576)

-- each address has another mark by this, and the segments lie where they did
pub record ChangesMarks (old new : Marks) (mark : ℕ → ℕ) : Type 0 where
  pub marks : (a : ℕ) → mark_in new a ≡ mark a
  pub places : new.places.items ≡ old.places.items

-- each address has the mark of its extent, and each segment's bytes begin at a place of the image
pub record IsMarked (image : List ℕ) (rows : List (List ℕ)) (places : List ℕ) : Type 0 where
  pub marks : (a : ℕ) → mark_at rows a ≡ mark_of (extent_of (tiling (contents_of_image image).segs) a)
  pub bytes : (n : ℕ) → IsThere n (contents_of_image image).segs
      → take (length (bytes_of_number n (contents_of_image image).segs)) (drop (slice_index places n) image) ≡ bytes_of_number n (contents_of_image image).segs

-- a mark stands among those that a segment can have, or at some address
pub record HasMarkIn (marks : List ℕ) (mark : ℕ) : Type 0 where
  pub place : ℕ
  pub low : place < 1048576
  pub is : slice_index marks place ≡ mark

pub record HasMark (rows : List (List ℕ)) (mark : ℕ) : Type 0 where
  pub address : ℕ
  pub is : mark_at rows address ≡ mark
