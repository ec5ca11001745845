-- What bytes hold that are taken for an image, whatever they are: each number is read at its place.
use Rattle.std.specs.Prelude.{ℕ, ◌+◌, ◌*◌, zero, suc, List, [], ◌∷◌, drop, take}
use Rattle.vc_seg.specs.Field.{field_at}
use Rattle.vc_seg.specs.Segment.{Bytes}
use Rattle.vc_image_check.specs.Bytes.Image.{DictRow, ImageContents}

-- so many items one behind the other from a place on, each of so many bytes
abbrev pub items_at : {X : Type 0} → (ℕ → List ℕ → X) → ℕ → ℕ → ℕ → List ℕ → List X
items_at read width zero at bytes = []
items_at read width (suc count) at bytes = read at bytes ∷ items_at read width count (at + width) bytes

-- a segment's number and size
abbrev pub segment_pair_at : ℕ → List ℕ → ℕ × ℕ
segment_pair_at at bytes = (field_at at bytes, field_at (at + 4) bytes)

-- a dictionary's nine numbers
abbrev pub dict_row_at : ℕ → List ℕ → DictRow
dict_row_at at bytes =
    record {
      method = field_at at bytes;
      kind = field_at (at + 4) bytes;
      count = field_at (at + 8) bytes;
      current = field_at (at + 12) bytes;
      first = field_at (at + 16) bytes;
      last = field_at (at + 20) bytes;
      table = field_at (at + 24) bytes;
      slots = field_at (at + 28) bytes;
      root = field_at (at + 32) bytes;
    }

-- how many segments there are, and how many dictionaries
abbrev pub image_segment_count : List ℕ → ℕ
image_segment_count bytes = field_at 8 bytes

abbrev pub image_dict_count : List ℕ → ℕ
image_dict_count bytes = field_at 16 bytes

-- the segments' numbers and sizes, and the dictionaries
abbrev pub pairs_in : List ℕ → List (ℕ × ℕ)
pairs_in bytes = items_at segment_pair_at 8 (image_segment_count bytes) 20 bytes

abbrev pub rows_of_image : List ℕ → List DictRow
rows_of_image bytes = items_at dict_row_at 36 (image_dict_count bytes) (20 + 8 * image_segment_count bytes) bytes

-- segments of these numbers and sizes, one behind the other from a place on
abbrev pub segs_from : List (ℕ × ℕ) → ℕ → List ℕ → List Bytes
segs_from [] at bytes = []
segs_from (p ∷ ps) at bytes = record { number = p.0; bytes = take p.1 (drop at bytes) } ∷ segs_from ps (at + p.1) bytes

-- where the bytes of the segments begin
abbrev pub body_in : List ℕ → ℕ
body_in bytes = 20 + 8 * image_segment_count bytes + 36 * image_dict_count bytes

unfoldable pub contents_of_image : List ℕ → ImageContents
contents_of_image bytes = record { root = field_at 12 bytes; segs = segs_from (pairs_in bytes) (body_in bytes) bytes; rows = rows_of_image bytes }
