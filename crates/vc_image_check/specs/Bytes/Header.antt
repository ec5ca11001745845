-- Which bytes have the head of an image, and which contents have an image.
use Rattle.std.specs.Prelude.{◌≡◌, ℕ, ◌+◌, ◌<◌, ◌≤◌, ◌^◌, List, get_or, length, take}
use Rattle.std.specs.List.{AllByRecursion}
use Rattle.vc_seg.specs.Budget.{bytes_of}
use Rattle.vc_seg.specs.Numbered.{AreNumbered}
use Rattle.vc_seg.specs.Segment.{AreSegments}
use Rattle.vc_image_check.specs.Bytes.Image.{DictRow, ImageContents, magic}
use Rattle.vc_image_check.specs.Bytes.Contents.{body_in, image_dict_count, pairs_in}

-- numbers below 256
abbrev pub AreBytes : List ℕ → Type 0
AreBytes bytes = (i : ℕ) → get_or bytes i 0 < 256

-- the eight letters; at most 1,023 segments with numbers of their own from 1 to 1,023, of legal sizes; at most 256
-- dictionaries; and as many bytes as these take
pub record IsHeader (bytes : List ℕ) : Type 0 where
  pub letters : take 8 bytes ≡ magic
  pub segments : AreNumbered (pairs_in bytes)
  pub dicts : image_dict_count bytes ≤ 256
  pub size : length bytes ≡ body_in bytes + bytes_of (pairs_in bytes)

-- each of the nine numbers takes four bytes at most
pub record FitsRow (r : DictRow) : Type 0 where
  pub method : r.method < 2 ^ 32
  pub kind : r.kind < 2 ^ 32
  pub count : r.count < 2 ^ 32
  pub current : r.current < 2 ^ 32
  pub first : r.first < 2 ^ 32
  pub last : r.last < 2 ^ 32
  pub table : r.table < 2 ^ 32
  pub slots : r.slots < 2 ^ 32
  pub root : r.root < 2 ^ 32

-- segments of a region, at most 256 dictionaries, and numbers that fit
pub record AreContents (c : ImageContents) : Type 0 where
  pub segments : AreSegments c.segs
  pub root : c.root < 2 ^ 32
  pub few : length c.rows ≤ 256
  pub rows : AllByRecursion FitsRow c.rows
