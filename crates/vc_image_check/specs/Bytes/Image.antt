-- The bytes of an image: a head of numbers, and behind it the bytes of each segment.
use Rattle.std.specs.Prelude.{ℕ, List, [], ◌∷◌, ◌++◌, codes, length, map}
use Rattle.std.specs.Int.{to_le_bytes, w32}
use Rattle.std.specs.List.{flat_map}
use Rattle.vc_seg.specs.Segment.{Bytes, pair_of}

-- a dictionary: its method, from 0 on, the number of its kind, its count, its current holder, and its heads
pub record DictRow : Type 0 where
  pub method : ℕ
  pub kind : ℕ
  pub count : ℕ
  pub current : ℕ
  pub first : ℕ
  pub last : ℕ
  pub table : ℕ
  pub slots : ℕ
  pub root : ℕ

-- a region with its dictionaries: the root of the tree of its gaps, its segments in order of lending, and its dictionaries
pub record ImageContents : Type 0 where
  pub root : ℕ
  pub segs : List Bytes
  pub rows : List DictRow

-- what an image begins with
abbrev pub magic : List ℕ
magic = codes "VCIMAGE1"

-- a number in four bytes, the lowest first
unfoldable pub number_bytes : ℕ → List ℕ
number_bytes n = to_le_bytes w32 n

-- a segment's number and its size in bytes
abbrev pub pair_bytes : ℕ × ℕ → List ℕ
pair_bytes p = flat_map number_bytes (p.0 ∷ p.1 ∷ [])

-- a dictionary's nine numbers, in order
abbrev pub row_bytes : DictRow → List ℕ
row_bytes r = flat_map number_bytes (r.method ∷ r.kind ∷ r.count ∷ r.current ∷ r.first ∷ r.last ∷ r.table ∷ r.slots ∷ r.root ∷ [])

-- how many segments there are, the root, and how many dictionaries
abbrev pub counts : ImageContents → List ℕ
counts c = length c.segs ∷ c.root ∷ length c.rows ∷ []

-- an image: eight letters, three numbers, the segments' numbers and sizes, the dictionaries, and the bytes of the segments
unfoldable pub image_of : ImageContents → List ℕ
image_of c =
    magic ++ flat_map number_bytes (counts c) ++ flat_map pair_bytes (map pair_of c.segs) ++ flat_map row_bytes c.rows
    ++ flat_map (λ s. s.bytes) c.segs
