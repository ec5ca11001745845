-- An image has the lower four bytes of each number of a dictionary.
use Rattle.vc_base.proofs.Common.{◌≡◌, ℕ, ◌%◌, ◌<◌, ◌^◌, List, [], ◌∷◌, ◌++◌, map, length, flat_map, refl, ap₂, arith, length-map, AllByRecursion}
use Rattle.vc_seg.specs.Segment.{Bytes, pair_of}
use Rattle.vc_image_check.specs.Bytes.Header.{FitsRow}
use Rattle.vc_image_check.specs.Bytes.Image.{DictRow, ImageContents, image_of, magic, number_bytes, pair_bytes, row_bytes}
use Rattle.vc_image.proofs.Heads.{low-bytes}

-- so many of them
abbrev pub low : DictRow → DictRow
low r =
    record {
      method = r.method % 4294967296;
      kind = r.kind % 4294967296;
      count = r.count % 4294967296;
      current = r.current % 4294967296;
      first = r.first % 4294967296;
      last = r.last % 4294967296;
      table = r.table % 4294967296;
      slots = r.slots % 4294967296;
      root = r.root % 4294967296;
    }

below : (n : ℕ) → n % 4294967296 < 2 ^ 32
below n = omega arith

low-fits : (r : DictRow) → FitsRow (low r)
low-fits r = record {
  method = below r.method;
  kind = below r.kind;
  count = below r.count;
  current = below r.current;
  first = below r.first;
  last = below r.last;
  table = below r.table;
  slots = below r.slots;
  root = below r.root;
}

pub all-fit : (rows : List DictRow) → AllByRecursion FitsRow (map low rows)
all-fit [] = tt
all-fit (r ∷ rs) = (low-fits r, all-fit rs)

low-numbers : (ns : List ℕ) → flat_map number_bytes (map (λ n. n % 4294967296) ns) ≡ flat_map number_bytes ns
low-numbers [] = refl
low-numbers (n ∷ ns) = ap₂ (λ (x y : List ℕ). x ++ y) (low-bytes n) (low-numbers ns)

low-row : (r : DictRow) → row_bytes (low r) ≡ row_bytes r
low-row r = low-numbers (r.method ∷ r.kind ∷ r.count ∷ r.current ∷ r.first ∷ r.last ∷ r.table ∷ r.slots ∷ r.root ∷ [])

low-rows : (rows : List DictRow) → flat_map row_bytes (map low rows) ≡ flat_map row_bytes rows
low-rows [] = refl
low-rows (r ∷ rs) = ap₂ (λ (x y : List ℕ). x ++ y) (low-row r) (low-rows rs)

-- so an image is that of rows of these
abbrev pub low_contents : ImageContents → ImageContents
low_contents c = record { root = c.root; segs = c.segs; rows = map low c.rows }

pub low-image : (c : ImageContents) → image_of (low_contents c) ≡ image_of c
unfolding image_of
low-image c =
    let body : List ℕ = flat_map (λ (s : Bytes). s.bytes) c.segs in
    let pairs : List ℕ = flat_map pair_bytes (map pair_of c.segs) in
    let head : ℕ → List ℕ → List ℕ = λ n rows. magic ++ flat_map number_bytes (length c.segs ∷ c.root ∷ n ∷ []) ++ pairs ++ rows ++ body in
    ap₂ head (length-map c.rows low) (low-rows c.rows)
