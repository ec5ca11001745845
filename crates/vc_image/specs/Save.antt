-- The image of a best region with its dictionaries.
use Rattle.std.specs.Prelude.{ℕ, List, [], ◌++◌, map}
use Rattle.std.specs.List.{flat_map}
use Rattle.vc_base.specs.Methods.{method_number}
use Rattle.vc_seg.specs.Segment.{Bytes, pair_of}
use Rattle.vc_dict.specs.declared.dict.Dict.{Dict}
use Rattle.vc_dict.specs.Parts.{heads_in}
use Rattle.vc_best.specs.declared.best.Best.{Best}
use Rattle.vc_region.specs.declared.region.Region.{Region}
use Rattle.vc_region.specs.declared.region.Region.TheVariants.{Best as OfBest, Pool, Last, Debug, Profile}
use Rattle.vc_image_check.specs.Bytes.Image.{DictRow, ImageContents, counts, image_of, magic, number_bytes, pair_bytes, row_bytes}

-- a dictionary's nine numbers
abbrev pub dict_row : Dict → DictRow
dict_row d =
    record {
      method = method_number d.method;
      kind = d.kind;
      count = d.count;
      current = d.current.0;
      first = (heads_in d).first.0;
      last = (heads_in d).last.0;
      table = (heads_in d).table.0;
      slots = (heads_in d).slots;
      root = (heads_in d).root.0;
    }

-- a region by the root of its tree and its segments, with dictionaries
abbrev pub contents_by : ℕ → List Bytes → List Dict → ImageContents
contents_by root segs dicts = record { root = root; segs = segs; rows = map dict_row dicts }

abbrev pub image_contents : {I : Type 0} {V : I → Type 0} → Best I V → List Dict → ImageContents
image_contents b dicts = contents_by b.root.0 b.extents.segs.items dicts

-- what stands before the bytes of the segments
unfoldable pub head_of : ImageContents → List ℕ
head_of c = magic ++ flat_map number_bytes (counts c) ++ flat_map pair_bytes (map pair_of c.segs) ++ flat_map row_bytes c.rows

-- the bytes of the segments, one behind the other
abbrev pub image_body : List Bytes → List ℕ
image_body segs = flat_map (λ (s : Bytes). s.bytes) segs

-- the image of a best region with dictionaries; a region of another method has none
abbrev pub image_in : {I : Type 0} {V : I → Type 0} → Region I V → List Dict → List ℕ
image_in (OfBest b) dicts = image_of (image_contents b dicts)
image_in (Pool p) dicts = []
image_in (Last l) dicts = []
image_in (Debug d) dicts = []
image_in (Profile p) dicts = []
