-- Contents and their images, as rows.
use Rattle.std.specs.Prelude.{ℕ, List, [], ◌∷◌, ◌++◌, codes}
use Rattle.vc_image_check.specs.Bytes.Image.{ImageContents}

-- a region with no segment
abbrev pub no_contents : ImageContents
no_contents = record { root = 0; segs = []; rows = [] }

-- a short segment of number 3, and a set
abbrev pub some_contents : ImageContents
some_contents =
    record {
      root = 513;
      segs = record { number = 3; bytes = 9 ∷ 8 ∷ 7 ∷ [] } ∷ [];
      rows = record { method = 0; kind = 2; count = 1; current = 1048608; first = 1048608; last = 1048608; table = 1048672; slots = 16; root = 0 } ∷ [];
    }

abbrev pub some_image : List ℕ
some_image =
    codes "VCIMAGE1" ++ 1 ∷ 0 ∷ 0 ∷ 0 ∷ 1 ∷ 2 ∷ 0 ∷ 0 ∷ 1 ∷ 0 ∷ 0 ∷ 0 ∷ 3 ∷ 0 ∷ 0 ∷ 0 ∷ 3 ∷ 0 ∷ 0 ∷ 0
    ∷ 0 ∷ 0 ∷ 0 ∷ 0 ∷ 2 ∷ 0 ∷ 0 ∷ 0 ∷ 1 ∷ 0 ∷ 0 ∷ 0 ∷ 32 ∷ 0 ∷ 16 ∷ 0 ∷ 32 ∷ 0 ∷ 16 ∷ 0 ∷ 32 ∷ 0 ∷ 16 ∷ 0 ∷ 96 ∷ 0 ∷ 16 ∷ 0 ∷ 16 ∷ 0 ∷ 0 ∷ 0 ∷ 0 ∷ 0 ∷ 0 ∷ 0
    ∷ 9 ∷ 8 ∷ 7 ∷ []
