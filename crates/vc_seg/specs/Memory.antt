-- The segments of a region with their bytes, in order of lending.
use Rattle.std.specs.Prelude.{ℕ, List, [], ◌∷◌, take, drop, ◌==◌, if◌then◌else◌}
use Rattle.vc_model.specs.Bytes.{with_bytes}
use Rattle.vc_seg.specs.Segment.{Bytes}

-- the bytes of the segment of that number, or none
abbrev pub bytes_of_number : ℕ → List Bytes → List ℕ
bytes_of_number number [] = []
bytes_of_number number (s ∷ ss) = if s.number == number then s.bytes else bytes_of_number number ss

-- the segments with other bytes, from an offset on, in the one of that number
abbrev pub write_segment : ℕ → ℕ → List ℕ → List Bytes → List Bytes
write_segment number off src [] = []
write_segment number off src (s ∷ ss) =
    if s.number == number then record { number = s.number; bytes = with_bytes off src s.bytes } ∷ ss else s ∷ write_segment number off src ss

-- a segment with a copy of a range of one, from an offset on
abbrev pub with_copy_of : Bytes → ℕ → ℕ → ℕ → Bytes → Bytes
with_copy_of source from len to s = record { number = s.number; bytes = with_bytes to (take len (drop from source.bytes)) s.bytes }
