-- A segment as a number and a list of bytes, and those of a region in order of lending.
use Rattle.std.specs.Prelude.{◌≢◌, ℕ, ◌≤◌, List, ◌++◌, All, AllPairs, length, replicate}
use Rattle.vc_seg.specs.Numbered.{IsRegionPair}

pub record Bytes : Type 0 where
  pub number : ℕ
  pub bytes : List ℕ

-- a segment of zeros
abbrev pub zero_segment : ℕ → ℕ → Bytes
zero_segment number size = record { number = number; bytes = replicate size 0 }

-- a segment with so many zeros more behind its bytes
abbrev pub grown_segment : ℕ → Bytes → Bytes
grown_segment more s = record { number = s.number; bytes = s.bytes ++ replicate more 0 }

-- its number and its size in bytes
abbrev pub pair_of : Bytes → ℕ × ℕ
pair_of s = (s.number, length s.bytes)

-- the numbers and sizes that a region's segment can have
abbrev pub IsRegionSegment : Bytes → Type 0
IsRegionSegment s = IsRegionPair (pair_of s)

-- at most 1,023 segments, each of another number
pub record AreSegments (segs : List Bytes) : Type 0 where
  pub few : length segs ≤ 1023
  pub legal : All IsRegionSegment segs
  pub distinct : AllPairs (λ a b. a.number ≢ b.number) segs
