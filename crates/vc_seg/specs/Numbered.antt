-- The segments of a region as number and size in bytes, whatever its method keeps of each.
use Rattle.std.specs.Prelude.{◌≢◌, ℕ, ◌≤◌, List, All, AllPairs, length}
use Rattle.vc_model.specs.Discipline.{IsSegmentSize}

-- the numbers and sizes that a region's segment can have
pub record IsRegionPair (s : ℕ × ℕ) : Type 0 where
  pub first : 1 ≤ s.0
  pub last : s.0 ≤ 1023
  pub size : IsSegmentSize s.1

-- at most 1,023 segments, each of another number
pub record AreNumbered (pairs : List (ℕ × ℕ)) : Type 0 where
  pub few : length pairs ≤ 1023
  pub legal : All IsRegionPair pairs
  pub distinct : AllPairs (λ s t. s.0 ≢ t.0) pairs
