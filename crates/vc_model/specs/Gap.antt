-- Gaps, computed anew from the segments and the footprints.
use Rattle.std.specs.Prelude.{ℕ, ◌-◌, List, [], ◌∷◌, ◌++◌, Bool, filter, nat_lt, ◌==◌, ◌&&◌, ◌||◌, if◌then◌else◌}
use Rattle.std.specs.List.{flat_map}
use Rattle.vc_model.specs.Order.{sorted_by}

-- a run of bytes of a segment, up to but not including `to`
pub record Run : Type 0 where
  pub seg : ℕ
  pub from : ℕ
  pub to : ℕ

abbrev pub bytes_of : Run → ℕ
bytes_of r = r.to - r.from

-- the run, where it has a byte
abbrev pub run_of : ℕ → ℕ → ℕ → List Run
run_of seg from to = if nat_lt from to then record { seg = seg; from = from; to = to } ∷ [] else []

-- what these runs, by their first bytes, leave free of a segment from one offset to another
abbrev pub gaps_between : ℕ → ℕ → ℕ → List Run → List Run
gaps_between seg from to [] = run_of seg from to
gaps_between seg from to (f ∷ fs) = run_of seg from f.from ++ gaps_between seg f.to to fs

-- the runs of one segment, by their first bytes
abbrev pub runs_in : ℕ → List Run → List Run
runs_in seg runs = sorted_by (λ f. f.from) (filter (λ f. f.seg == seg) runs)

-- the gaps of one segment, whose usable part is all but its first and its last 16 bytes
abbrev pub gaps_in : List Run → ℕ × ℕ → List Run
gaps_in footprints s = gaps_between s.0 16 (s.1 - 16) (runs_in s.0 footprints)

-- the gaps of all segments
abbrev pub gaps : List (ℕ × ℕ) → List Run → List Run
gaps segments footprints = flat_map (gaps_in footprints) segments

-- the order of gaps: by bytes, then by segment, then by offset
abbrev pub comes_before : Run → Run → Bool
comes_before a b =
    nat_lt (bytes_of a) (bytes_of b)
    || ((bytes_of a == bytes_of b) && (nat_lt a.seg b.seg || ((a.seg == b.seg) && nat_lt a.from b.from)))
