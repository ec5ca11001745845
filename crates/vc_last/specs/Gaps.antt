-- What blocks that stand one behind another leave of their segments.
use Rattle.std.specs.Prelude.{ℕ, ◌-◌, List, [], ◌∷◌, filter, nat_lt, ◌==◌, if◌then◌else◌}
use Rattle.std.specs.List.{flat_map}
use Rattle.vc_model.specs.Gap.{Run, gaps_between}
use Rattle.vc_model.specs.Layout.{Block, footprint}

-- the runs of the segment of that number
abbrev pub own_runs : ℕ → List Run → List Run
own_runs number runs = filter (λ f. f.seg == number) runs

-- the gaps of one segment that runs leave, which stand there one behind another
abbrev pub gaps_left_in : List Run → ℕ × ℕ → List Run
gaps_left_in runs s = gaps_between s.0 16 (s.1 - 16) (own_runs s.0 runs)

-- the gaps of all segments
abbrev pub gaps_left : List (ℕ × ℕ) → List Run → List Run
gaps_left segments runs = flat_map (gaps_left_in runs) segments

-- the size of the run from one offset to another, where it has a byte
abbrev pub run_sizes : ℕ → ℕ → List ℕ
run_sizes from to = if nat_lt from to then (to - from) ∷ [] else []

-- the size of the gap between a block of the segment of that number and an offset, where it has a byte
abbrev pub sizes_above : ℕ → ℕ → Block ℕ → List ℕ
sizes_above number to b = if b.seg == number then run_sizes (footprint b).to to else []

-- where the gap before it ends then
abbrev pub gap_end_below : ℕ → ℕ → Block ℕ → ℕ
gap_end_below number to b = if b.seg == number then (footprint b).from else to
