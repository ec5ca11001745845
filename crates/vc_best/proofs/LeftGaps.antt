-- The gaps that runs by address leave. They are those of the region, where the runs are sorted first.
use Rattle.vc_base.proofs.Common.{ℕ, ◌-◌, List, ◌==◌, filter, flat_map, Run, gaps_between}

-- the gaps of one segment
abbrev pub gaps_left_in : List Run → ℕ × ℕ → List Run
gaps_left_in runs s = gaps_between s.0 16 (s.1 - 16) (filter (λ f. f.seg == s.0) runs)

-- the gaps of all segments
abbrev pub gaps_left : List (ℕ × ℕ) → List Run → List Run
gaps_left segments runs = flat_map (gaps_left_in runs) segments
