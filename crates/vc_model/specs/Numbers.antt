-- The numbers of a region: its blocks, its gaps and its segments, counted and in bytes.
use Rattle.std.specs.Prelude.{ℕ, List, fold, length, map, max, sum}
use Rattle.vc_model.specs.Gap.{Run, bytes_of, gaps}
use Rattle.vc_model.specs.Layout.{Layout, footprints}

-- the greatest of these numbers; 0 where there is none
abbrev pub greatest : List ℕ → ℕ
greatest ns = fold max 0 ns

-- the gaps of a region, and the bytes of each
abbrev pub gaps_of : {L : Type 0} → Layout L → List Run
gaps_of r = gaps r.segments (footprints r.blocks)

abbrev pub gap_sizes : {L : Type 0} → Layout L → List ℕ
gap_sizes r = map bytes_of (gaps_of r)

-- the size of each block
abbrev pub block_sizes : {L : Type 0} → Layout L → List ℕ
block_sizes r = map (λ b. b.size) r.blocks

-- how many blocks there are, the sum of their sizes, and the greatest
abbrev pub block_count : {L : Type 0} → Layout L → ℕ
block_count r = length r.blocks

abbrev pub block_bytes : {L : Type 0} → Layout L → ℕ
block_bytes r = sum (block_sizes r)

abbrev pub greatest_block : {L : Type 0} → Layout L → ℕ
greatest_block r = greatest (block_sizes r)

-- how many gaps there are, the sum of their bytes, and the greatest
abbrev pub gap_count : {L : Type 0} → Layout L → ℕ
gap_count r = length (gaps_of r)

abbrev pub gap_bytes : {L : Type 0} → Layout L → ℕ
gap_bytes r = sum (gap_sizes r)

abbrev pub greatest_gap : {L : Type 0} → Layout L → ℕ
greatest_gap r = greatest (gap_sizes r)

-- how many segments there are, and the sum of their sizes
abbrev pub segment_count : {L : Type 0} → Layout L → ℕ
segment_count r = length r.segments

abbrev pub segment_bytes : {L : Type 0} → Layout L → ℕ
segment_bytes r = sum (map (λ s. s.1) r.segments)
