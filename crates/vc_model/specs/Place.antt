-- The place for a block: exact best fit.
use Rattle.std.specs.Prelude.{ℕ, ◌+◌, List, ◌∷◌, [], Option, Some, None, Bool, Contains, filter, fold, option_map, nat_le, if◌then◌else◌}
use Rattle.vc_model.specs.Segments.{span, round_up}
use Rattle.vc_model.specs.Gap.{Run, gaps, comes_before}

-- an alignment is a power of two from 32 to 4,096
abbrev pub IsAlign : ℕ → Type 0
IsAlign align = Contains (32 ∷ 64 ∷ 128 ∷ 256 ∷ 512 ∷ 1024 ∷ 2048 ∷ 4096 ∷ []) align

-- the lowest offset of a block in a gap that the alignment divides: a block begins 16 bytes behind its footprint
abbrev pub lowest_offset : ℕ → Run → ℕ
lowest_offset align gap = round_up (gap.from + 16) align

-- whether a gap holds a footprint of that span at such an offset
abbrev pub holds : ℕ → ℕ → Run → Bool
holds span align gap = nat_le (lowest_offset align gap + span) (gap.to + 16)

-- the lesser of the least gap so far and one more
abbrev pub lesser : Option Run → Run → Option Run
lesser None gap = Some gap
lesser (Some least) gap = if comes_before gap least then Some gap else Some least

abbrev pub least : List Run → Option Run
least gaps = fold lesser None gaps

-- the least gap that holds a block of that size and alignment
abbrev pub best_gap : List (ℕ × ℕ) → List Run → ℕ → ℕ → Option Run
best_gap segments footprints size align = least (filter (holds (span size) align) (gaps segments footprints))

-- the place of the block in it, as segment and offset
abbrev pub place : List (ℕ × ℕ) → List Run → ℕ → ℕ → Option (ℕ × ℕ)
place segments footprints size align = option_map (λ g. (g.seg, lowest_offset align g)) (best_gap segments footprints size align)
