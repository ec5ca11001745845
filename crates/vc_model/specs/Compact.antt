-- Clearing and compacting.
use Rattle.std.specs.Prelude.{ℕ, ◌-◌, List, [], Bool, filter, length, ◌==◌}
use Rattle.std.specs.List.{list_any}
use Rattle.vc_model.specs.Layout.{Block, Layout}

-- the layout without its blocks
abbrev pub cleared_layout : {L : Type 0} → Layout L → Layout L
cleared_layout r = record { segments = r.segments; blocks = [] }

-- whether some block is in the segment of that number
abbrev pub is_occupied : {L : Type 0} → List (Block L) → ℕ → Bool
is_occupied blocks number = list_any (λ b. b.seg == number) blocks

-- the layout with those of its segments alone that some block is in
abbrev pub compacted_layout : {L : Type 0} → Layout L → Layout L
compacted_layout r = record { segments = filter (λ s. is_occupied r.blocks s.0) r.segments; blocks = r.blocks }

-- how many segments go by that
abbrev pub compact_count : {L : Type 0} → Layout L → ℕ
compact_count r = length r.segments - length (compacted_layout r).segments
