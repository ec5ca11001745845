-- Blocks and gaps, counted along extents.
use Rattle.std.specs.Prelude.{ℕ, List, [], filter, map}
use Rattle.std.specs.List.{flat_map}
use Rattle.vc_seg.specs.Tally.{HasRoom, tallied_all, tally_of}
use Rattle.vc_extent.specs.Extent.{Extent}
use Rattle.vc_best.specs.Blocks.{is_busy}
use Rattle.vc_best.specs.Free.{is_free}
use Rattle.vc_best.specs.declared.stat.Counts.{Counts}

-- the sizes of the blocks of extents, and the bytes of the free ones
abbrev pub busy_sizes : List Extent → List ℕ
busy_sizes es = map (λ e. e.size) (filter is_busy es)

abbrev pub free_spans : List Extent → List ℕ
free_spans es = map (λ e. e.span) (filter is_free es)

-- the counts with more extents
abbrev pub counts_with : Counts → List Extent → Counts
counts_with c es =
    record {
      blocks = tallied_all c.blocks (busy_sizes es);
      gaps = tallied_all c.gaps (free_spans es);
    }

-- of no extent
abbrev pub counts_of_none : Counts
counts_of_none = record { blocks = tally_of []; gaps = tally_of [] }

-- the numbers stay in 64 bits where these extents are counted
pub record HaveRoom (c : Counts) (es : List Extent) : Type 0 where
  pub blocks : HasRoom c.blocks (busy_sizes es)
  pub gaps : HasRoom c.gaps (free_spans es)

-- the extents of all segments
abbrev pub all_extents : List (ℕ × List Extent) → List Extent
all_extents t = flat_map (λ s. s.1) t
