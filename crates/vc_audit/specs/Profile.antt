-- A best region in which each block has a site, and what is counted for each site.
use Rattle.std.specs.Prelude.{ℕ, List, [], ◌∷◌, Bool, Option, filter, length, map, max, sum, slice_get, if◌then◌else◌}
use Rattle.std.specs.Str.{bytes_eq}
use Rattle.vc_model.specs.Discipline.{Terms}
use Rattle.vc_model.specs.Layout.{Block, Layout, empty_layout, relabel_layout}
use Rattle.vc_model.specs.Outcome.{Outcome, Put, outcome_as}
use Rattle.vc_model.specs.Best.{best_alloc, without_block_at}
use Rattle.vc_model.specs.Resize.{best_resize}
use Rattle.vc_model.specs.Touch.{with_bytes_at}
use Rattle.vc_model.specs.Compact.{cleared_layout, compacted_layout}
use Rattle.vc_seg.specs.declared.profile_row.ProfileRow.{ProfileRow}

-- blocks whose labels are a label and a site, and the sites in order of their first granted alloc, each with its peak in bytes
pub record Profile (L : Type 0) : Type 0 where
  pub layout : Layout (L × List ℕ)
  pub peaks : List (List ℕ × ℕ)

-- with no block, and no site
abbrev pub empty_profile : {L : Type 0} → Profile L
empty_profile = record { layout = empty_layout; peaks = [] }

-- the layout with the sites dropped from the labels, which is that of the region
abbrev pub bare_layout : {L : Type 0} → Profile L → Layout L
bare_layout p = relabel_layout (λ l. l.0) p.layout

-- whether a block has that site
abbrev pub has_site : {L : Type 0} → List ℕ → Block (L × List ℕ) → Bool
has_site site b = bytes_eq site b.label.1

-- the sizes of the blocks of a site
abbrev pub site_sizes : {L : Type 0} → List ℕ → List (Block (L × List ℕ)) → List ℕ
site_sizes site blocks = map (λ b. b.size) (filter (has_site site) blocks)

-- how many blocks of a site there are, and the sum of their sizes
abbrev pub site_blocks : {L : Type 0} → List ℕ → List (Block (L × List ℕ)) → ℕ
site_blocks site blocks = length (site_sizes site blocks)

abbrev pub site_bytes : {L : Type 0} → List ℕ → List (Block (L × List ℕ)) → ℕ
site_bytes site blocks = sum (site_sizes site blocks)

-- each peak is the greater of itself and the bytes now
abbrev pub rows_with_peaks : {L : Type 0} → List (Block (L × List ℕ)) → List (List ℕ × ℕ) → List (List ℕ × ℕ)
rows_with_peaks blocks peaks = map (λ p. (p.0, max p.1 (site_bytes p.0 blocks))) peaks

-- the profile after a call that leaves these lists
abbrev pub profile_after : {L : Type 0} → List (List ℕ × ℕ) → Layout (L × List ℕ) → Profile L
profile_after peaks layout = record { layout = layout; peaks = rows_with_peaks layout.blocks peaks }

-- the sites with this one, which is the last if it is new
abbrev pub with_site : List ℕ → List (List ℕ × ℕ) → List (List ℕ × ℕ)
with_site site [] = (site, 0) ∷ []
with_site site (p ∷ ps) = if bytes_eq site p.0 then p ∷ ps else p ∷ with_site site ps

-- a block is put as in a best region; its site gets a row if it has none
abbrev pub profile_alloc : {L : Type 0} → Terms → Profile L → L → List ℕ → ℕ → ℕ → Bool → Outcome (Put (Profile L))
profile_alloc terms p label site size align refused =
    outcome_as (profile_after (with_site site p.peaks)) (best_alloc terms p.layout (label, site) size align refused)

-- the block at a place gets another size, and keeps its site
abbrev pub profile_resize : {L : Type 0} → Terms → Profile L → ℕ × ℕ → ℕ → Bool → Bool → Outcome (Put (Profile L))
profile_resize terms p at size may_move refused =
    outcome_as (profile_after p.peaks) (best_resize terms p.layout at size may_move refused)

-- the block at a place goes; its site's row stays
abbrev pub profile_free : {L : Type 0} → Profile L → ℕ × ℕ → Profile L
profile_free p at = profile_after p.peaks (without_block_at p.layout at)

-- other bytes stand in the block at a place, from an offset on
abbrev pub profile_write : {L : Type 0} → Profile L → ℕ × ℕ → ℕ → List ℕ → Profile L
profile_write p at off src = profile_after p.peaks (with_bytes_at p.layout at off src)

-- all blocks go; every row stays
abbrev pub profile_clear : {L : Type 0} → Profile L → Profile L
profile_clear p = profile_after p.peaks (cleared_layout p.layout)

-- the segments without a block go
abbrev pub profile_compact : {L : Type 0} → Profile L → Profile L
profile_compact p = profile_after p.peaks (compacted_layout p.layout)

-- what is counted for a site, of these blocks
abbrev pub row_of : {L : Type 0} → List (Block (L × List ℕ)) → List ℕ × ℕ → ProfileRow
row_of blocks p = record { site = p.0; blocks = site_blocks p.0 blocks; bytes = site_bytes p.0 blocks; peak = p.1 }

-- the rows, and the one of that index from 0 on
abbrev pub profile_rows : {L : Type 0} → Profile L → List ProfileRow
profile_rows p = map (row_of p.layout.blocks) p.peaks

abbrev pub row_at : {L : Type 0} → Profile L → ℕ → Option ProfileRow
row_at p i = slice_get (profile_rows p) i

-- the same with other labels
abbrev pub relabel_profile : {L M : Type 0} → (L → M) → Profile L → Profile M
relabel_profile name p = record { layout = relabel_layout (λ l. (name l.0, l.1)) p.layout; peaks = p.peaks }
