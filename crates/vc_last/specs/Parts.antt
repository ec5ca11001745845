-- The parts of a last region. What cites it names these in place of its fields.
use Rattle.std.specs.Prelude.{ℕ, List}
use Rattle.vc_model.specs.Discipline.{Discipline}
use Rattle.vc_model.specs.Layout.{Block, Layout}
use Rattle.vc_seg.specs.Boxed.{disc_in_box}
use Rattle.vc_last.specs.Read.{layout_by}
use Rattle.vc_last.specs.declared.last.Last.{Last}

-- its segments in order of lending, and its blocks in order of allocation
abbrev pub layout_of : {I : Type 0} {V : I → Type 0} → Last I V → Layout ℕ
layout_of l = layout_by l.segs.items l.latest.0

-- its segments, as number and size
abbrev pub segments_in : {I : Type 0} {V : I → Type 0} → Last I V → List (ℕ × ℕ)
segments_in l = (layout_of l).segments

-- its blocks
abbrev pub blocks_in : {I : Type 0} {V : I → Type 0} → Last I V → List (Block ℕ)
blocks_in l = (layout_of l).blocks

-- what the discipline means that lends its segments
abbrev pub disc_in : {I : Type 0} {V : I → Type 0} → ((x : I) × V x → Discipline) → Last I V → Discipline
disc_in meaning l = disc_in_box meaning l.disc
