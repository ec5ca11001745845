-- The parts of a best region. What cites it names these in place of its fields.
use Rattle.std.specs.Prelude.{ℕ, List, Option, option_map}
use Rattle.vc_model.specs.Addr.{place_of}
use Rattle.vc_model.specs.Discipline.{Discipline}
use Rattle.vc_model.specs.Layout.{Block, Layout}
use Rattle.vc_model.specs.Touch.{find_block}
use Rattle.vc_seg.specs.Boxed.{disc_in_box}
use Rattle.vc_best.specs.Blocks.{layout_by}
use Rattle.vc_best.specs.declared.best.Best.{Best}

-- its segments and its blocks
abbrev pub layout_of : {I : Type 0} {V : I → Type 0} → Best I V → Layout ℕ
layout_of b = layout_by b.extents.segs.items

-- its segments, as number and size in order of lending
abbrev pub segments_in : {I : Type 0} {V : I → Type 0} → Best I V → List (ℕ × ℕ)
segments_in b = (layout_of b).segments

-- its blocks
abbrev pub blocks_in : {I : Type 0} {V : I → Type 0} → Best I V → List (Block ℕ)
blocks_in b = (layout_of b).blocks

-- the size of its block at an address, where there is one
abbrev pub size_in : {I : Type 0} {V : I → Type 0} → Best I V → ℕ → Option ℕ
size_in b a = option_map (λ c. c.size) (find_block (place_of a) (blocks_in b))

-- what the discipline means that lends its segments
abbrev pub disc_in : {I : Type 0} {V : I → Type 0} → ((x : I) × V x → Discipline) → Best I V → Discipline
disc_in meaning b = disc_in_box meaning b.disc
