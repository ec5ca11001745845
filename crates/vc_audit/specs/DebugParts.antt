-- The parts of a debug region.
use Rattle.std.specs.Prelude.{ℕ, List}
use Rattle.vc_model.specs.Discipline.{Discipline}
use Rattle.vc_model.specs.Layout.{Block}
use Rattle.vc_seg.specs.Boxed.{disc_in_box}
use Rattle.vc_addrmap.specs.Parts.{numbers_of}
use Rattle.vc_best.specs.Parts.{layout_of}
use Rattle.vc_audit.specs.Debug as model
use Rattle.vc_audit.specs.declared.debug.Debug.{Debug}

-- what it is
abbrev pub debug_of : {I : Type 0} {V : I → Type 0} → Debug I V → model.Debug ℕ
debug_of d = record { best = layout_of d.best; marks = numbers_of d.marks }

-- its segments, as number and size in order of lending
abbrev pub segments_in : {I : Type 0} {V : I → Type 0} → Debug I V → List (ℕ × ℕ)
segments_in d = (layout_of d.best).segments

-- the user's blocks
abbrev pub blocks_in : {I : Type 0} {V : I → Type 0} → Debug I V → List (Block ℕ)
blocks_in d = model.user_blocks (debug_of d)

-- what the discipline that lends its segments means
abbrev pub disc_in : {I : Type 0} {V : I → Type 0} → ((x : I) × V x → Discipline) → Debug I V → Discipline
disc_in meaning d = disc_in_box meaning d.best.disc
