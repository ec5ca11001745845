-- The parts of a pool. What cites it names these in place of its fields.
use Rattle.std.specs.Prelude.{ℕ, List}
use Rattle.vc_model.specs.Discipline.{Discipline}
use Rattle.vc_model.specs.Layout.{Block}
use Rattle.vc_model.specs.Pool as model
use Rattle.vc_seg.specs.Boxed.{disc_in_box}
use Rattle.vc_pool.specs.Read.{pool_by}
use Rattle.vc_pool.specs.declared.pool.Pool.{Pool}

-- its segments, its blocks and its cells
abbrev pub pool_of : {I : Type 0} {V : I → Type 0} → Pool I V → model.Pool ℕ
pool_of p = pool_by p.segs.items p.element p.freed.0

-- its segments, as number and size in order of lending
abbrev pub segments_in : {I : Type 0} {V : I → Type 0} → Pool I V → List (ℕ × ℕ)
segments_in p = (pool_of p).layout.segments

-- its blocks
abbrev pub blocks_in : {I : Type 0} {V : I → Type 0} → Pool I V → List (Block ℕ)
blocks_in p = (pool_of p).layout.blocks

-- what the discipline means that lends its segments
abbrev pub disc_in : {I : Type 0} {V : I → Type 0} → ((x : I) × V x → Discipline) → Pool I V → Discipline
disc_in meaning p = disc_in_box meaning p.disc
