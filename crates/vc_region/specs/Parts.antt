-- The parts of a region of one of the methods.
use Rattle.std.specs.Prelude.{ℕ, List, Result}
use Rattle.std.specs.declared.dyn_box.DynBox.{DynBox}
use Rattle.std.specs.declared.alloc.Global.{Global}
use Rattle.vc_model.specs.Discipline.{Discipline}
use Rattle.vc_model.specs.Layout.{Block}
use Rattle.vc_base.specs.declared.addr.Addr.{Addr}
use Rattle.vc_seg.specs.declared.fault.RegionFault.{RegionFault}
use Rattle.vc_seg.specs.Answer.{Asks}
use Rattle.vc_seg.specs.Boxed.{disc_in_box}
use Rattle.vc_best.specs.Parts.{layout_of}
use Rattle.vc_last.specs.Parts.{layout_of as last_of}
use Rattle.vc_pool.specs.Parts.{pool_of}
use Rattle.vc_audit.specs.DebugParts.{debug_of}
use Rattle.vc_audit.specs.ProfileParts.{profile_of}
use Rattle.vc_region.specs.Region as model
use Rattle.vc_region.specs.declared.region.Region.{Region}
use Rattle.vc_region.specs.declared.region.Region.TheVariants.{Best, Pool, Last, Debug, Profile}

-- what it is by its method
abbrev pub region_of : {I : Type 0} {V : I → Type 0} → Region I V → model.Region ℕ
region_of (Best b) = model.OfBest (layout_of b)
region_of (Pool p) = model.OfPool (pool_of p)
region_of (Last l) = model.OfLast (last_of l)
region_of (Debug d) = model.OfDebug (debug_of d)
region_of (Profile p) = model.OfProfile (profile_of p)

-- the discipline that lends its segments
abbrev pub disc_of : {I : Type 0} {V : I → Type 0} → Region I V → DynBox I Global V
disc_of (Best b) = b.disc
disc_of (Pool p) = p.disc
disc_of (Last l) = l.disc
disc_of (Debug d) = d.best.disc
disc_of (Profile p) = p.best.disc

-- what the discipline of a region means
abbrev pub disc_in : {I : Type 0} {V : I → Type 0} → ((x : I) × V x → Discipline) → Region I V → Discipline
disc_in meaning r = disc_in_box meaning (disc_of r)

-- its segments, as number and size in order of lending
abbrev pub segments_in : {I : Type 0} {V : I → Type 0} → Region I V → List (ℕ × ℕ)
segments_in r = model.segments_of (region_of r)

-- its blocks
abbrev pub blocks_in : {I : Type 0} {V : I → Type 0} → Region I V → List (Block ℕ)
blocks_in r = model.blocks_of (region_of r)

-- what a call that puts or keeps a block leaves of the discipline, where a segment may be asked for, for a block of that size and alignment
abbrev pub AsksOfDisc : {I : Type 0} {V : I → Type 0} → ((x : I) × V x → Discipline) → Result Addr RegionFault → Region I V → Region I V → ℕ → ℕ → Type 0
AsksOfDisc meaning result old new size align =
    Asks result (disc_in meaning old) (disc_in meaning new) (segments_in old) (segments_in new) (model.region_need (disc_in meaning old).terms (region_of old) size align)
