-- The parts of a profile region.
use Rattle.std.specs.Prelude.{ℕ, List}
use Rattle.vc_model.specs.Discipline.{Discipline}
use Rattle.vc_model.specs.Layout.{Block, Layout}
use Rattle.vc_seg.specs.Boxed.{disc_in_box}
use Rattle.vc_addrmap.specs.Parts.{numbers_of}
use Rattle.vc_best.specs.Parts.{layout_of}
use Rattle.vc_audit.specs.Profile as model
use Rattle.vc_audit.specs.ProfileSums.{Sites, peaks_of, sites_by, with_sites}
use Rattle.vc_audit.specs.declared.profile.Profile.{Profile}

-- the sites of its blocks
abbrev pub sites_in : {I : Type 0} {V : I → Type 0} → Profile I V → Sites
sites_in p = sites_by (numbers_of p.sites) p.rows.entries

-- what it is: its blocks with their sites, and its sites with their peaks
abbrev pub profile_of : {I : Type 0} {V : I → Type 0} → Profile I V → model.Profile ℕ
profile_of p = record { layout = with_sites (sites_in p) (layout_of p.best); peaks = peaks_of p.rows.entries }

-- its lists of segments and of blocks
abbrev pub layout_in : {I : Type 0} {V : I → Type 0} → Profile I V → Layout ℕ
layout_in p = model.bare_layout (profile_of p)

abbrev pub segments_in : {I : Type 0} {V : I → Type 0} → Profile I V → List (ℕ × ℕ)
segments_in p = (layout_in p).segments

abbrev pub blocks_in : {I : Type 0} {V : I → Type 0} → Profile I V → List (Block ℕ)
blocks_in p = (layout_in p).blocks

-- what the discipline means that lends its segments
abbrev pub disc_in : {I : Type 0} {V : I → Type 0} → ((x : I) × V x → Discipline) → Profile I V → Discipline
disc_in meaning p = disc_in_box meaning p.best.disc
