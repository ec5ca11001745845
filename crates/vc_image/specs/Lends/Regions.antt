-- A best region over an image's segments, and why there is none.
use Rattle.std.specs.Prelude.{◌≡◌, ℕ, List, None, Some, filter, length}
use Rattle.vc_model.specs.Discipline.{Discipline}
use Rattle.vc_extent.specs.Extent.{Extent}
use Rattle.vc_best.specs.Blocks.{is_busy}
use Rattle.vc_image.specs.Lends.Lends.{IsRefused}
use Rattle.vc_image.specs.Lends.Terms.{terms_fault}
use Rattle.vc_image.specs.declared.lends.fault.ImageLendFault.{ImageLendFault}
use Rattle.vc_image.specs.declared.lends.fault.ImageLendFault.TheVariants.{Round, Grows, NoSegment, OutOfMemory}

-- how many of these have a block
abbrev pub busy_count : List Extent → ℕ
busy_count es = length (filter is_busy es)

-- what the terms don't allow is told before anything is lent; want of memory may come at any time
abbrev pub IsLoadFault : Discipline → Discipline → List (ℕ × ℕ) → ImageLendFault → Type 0
IsLoadFault old new pairs (Round number) = (terms_fault old.terms pairs ≡ Some (Round number)) × (new ≡ old)
IsLoadFault old new pairs Grows = (terms_fault old.terms pairs ≡ Some Grows) × (new ≡ old)
IsLoadFault old new pairs (NoSegment number) = (terms_fault old.terms pairs ≡ None) × IsRefused old new pairs number
IsLoadFault old new pairs OutOfMemory = terms_fault old.terms pairs ≡ None
