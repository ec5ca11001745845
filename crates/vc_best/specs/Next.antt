-- The extents of a segment from one on, and the first busy one from an address on.
use Rattle.std.specs.Prelude.{ℕ, ◌≤◌, ◌<◌, List, [], ◌∷◌, All, Option, Some, None, ◌==◌, if◌then◌else◌}
use Rattle.vc_model.specs.Addr.{place_of}
use Rattle.vc_model.specs.Layout.{Block, address_of}
use Rattle.vc_extent.specs.Extent.{Extent}

-- the extents from the one that an offset names on
abbrev pub extents_from : ℕ → List Extent → List Extent
extents_from off [] = []
extents_from off (e ∷ es) = if e.off == off then e ∷ es else extents_from off es

-- the extents from the one that an address names on, or none
abbrev pub left_from : Option ℕ → List Extent → List Extent
left_from None es = []
left_from (Some a) es = extents_from (place_of a).1 es

-- an address is the least of these blocks' from another on; there is none where no address is given
abbrev pub IsFirst : List (Block ℕ) → ℕ → Option ℕ → Type 0
IsFirst blocks low None = All (λ b. address_of b < low) blocks
IsFirst blocks low (Some a) = (low ≤ a) × All (λ b. low ≤ address_of b → a ≤ address_of b) blocks
