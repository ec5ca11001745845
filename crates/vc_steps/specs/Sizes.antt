-- The sizes of the blocks that have a name in an open region.
use Rattle.std.specs.Prelude.{ℕ, List, Option, Some, None}
use Rattle.std.specs.List.{AllByRecursion}
use Rattle.vc_commands.specs.Held.{Held, AreLabelsOf}
use Rattle.vc_commands.specs.Home.{Home}
use Rattle.vc_commands.specs.Sizes.{size_named}

-- the names of each region are those of its blocks
abbrev pub AreNamed : List Held → Type 0
AreNamed held = AllByRecursion (λ h. AreLabelsOf h.region h.labels) held

-- the size of the block of that name in a region; 0 where there is none
abbrev pub size_in_home : List ℕ → Option Home → ℕ
size_in_home x None = 0
size_in_home x (Some h) = size_named x h.region
