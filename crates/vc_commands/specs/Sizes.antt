-- The sizes of blocks that have a name.
use Rattle.std.specs.Prelude.{ℕ, List, find, option_map, unwrap_or}
use Rattle.vc_region.specs.Region.{Region, blocks_of}
use Rattle.vc_commands.specs.Blocks.{is_block}
use Rattle.vc_commands.specs.Home.{Label}

-- the size of the block of that name; 0 where there is none
abbrev pub size_named : List ℕ → Region Label → ℕ
size_named x r = unwrap_or (option_map (λ b. b.size) (find (is_block x) (blocks_of r))) 0
