use Rattle.vc_base.proofs.Common.{◌≡◌, ◌⊎◌, ◌++◌, length, HasBlock}
use Rattle.vc_region.specs.Cells.{rest_in}
use Rattle.vc_region.specs.Parts.{blocks_in}
use Rattle.vc_region.specs.Region.{blocks_of}
use Rattle.vc_audit.proofs.DebugChecks.{above as blocks_above}
use Rattle.vc_commands.proofs.Listing.{items_of}
use Rattle.vc_commands.proofs.region.home.HomeEntry.blocks.Given as goal

-- the blocks so far, and those behind the last of them
abbrev pub invariant-loop-block : goal.invariant-loop-block
invariant-loop-block g l =
    record {
      items : l.items.items ++ items_of l.labels (blocks_above l.after.0 (blocks_of (rest_in l.self.region))) ≡ items_of l.labels (blocks_above 0 (blocks_of (rest_in l.self.region)));
      from : (l.after.0 ≡ 0) ⊎ HasBlock (blocks_in l.self.region) l.after.0;
    }

abbrev pub decreases-loop-block : goal.decreases-loop-block
decreases-loop-block g l = length (blocks_above l.after.0 (blocks_of (rest_in l.self.region)))
