use Rattle.vc_base.proofs.Common.{◌≡◌, ◌⊎◌, ◌++◌, length, HasBlock}
use Rattle.vc_region.specs.Parts.{blocks_in, region_of}
use Rattle.vc_commands.proofs.Auditing.{damaged_behind, found_items}
use Rattle.vc_commands.proofs.region.audit.damage_items.Given as goal

-- the damaged blocks so far, and those behind the last of them
abbrev pub invariant-loop-block : goal.invariant-loop-block
invariant-loop-block g l =
    record {
      items : l.items.items ++ found_items l.labels (damaged_behind l.after.0 (region_of l.region)) ≡ found_items l.labels (damaged_behind 0 (region_of l.region));
      from : (l.after.0 ≡ 0) ⊎ HasBlock (blocks_in l.region) l.after.0;
    }

abbrev pub decreases-loop-block : goal.decreases-loop-block
decreases-loop-block g l = length (damaged_behind l.after.0 (region_of l.region))
