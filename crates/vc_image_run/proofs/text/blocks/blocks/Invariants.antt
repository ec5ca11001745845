use Rattle.vc_base.proofs.Common.{◌≡◌, ◌⊎◌, ◌++◌, length, HasBlock}
use Rattle.vc_best.specs.Parts.{blocks_in}
use Rattle.vc_image_run.proofs.Items.{items_above}
use Rattle.vc_image_run.proofs.text.blocks.blocks.Given as goal

-- the blocks so far, and those behind the last of them
abbrev pub invariant-loop-block : goal.invariant-loop-block
invariant-loop-block g l =
    record {
      items : l.items.items ++ items_above l.after.0 (blocks_in l.best) ≡ items_above 0 (blocks_in l.best);
      from : (l.after.0 ≡ 0) ⊎ HasBlock (blocks_in l.best) l.after.0;
    }

abbrev pub decreases-loop-block : goal.decreases-loop-block
decreases-loop-block g l = length (items_above l.after.0 (blocks_in l.best))
