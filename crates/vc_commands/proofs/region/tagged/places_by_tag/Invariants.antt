use Rattle.vc_base.proofs.Common.{◌≡◌, ◌⊎◌, length, HasBlock}
use Rattle.vc_best.specs.Parts.{blocks_in}
use Rattle.vc_region.specs.Cells.{rest_in}
use Rattle.vc_region.specs.Region.{blocks_of}
use Rattle.vc_region.specs.declared.region.Region.TheVariants.{Best as OfBest}
use Rattle.vc_audit.proofs.DebugChecks.{above as blocks_above}
use Rattle.vc_commands.proofs.OwnTags.{Walked}
use Rattle.vc_commands.proofs.region.tagged.places_by_tag.Given as goal

-- the blocks so far stand at their tags
abbrev pub invariant-loop-block : goal.invariant-loop-block
invariant-loop-block g l =
    record {
      walked : Walked (blocks_of (rest_in (OfBest l.best))) l.after.0 l.places.items;
      from : (l.after.0 ≡ 0) ⊎ HasBlock (blocks_in l.best) l.after.0;
    }

abbrev pub decreases-loop-block : goal.decreases-loop-block
decreases-loop-block g l = length (blocks_above l.after.0 (blocks_of (rest_in (OfBest l.best))))
