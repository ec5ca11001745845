use Rattle.vc_base.proofs.Common.{◌≤◌, length}
use Rattle.vc_commands.specs.Tagged.{AreByTag}
use Rattle.vc_commands.proofs.ByTag.{emptied}
use Rattle.vc_commands.proofs.region.tagged.empty_holes.Given as goal

-- behind this tag no hole has a block
abbrev pub invariant-loop-end : goal.invariant-loop-end
invariant-loop-end l =
    record {
      within : l.end ≤ length l.places;
      labels : AreByTag (emptied l.end l.places) l.labels;
    }

abbrev pub decreases-loop-end : goal.decreases-loop-end
decreases-loop-end l = l.end
