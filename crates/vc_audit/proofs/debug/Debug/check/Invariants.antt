use Rattle.vc_base.proofs.Common.{◌≡◌, ◌⊎◌, length, HasBlock}
use Rattle.vc_best.specs.Parts.{layout_of}
use Rattle.vc_audit.specs.Debug.{next_damaged}
use Rattle.vc_audit.specs.DebugParts.{debug_of}
use Rattle.vc_audit.proofs.DebugChecks.{above, damaged_above}
use Rattle.vc_audit.proofs.debug.Debug.check.Given as goal

-- no block so far is damaged
abbrev pub invariant-loop-next : goal.invariant-loop-next
invariant-loop-next g l =
    record {
      same : next_damaged l.fn.after.0 (debug_of l.self) ≡ damaged_above l.at.0 (layout_of l.self.best).blocks;
      from : (l.at.0 ≡ 0) ⊎ HasBlock (layout_of l.self.best).blocks l.at.0;
    }

abbrev pub decreases-loop-next : goal.decreases-loop-next
decreases-loop-next g l = length (above l.at.0 (layout_of l.self.best).blocks)
