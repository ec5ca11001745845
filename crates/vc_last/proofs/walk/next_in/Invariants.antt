use Rattle.vc_base.proofs.Common.{◌≡◌, length, None}
use Rattle.vc_last.specs.Chain.{IsLast, blocks_from}
use Rattle.vc_last.proofs.Walks.{addresses, least_on}
use Rattle.vc_last.proofs.walk.next_in.Given as goal

-- the least so far, taken on over the blocks that are left, is that of all
abbrev pub invariant-loop-at : goal.invariant-loop-at
invariant-loop-at l =
    record {
      kept : IsLast l.segs l.at.0;
      rest : least_on l.least l.after.0 (addresses l.segs l.at.0) ≡ least_on None l.after.0 (addresses l.segs l.fn.latest.0);
    }

abbrev pub decreases-loop-at : goal.decreases-loop-at
decreases-loop-at l = length (blocks_from l.segs l.at.0)
