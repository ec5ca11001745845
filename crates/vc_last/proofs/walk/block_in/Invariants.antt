use Rattle.vc_base.proofs.Common.{◌≡◌, length, find, holds_byte}
use Rattle.vc_last.specs.Chain.{IsLast, blocks_from}
use Rattle.vc_last.proofs.walk.block_in.Given as goal

-- none of the blocks so far holds the byte
abbrev pub invariant-loop-at : goal.invariant-loop-at
invariant-loop-at l =
    record {
      kept : IsLast l.segs l.at.0;
      rest : find (holds_byte (l.seg, l.off)) (blocks_from l.segs l.at.0) ≡ find (holds_byte (l.seg, l.off)) (blocks_from l.segs l.fn.latest.0);
    }

abbrev pub decreases-loop-at : goal.decreases-loop-at
decreases-loop-at l = length (blocks_from l.segs l.at.0)
