use Rattle.vc_base.proofs.Common.{◌≡◌, ◌-◌, length}
use Rattle.vc_seg.specs.Tally.{HasRoom, tallied_all}
use Rattle.vc_last.specs.Chain.{IsLast, blocks_from}
use Rattle.vc_last.proofs.Backs.{gaps_back}
use Rattle.vc_last.proofs.stat.tally_gaps_in.Given as goal

-- the tally so far, taken on over what is left, is the result
abbrev pub invariant-loop-at : goal.invariant-loop-at
invariant-loop-at l =
    record {
      kept : IsLast l.segs l.at.0;
      room : HasRoom l.tally (gaps_back l.segs l.at.0 l.number l.to);
      rest : tallied_all l.tally (gaps_back l.segs l.at.0 l.number l.to) ≡ tallied_all l.initial.tally (gaps_back l.segs l.fn.latest.0 l.number (l.bytes - 16));
    }

abbrev pub decreases-loop-at : goal.decreases-loop-at
decreases-loop-at l = length (blocks_from l.segs l.at.0)
