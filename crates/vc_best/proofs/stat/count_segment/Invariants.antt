use Rattle.vc_base.proofs.Common.{◌≡◌, length}
use Rattle.vc_best.proofs.Common.{HaveRoom, counts_with, extents_of, tiling}
use Rattle.vc_best.proofs.Walks.{IsOn, left}
use Rattle.vc_best.proofs.stat.count_segment.Given as goal

abbrev pub decreases-loop-next : goal.decreases-loop-next
decreases-loop-next g l = length (left (tiling l.extents.segs.items) l.seg l.next)

-- the counts so far, taken on over the extents that are left, are the result
abbrev pub invariant-loop-next : goal.invariant-loop-next
invariant-loop-next g l =
    record {
      on : IsOn (tiling l.extents.segs.items) l.seg l.next;
      room : HaveRoom l.counts (left (tiling l.extents.segs.items) l.seg l.next);
      rest : counts_with l.counts (left (tiling l.extents.segs.items) l.seg l.next) ≡ counts_with l.initial.counts (extents_of l.seg (tiling l.extents.segs.items));
    }
