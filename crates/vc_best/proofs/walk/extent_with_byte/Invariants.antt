use Rattle.vc_base.proofs.Common.{◌≡◌, length, find, holds_byte}
use Rattle.vc_best.proofs.Common.{busy_in, extents_of, tiling}
use Rattle.vc_best.proofs.Walks.{IsOn, left}
use Rattle.vc_best.proofs.walk.extent_with_byte.Given as goal

abbrev pub decreases-loop-next : goal.decreases-loop-next
decreases-loop-next l = length (left (tiling l.extents.segs.items) l.seg l.next)

-- the first block that holds the byte is among those that are left
abbrev pub invariant-loop-next : goal.invariant-loop-next
invariant-loop-next l =
    record {
      on : IsOn (tiling l.extents.segs.items) l.seg l.next;
      rest : find (holds_byte (l.seg, l.off)) (busy_in (l.seg, left (tiling l.extents.segs.items) l.seg l.next))
          ≡ find (holds_byte (l.seg, l.off)) (busy_in (l.seg, extents_of l.seg (tiling l.extents.segs.items)));
    }
