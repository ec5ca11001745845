use Rattle.vc_base.proofs.Common.{length, option_map, place_of}
use Rattle.vc_best.proofs.Common.{IsFirst, busy_in, extents_of, tiling}
use Rattle.vc_best.proofs.Walks.{IsOn, left}
use Rattle.vc_best.proofs.walk.first_busy.Given as goal

-- no block stands from the first extent on before the one that comes next
abbrev pub invariant-loop-next : goal.invariant-loop-next
invariant-loop-next l =
    record {
      on : IsOn (tiling l.extents.segs.items) (place_of l.fn.a.0).0 l.next;
      first : IsFirst (busy_in ((place_of l.fn.a.0).0, extents_of (place_of l.fn.a.0).0 (tiling l.extents.segs.items))) l.fn.a.0 (option_map (λ r. r.0) l.next);
    }

abbrev pub decreases-loop-next : goal.decreases-loop-next
decreases-loop-next l = length (left (tiling l.extents.segs.items) (place_of l.fn.a.0).0 l.next)
