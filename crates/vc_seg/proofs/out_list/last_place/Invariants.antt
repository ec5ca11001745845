use Rattle.vc_base.proofs.Common.{◌≡◌, ◌≤◌, false, length, drop, list_any, same_pair}
use Rattle.vc_seg.proofs.out_list.last_place.Given as goal

-- no pair from `end` on is equal
abbrev pub invariant-loop-end : goal.invariant-loop-end
invariant-loop-end l = (l.end ≤ length l.pairs) × (list_any (same_pair (l.number, l.size)) (drop l.end l.pairs) ≡ false)

abbrev pub decreases-loop-end : goal.decreases-loop-end
decreases-loop-end l = l.end
