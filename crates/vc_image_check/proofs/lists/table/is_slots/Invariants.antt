use Rattle.vc_image_check.proofs.Doublings.{Doubled}
use Rattle.vc_image_check.proofs.lists.table.is_slots.Given as goal

abbrev pub invariant-loop-k : goal.invariant-loop-k
invariant-loop-k l = Doubled l.slots l.next l._k
