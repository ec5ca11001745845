use Rattle.vc_base.proofs.Common.{◌+◌, ◌*◌, length}
use Rattle.vc_image_check.proofs.Apart.{parted}
use Rattle.vc_image_check.proofs.Pending.{Walked}
use Rattle.vc_image_check.proofs.walks.walk.in_order.Given as goal

abbrev pub invariant-loop-item : goal.invariant-loop-item
invariant-loop-item g l = Walked (parted (g.N.Links.store l.nodes)) l.root l.most l.left_over l.names.items l.pending.items

abbrev pub decreases-loop-item : goal.decreases-loop-item
decreases-loop-item g l = 3 * l.left_over + length l.pending.items
