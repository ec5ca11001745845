use Rattle.vc_base.proofs.Common.{◌-◌, length}
use Rattle.vc_image_check.proofs.Marking.{Marking}
use Rattle.vc_image_check.proofs.marks.row.marks_of.Given as goal

abbrev pub invariant-loop-at : goal.invariant-loop-at
invariant-loop-at l = Marking l.bytes l.marks.items l.at

abbrev pub decreases-loop-at : goal.decreases-loop-at
decreases-loop-at l = length l.bytes - l.at
