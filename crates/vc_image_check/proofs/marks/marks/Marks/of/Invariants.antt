use Rattle.vc_image_check.specs.Marks.Mark.{lists}
use Rattle.vc_image_check.proofs.Filling.{Filled}
use Rattle.vc_image_check.proofs.marks.marks.Marks.of.Given as goal

abbrev pub invariant-loop-i : goal.invariant-loop-i
invariant-loop-i l = Filled l.image (lists l.rows.items) l.places.items l.i l.at
