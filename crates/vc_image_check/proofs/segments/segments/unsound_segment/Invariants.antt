use Rattle.vc_image_check.proofs.Each.{Sofar}
use Rattle.vc_image_check.proofs.segments.segments.unsound_segment.Given as goal

abbrev pub invariant-loop-i : goal.invariant-loop-i
invariant-loop-i l = Sofar l.image l.i l.at
