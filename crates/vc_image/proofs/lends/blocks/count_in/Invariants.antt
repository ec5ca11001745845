use Rattle.vc_base.proofs.Common.{◌-◌, length}
use Rattle.vc_image.proofs.Busy.{Counting}
use Rattle.vc_image.proofs.lends.blocks.count_in.Given as goal

abbrev pub invariant-loop-at : goal.invariant-loop-at
invariant-loop-at l = Counting l.bytes l.count l.at

abbrev pub decreases-loop-at : goal.decreases-loop-at
decreases-loop-at l = length l.bytes - l.at
