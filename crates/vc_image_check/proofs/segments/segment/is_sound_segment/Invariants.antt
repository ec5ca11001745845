use Rattle.vc_base.proofs.Common.{◌-◌, length}
use Rattle.vc_image_check.proofs.SegmentWalks.{Walking}
use Rattle.vc_image_check.proofs.segments.segment.is_sound_segment.Given as goal

abbrev pub invariant-loop-at : goal.invariant-loop-at
invariant-loop-at l = Walking l.bytes l.at l.before l.free

abbrev pub decreases-loop-at : goal.decreases-loop-at
decreases-loop-at l = length l.bytes - l.at
