use Rattle.vc_image_check.proofs.Linking.{Walking}
use Rattle.vc_image_check.proofs.lists.list.is_sound_list.Given as goal

abbrev pub invariant-loop-left : goal.invariant-loop-left
invariant-loop-left g l = Walking (g.N.Holders.blocks l.nodes) l.count l.fn.first l.last l.before l.at l.left

abbrev pub decreases-loop-left : goal.decreases-loop-left
decreases-loop-left g l = l.left
