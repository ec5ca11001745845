use Rattle.vc_image_check.proofs.Knotting.{Walking}
use Rattle.vc_image_check.proofs.lists.chain.is_sound_chain.Given as goal

abbrev pub invariant-loop-left : goal.invariant-loop-left
invariant-loop-left g l = Walking (g.D.DictDisc.rules l.kind) (g.N.Holders.blocks l.nodes) l.fn.count l.fn.table.0 l.fn.slots l.fn.first l.fn.last l.told.items l.before l.at l.left

abbrev pub decreases-loop-left : goal.decreases-loop-left
decreases-loop-left g l = l.left
