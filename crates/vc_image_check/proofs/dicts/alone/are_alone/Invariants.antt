use Rattle.vc_image_check.proofs.Matching.{Alone}
use Rattle.vc_image_check.proofs.dicts.alone.are_alone.Given as goal

abbrev pub invariant-loop-holder : goal.invariant-loop-holder
invariant-loop-holder g l = Alone (g.D.DictDisc.rules l.kind) (g.N.Holders.blocks l.nodes) l.holders l.holder-index
