use Rattle.vc_base.specs.Cells.{word_at}
use Rattle.vc_image_check.proofs.Matching.{Seeking}
use Rattle.vc_image_check.proofs.dicts.alone.has_match_behind.Given as goal

abbrev pub invariant-loop-left : goal.invariant-loop-left
invariant-loop-left g l =
    Seeking (g.D.DictDisc.rules l.kind) (g.N.Holders.blocks l.nodes) l.key l.most (word_at (g.N.Holders.blocks l.nodes) l.at 2) l.left l.other

abbrev pub decreases-loop-left : goal.decreases-loop-left
decreases-loop-left g l = l.left
