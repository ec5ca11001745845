use Rattle.vc_base.proofs.Common.{map, ap, ◌∙◌, subst, TookBack}
use Rattle.vc_seg.proofs.Backs.{none-marked}
use Rattle.vc_seg.proofs.back.give_back_all.Goals as goal

pub returns-clause-none : goal.returns-clause-none
returns-clause-none g c = c.give_back.ensures.segments ∙ none-marked g.T.Numbered.pair 1024 c.args.segs.now.items

pub returns-clause-out : goal.returns-clause-out
returns-clause-out g c =
    subst (TookBack _ _ (map g.T.Numbered.pair c.args.segs.now.items)) (ap (map g.T.Numbered.pair) (c.give_back.ensures.segments ∙ none-marked g.T.Numbered.pair 1024 c.args.segs.now.items)) c.give_back.ensures.out
