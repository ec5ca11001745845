use Rattle.vc_base.proofs.Common.{◌++◌, length, sym, refl, ap, ◌∙◌}
use Rattle.vc_pool.proofs.SegmentList.{numbered-in}
use Rattle.vc_pool.proofs.BusyPart.{took-by}
use Rattle.vc_pool.proofs.PoolAfterCalls.{pairs-of-list}
use Rattle.vc_pool.proofs.Sound.{kept-of}
use Rattle.vc_pool.proofs.pool.Pool.close.Goals as goal

pub give_back_all-count-requires-clause-segments : goal.give_back_all-count-requires-clause-segments
give_back_all-count-requires-clause-segments g c = numbered-in c.args.self.segs.items (kept-of c.args.self).cells.segments

pub give_back_all-count-requires-clause-out : goal.give_back_all-count-requires-clause-out
give_back_all-count-requires-clause-out g c =
    (c.requires.0, c.requires.1 ∙ ap (λ ss. c.requires.0 ++ ss) (pairs-of-list c.args.self.segs.items c.args.self.element c.args.self.freed.0))

pub returns-clause-disc : goal.returns-clause-disc
returns-clause-disc g c = took-by _ _ _ _ _ _ (pairs-of-list c.args.self.segs.items c.args.self.element c.args.self.freed.0) refl c.give_back_all-count.ensures.out

pub returns-clause-count : goal.returns-clause-count
returns-clause-count g c = c.give_back_all-count.ensures.count ∙ ap length (sym (pairs-of-list c.args.self.segs.items c.args.self.element c.args.self.freed.0))
