use Rattle.vc_base.proofs.Common.{List, map, sym, ap, ◌∙◌, segment_at}
use Rattle.vc_pool.specs.Cells.Place.{pair_in}
use Rattle.vc_pool.specs.declared.cells.segment.PoolSegment.{PoolSegment}
use Rattle.vc_pool.proofs.PoolAfterCalls.{pairs-of-list}
use Rattle.vc_pool.proofs.pool.Pool.segment_at.Goals as goal

pub returns : goal.returns
returns g c =
    c.segment_at.ensures
    ∙ (ap (λ (ss : List PoolSegment). segment_at (c.args.seg, c.args.off) (map pair_in ss)) c.deref.ensures.value
    ∙ ap (segment_at (c.args.seg, c.args.off)) (sym (pairs-of-list c.args.self.now.segs.items c.args.self.now.element c.args.self.now.freed.0)))
