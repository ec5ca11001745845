use Rattle.vc_base.proofs.Common.{List, map, sym, ap, ◌∙◌, next_segment}
use Rattle.vc_pool.specs.Cells.Place.{pair_in}
use Rattle.vc_pool.specs.declared.cells.segment.PoolSegment.{PoolSegment}
use Rattle.vc_pool.proofs.PoolAfterCalls.{pairs-of-list}
use Rattle.vc_pool.proofs.pool.Pool.next_segment.Goals as goal

pub returns : goal.returns
returns g c =
    c.next_segment.ensures
    ∙ (ap (λ (ss : List PoolSegment). next_segment c.args.after (map pair_in ss)) c.deref.ensures.value
    ∙ ap (next_segment c.args.after) (sym (pairs-of-list c.args.self.now.segs.items c.args.self.now.element c.args.self.now.freed.0)))
