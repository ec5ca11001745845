use Rattle.vc_base.proofs.Common.{◌≡◌, List, drop, ap, ◌∙◌, arith, drop_all}
use Rattle.vc_pool.specs.Cells.Freed.{cell_total}
use Rattle.vc_pool.specs.Cells.Place.{cells_in}
use Rattle.vc_pool.specs.declared.cells.segment.PoolSegment.{PoolSegment}
use Rattle.vc_pool.proofs.BlockSizes.{total-count, total-most, total-next}
use Rattle.vc_pool.proofs.walks.tally.count_cells.Goals as goal

pub overflow_add-count : goal.overflow_add-count
overflow_add-count c =
    let most = total-most c.requires.element (cells_in c.args.segs.now) c.requires.cells in
    omega (arith, total-next c.args.segs.now c.loop-segment.segment-index c.segment-item.result c.loop-segment-test.true c.segment-item.is, most)

-- all were counted
pub returns-clause-value : goal.returns-clause-value
returns-clause-value c =
    λ element kept.
    let rest : cell_total (cells_in (drop c.loop-segment.segment-index c.args.segs.now)) ≡ 0 = ap (λ (xs : List PoolSegment). cell_total (cells_in xs)) (drop_all c.loop-segment.segment-index c.args.segs.now c.loop-segment-test.false) in
    let all = total-count element (cells_in c.args.segs.now) kept in
    let count : c.loop-segment.count ≡ cell_total (cells_in c.args.segs.now) = omega (arith, rest) in
    count ∙ all

pub returns-clause-most : goal.returns-clause-most
returns-clause-most c =
    omega (arith, total-most c.requires.element (cells_in c.args.segs.now) c.requires.cells)
