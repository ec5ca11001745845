use Rattle.vc_base.proofs.Common.{◌≡◌, ◌+◌, drop}
use Rattle.vc_pool.specs.Cells.Freed.{cell_total}
use Rattle.vc_pool.specs.Cells.Place.{cells_in}
use Rattle.vc_pool.proofs.walks.tally.count_cells.Given as goal

-- the cells so far, and those of the segments that are left, are all
abbrev pub invariant-loop-segment : goal.invariant-loop-segment
invariant-loop-segment l = l.count + cell_total (cells_in (drop l.segment-index l.segs)) ≡ cell_total (cells_in l.segs)
