use Rattle.vc_base.proofs.Common.{◌≡◌, ◌++◌, map, take, drop}
use Rattle.vc_pool.specs.Cells.Cells.{uncarved_all}
use Rattle.vc_pool.specs.Cells.Place.{cells_in}
use Rattle.vc_pool.proofs.cells.clear.uncarve_each.Given as goal

-- the segments so far have no carved cell, and the others are as they were
abbrev pub invariant-loop-segment : goal.invariant-loop-segment
invariant-loop-segment l = cells_in l.segs ≡ map uncarved_all (take l.segment-index (cells_in l.initial.segs)) ++ drop l.segment-index (cells_in l.initial.segs)
