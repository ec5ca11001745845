use Rattle.vc_base.proofs.Common.{sym, arith, length-map}
use Rattle.vc_pool.specs.Cells.Cells.{cells_of}
use Rattle.vc_pool.specs.Cells.Place.{cells_in}
use Rattle.vc_pool.proofs.LowestUncarved.{uncarved-none, uncarved-there}
use Rattle.vc_pool.proofs.FullFirst.{have-cells}
use Rattle.vc_pool.proofs.cells.carve.carve_lowest.Goals as goal

pub find_open-place-requires-clause-cells : goal.find_open-place-requires-clause-cells
find_open-place-requires-clause-cells c = have-cells c.args.element (cells_in c.args.segs.now) c.requires.kept

pub carve_at-requires-clause-first : goal.carve_at-requires-clause-first
carve_at-requires-clause-first c = record { within = omega (arith, length-map c.args.segs.now cells_of); first = c.find_open-place.ensures.front }

pub returns-then-place-segs-clause-place : goal.returns-then-place-segs-clause-place
returns-then-place-segs-clause-place c =
    sym (uncarved-none c.args.element (cells_in c.args.segs.now) c.requires.kept (omega arith) c.find_open-place.result (omega (arith, length-map c.args.segs.now cells_of)) c.find_open-place.ensures.front)

pub returns-clause-place : goal.returns-clause-place
returns-clause-place c =
    uncarved-there c.args.element c.args.segs.now c.requires.kept (omega arith) c.find_open-place.result c.carve_at.result.0
    (record { within = omega (arith, length-map c.args.segs.now cells_of); first = c.find_open-place.ensures.front })
    c.carve_at.ensures.place
