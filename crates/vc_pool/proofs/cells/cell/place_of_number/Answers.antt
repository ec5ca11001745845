use Rattle.vc_base.proofs.Common.{length, ap, arith}
use Rattle.vc_pool.specs.Cells.Cells.{Cells}
use Rattle.vc_pool.proofs.SegmentList.{cells-none}
use Rattle.vc_pool.proofs.cells.cell.place_of_number.Goals as goal

pub unreachable-requires : goal.unreachable-requires
unreachable-requires c = omega (arith, c.requires.there, ap (λ (s : Cells). length s.pairs) (cells-none c.args.number c.args.segs.now c.in-None.ensures.none))
