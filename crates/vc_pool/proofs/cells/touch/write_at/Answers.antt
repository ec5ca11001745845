use Rattle.vc_base.proofs.Common.{get_or, arith, get_or_default}
use Rattle.vc_pool.specs.Cells.Place.{cells_in}
use Rattle.vc_pool.proofs.BlockPlaces.{block-listed}
use Rattle.vc_pool.proofs.CellCallsInList.{fits-there, range-there, written-there}
use Rattle.vc_pool.proofs.cells.touch.write_at.Goals as goal

pub find_cell-place-requires-clause-listed : goal.find_cell-place-requires-clause-listed
find_cell-place-requires-clause-listed c = block-listed c.args.element c.args.a.0 (cells_in c.args.segs.now) c.requires.kept c.requires.part.block

pub write-requires-clause-range : goal.write-requires-clause-range
write-requires-clause-range c =
    let range = range-there c.args.element c.args.a.0 c.find_cell-place.result.0 c.find_cell-place.result.1 c.rounded_up.result c.args.segs.now (get_or c.args.segs.now c.find_cell-place.result.0 c.index-segs-place.result) c.rounded_up.ensures c.find_cell-place.ensures.within c.find_cell-place.ensures.found (get_or_default c.args.segs.now c.find_cell-place.result.0 c.index-segs-place.result (get_or c.args.segs.now c.find_cell-place.result.0 c.index-segs-place.result) c.find_cell-place.ensures.within)
    c.requires.kept c.requires.part.block c.args.off _ c.requires.part.range in
    let fits = fits-there c.args.element c.args.a.0 c.find_cell-place.result.0 c.find_cell-place.result.1 c.rounded_up.result c.args.segs.now (get_or c.args.segs.now c.find_cell-place.result.0 c.index-segs-place.result) c.rounded_up.ensures c.find_cell-place.ensures.within c.find_cell-place.ensures.found (get_or_default c.args.segs.now c.find_cell-place.result.0 c.index-segs-place.result (get_or c.args.segs.now c.find_cell-place.result.0 c.index-segs-place.result) c.find_cell-place.ensures.within)
    c.requires.kept c.requires.part.block in
    omega (arith, range, fits)

pub returns : goal.returns
returns c =
    λ last h.
    written-there c.args.element c.args.a.0 c.find_cell-place.result.0 c.find_cell-place.result.1 c.rounded_up.result c.args.segs.now (get_or c.args.segs.now c.find_cell-place.result.0 c.index-segs-place.result) c.rounded_up.ensures c.find_cell-place.ensures.within c.find_cell-place.ensures.found (get_or_default c.args.segs.now c.find_cell-place.result.0 c.index-segs-place.result (get_or c.args.segs.now c.find_cell-place.result.0 c.index-segs-place.result) c.find_cell-place.ensures.within)
    c.requires.kept c.requires.part.block c.write.new.self last c.args.off c.args.src.now c.requires.part.range c.write.ensures h
