use Rattle.vc_base.proofs.Common.{arith}
use Rattle.vc_pool.specs.Cells.Place.{cells_in}
use Rattle.vc_pool.proofs.BlockPlaces.{block-listed}
use Rattle.vc_pool.proofs.CellCallsInList.{bytes-there, fits-there, range-there}
use Rattle.vc_pool.proofs.cells.touch.read_at.Goals as goal

pub find_cell-place-requires-clause-listed : goal.find_cell-place-requires-clause-listed
find_cell-place-requires-clause-listed c = block-listed c.args.element c.args.a.0 (cells_in c.args.segs.now) c.requires.kept c.requires.part.block

pub read-requires-clause-range : goal.read-requires-clause-range
read-requires-clause-range c =
    let range = range-there c.args.element c.args.a.0 c.find_cell-place.result.0 c.find_cell-place.result.1 c.rounded_up.result c.args.segs.now c.index-segs-place.result c.rounded_up.ensures c.find_cell-place.ensures.within c.find_cell-place.ensures.found c.index-segs-place.is
    c.requires.kept c.requires.part.block c.args.off c.args.len c.requires.part.range in
    let fits = fits-there c.args.element c.args.a.0 c.find_cell-place.result.0 c.find_cell-place.result.1 c.rounded_up.result c.args.segs.now c.index-segs-place.result c.rounded_up.ensures c.find_cell-place.ensures.within c.find_cell-place.ensures.found c.index-segs-place.is
    c.requires.kept c.requires.part.block in
    omega (arith, range, fits)

pub returns : goal.returns
returns c =
    let range = range-there c.args.element c.args.a.0 c.find_cell-place.result.0 c.find_cell-place.result.1 c.rounded_up.result c.args.segs.now c.index-segs-place.result c.rounded_up.ensures c.find_cell-place.ensures.within c.find_cell-place.ensures.found c.index-segs-place.is
    c.requires.kept c.requires.part.block c.args.off c.args.len c.requires.part.range in
    bytes-there c.args.element c.args.a.0 c.find_cell-place.result.0 c.find_cell-place.result.1 c.rounded_up.result c.args.segs.now c.index-segs-place.result c.rounded_up.ensures c.find_cell-place.ensures.within c.find_cell-place.ensures.found c.index-segs-place.is
    c.requires.kept c.requires.part.block c.args.off c.args.len c.read.result.now range c.read.ensures
