use Rattle.vc_base.proofs.Common.{get_or, get_or_default}
use Rattle.vc_pool.specs.Cells.Place.{cells_in}
use Rattle.vc_pool.proofs.BlockPlaces.{block-listed}
use Rattle.vc_pool.proofs.CellCallsInList.{fits-there, resized-there}
use Rattle.vc_pool.proofs.cells.touch.resize_at.Goals as goal

pub find_cell-place-requires-clause-listed : goal.find_cell-place-requires-clause-listed
find_cell-place-requires-clause-listed c = block-listed c.args.element c.args.a.0 (cells_in c.args.segs.now) c.requires.kept c.requires.block

pub resize-requires-clause-fitted : goal.resize-requires-clause-fitted
resize-requires-clause-fitted c =
    fits-there c.args.element c.args.a.0 c.find_cell-place.result.0 c.find_cell-place.result.1 c.rounded_up.result c.args.segs.now (get_or c.args.segs.now c.find_cell-place.result.0 c.index-segs-place.result) c.rounded_up.ensures c.find_cell-place.ensures.within c.find_cell-place.ensures.found (get_or_default c.args.segs.now c.find_cell-place.result.0 c.index-segs-place.result (get_or c.args.segs.now c.find_cell-place.result.0 c.index-segs-place.result) c.find_cell-place.ensures.within)
    c.requires.kept c.requires.block

pub returns : goal.returns
returns c =
    λ last h.
    resized-there c.args.element c.args.a.0 c.find_cell-place.result.0 c.find_cell-place.result.1 c.rounded_up.result c.args.segs.now (get_or c.args.segs.now c.find_cell-place.result.0 c.index-segs-place.result) c.rounded_up.ensures c.find_cell-place.ensures.within c.find_cell-place.ensures.found (get_or_default c.args.segs.now c.find_cell-place.result.0 c.index-segs-place.result (get_or c.args.segs.now c.find_cell-place.result.0 c.index-segs-place.result) c.find_cell-place.ensures.within)
    c.resize.new.self c.requires.kept c.requires.block last c.args.size c.requires.size c.resize.ensures h
