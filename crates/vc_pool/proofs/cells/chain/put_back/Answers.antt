use Rattle.vc_base.proofs.Common.{get_or, arith, get_or_default}
use Rattle.vc_pool.specs.Cells.Place.{cells_in}
use Rattle.vc_pool.proofs.CellCalls.{last-small}
use Rattle.vc_pool.proofs.BlockPlaces.{block-listed}
use Rattle.vc_pool.proofs.CellCallsInList.{put-back-there}
use Rattle.vc_pool.proofs.cells.chain.put_back.Goals as goal

pub find_cell-place-requires-clause-listed : goal.find_cell-place-requires-clause-listed
find_cell-place-requires-clause-listed c = block-listed c.args.element c.args.a.0 (cells_in c.args.segs.now) c.requires.kept.cells c.requires.block

pub returns-clause-back : goal.returns-clause-back
returns-clause-back c =
    put-back-there c.args.element c.args.a.0 c.find_cell-place.result.0 c.find_cell-place.result.1 c.rounded_up-cell.result c.args.segs.now (get_or c.args.segs.now c.find_cell-place.result.0 c.index-segs-place.result) c.rounded_up-cell.ensures c.find_cell-place.ensures.within c.find_cell-place.ensures.found (get_or_default c.args.segs.now c.find_cell-place.result.0 c.index-segs-place.result (get_or c.args.segs.now c.find_cell-place.result.0 c.index-segs-place.result) c.find_cell-place.ensures.within)
    c.release.new.self c.requires.kept.cells c.requires.block c.args.freed.now.0 (let small = last-small c.args.element c.args.freed.now.0 (cells_in c.args.segs.now) c.requires.kept in omega (arith, small)) c.release.ensures c.requires.kept
