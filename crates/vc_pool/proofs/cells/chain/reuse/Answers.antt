use Rattle.vc_base.proofs.Common.{get_or, ap, ◌∙◌, get_or_default}
use Rattle.vc_pool.specs.Cells.Cells.{cells_of, with_zeros_in}
use Rattle.vc_pool.specs.Cells.Place.{cells_in}
use Rattle.vc_pool.specs.declared.cells.segment.PoolSegment.{PoolSegment}
use Rattle.vc_pool.proofs.CellCalls.{freed-listed}
use Rattle.vc_pool.proofs.CellCallsInList.{link-fits, reused-there}
use Rattle.vc_pool.proofs.cells.chain.reuse.Goals as goal

pub find_cell-place-requires-clause-listed : goal.find_cell-place-requires-clause-listed
find_cell-place-requires-clause-listed c = freed-listed c.args.element c.args.freed.now.0 (cells_in c.args.segs.now) c.requires.freed c.requires.kept

pub link-requires-clause-fits : goal.link-requires-clause-fits
link-requires-clause-fits c =
    link-fits c.args.element c.args.freed.now.0 c.find_cell-place.result.0 c.find_cell-place.result.1 c.rounded_up-cell.result c.args.segs.now (get_or c.args.segs.now c.find_cell-place.result.0 c.index-segs-place.result) c.rounded_up-cell.ensures c.find_cell-place.ensures.within c.find_cell-place.ensures.found (get_or_default c.args.segs.now c.find_cell-place.result.0 c.index-segs-place.result (get_or c.args.segs.now c.find_cell-place.result.0 c.index-segs-place.result) c.find_cell-place.ensures.within)
    c.requires.freed c.requires.kept

pub returns-clause-reused : goal.returns-clause-reused
returns-clause-reused c =
    reused-there c.args.element c.args.freed.now.0 c.find_cell-place.result.0 c.find_cell-place.result.1 c.rounded_up-cell.result c.args.segs.now (get_or c.args.segs.now c.find_cell-place.result.0 c.index-segs-place.result) c.rounded_up-cell.ensures c.find_cell-place.ensures.within c.find_cell-place.ensures.found (get_or_default c.args.segs.now c.find_cell-place.result.0 c.index-segs-place.result (get_or c.args.segs.now c.find_cell-place.result.0 c.index-segs-place.result) c.find_cell-place.ensures.within)
    c.lay.new.self c.args.tag c.args.size c.link.result.0 c.requires.freed c.requires.size
    (c.lay.ensures ∙ ap (λ (s : PoolSegment). with_zeros_in c.rounded_up-cell.result c.find_cell-place.result.1 c.args.size c.args.tag (cells_of s)) (get_or_default c.args.segs.now c.find_cell-place.result.0 c.index-segs-place-2.result c.index-segs-place.result c.find_cell-place.ensures.within))
    c.link.ensures c.requires.kept
