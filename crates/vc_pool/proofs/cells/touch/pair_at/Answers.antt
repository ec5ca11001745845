use Rattle.vc_base.proofs.Common.{ℕ, Some, option_map, sym, refl, ap, ◌∙◌, Block, cell_for}
use Rattle.vc_pool.specs.Cells.Place.{cells_in}
use Rattle.vc_pool.proofs.BlockPlaces.{block-listed}
use Rattle.vc_pool.proofs.CellCallsInList.{found-there}
use Rattle.vc_pool.proofs.cells.touch.pair_at.Goals as goal

pub find_cell-place-requires-clause-listed : goal.find_cell-place-requires-clause-listed
find_cell-place-requires-clause-listed c = block-listed c.args.element c.args.a.0 (cells_in c.args.segs.now) c.requires.kept c.requires.block

pub returns : goal.returns
returns c =
    ap (option_map {U = ℕ × ℕ} (λ (b : Block ℕ). (b.size, b.label)))
    (found-there c.args.element c.args.a.0 c.find_cell-place.result.0 c.find_cell-place.result.1 (cell_for c.args.element) c.args.segs.now c.index-segs-place.result refl c.find_cell-place.ensures.within c.find_cell-place.ensures.found c.index-segs-place.is
    c.requires.kept c.requires.block)
    ∙ ap Some (sym c.pair.ensures)
