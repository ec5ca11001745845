use Rattle.vc_pool.proofs.CarvingCell.{carved-at, cell-there, legal-there}
use Rattle.vc_pool.proofs.cells.carve.carve_at.Goals as goal

pub carve_in-requires-clause-legal : goal.carve_in-requires-clause-legal
carve_in-requires-clause-legal c = legal-there c.args.element c.args.place c.args.segs.now c.index-segs-place.result c.requires.kept c.requires.first

pub carve_in-requires-clause-cell : goal.carve_in-requires-clause-cell
carve_in-requires-clause-cell c = cell-there c.args.element c.args.place c.args.segs.now c.index-segs-place.result c.requires.kept c.requires.first

pub returns-clause-carved : goal.returns-clause-carved
returns-clause-carved c =
    λ last.
    carved-at c.args.element c.args.place c.args.segs.now c.index-segs-place.result c.requires.kept c.requires.first c.carve_in.new.segment c.args.tag c.args.size last c.carve_in.result.0 c.requires.size.some c.requires.size.fits
    c.carve_in.ensures.carved c.carve_in.ensures.place
