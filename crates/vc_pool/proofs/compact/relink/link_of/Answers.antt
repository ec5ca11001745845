use Rattle.vc_base.proofs.Common.{◌<◌, sym, ◌∙◌, subst}
use Rattle.vc_pool.proofs.CellCallsInList.{link-there}
use Rattle.vc_pool.proofs.compact.relink.link_of.Goals as goal

pub link-requires-clause-fits : goal.link-requires-clause-fits
link-requires-clause-fits c =
    subst (λ k. k < 4294967296)
    (sym (link-there c.args.element c.args.a.0 c.find_cell-place.result.0 c.find_cell-place.result.1 c.rounded_up-cell.result c.args.segs.now c.index-segs-place.result c.rounded_up-cell.ensures c.find_cell-place.ensures.within c.find_cell-place.ensures.found c.index-segs-place.is))
    c.requires.fits

pub returns : goal.returns
returns c =
    c.link.ensures
    ∙ link-there c.args.element c.args.a.0 c.find_cell-place.result.0 c.find_cell-place.result.1 c.rounded_up-cell.result c.args.segs.now c.index-segs-place.result c.rounded_up-cell.ensures c.find_cell-place.ensures.within c.find_cell-place.ensures.found c.index-segs-place.is
