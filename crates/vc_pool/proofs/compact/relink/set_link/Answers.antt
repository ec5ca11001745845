use Rattle.vc_base.proofs.Common.{get_or, set, sym, ap, ◌∙◌, cell_for}
use Rattle.vc_pool.specs.Cells.Cells.{cells_of, with_free_cell}
use Rattle.vc_pool.specs.Cells.Place.{cells_in}
use Rattle.vc_pool.proofs.SegmentList.{cells-get, cells-put}
use Rattle.vc_pool.proofs.compact.relink.set_link.Goals as goal

pub returns : goal.returns
returns c =
    record {
      i = c.find_cell-place.result.0;
      index = c.find_cell-place.result.1;
      there = c.find_cell-place.ensures.found;
      segs = λ d.
          cells-put c.args.segs.now c.find_cell-place.result.0 c.release.new.self
          ∙ ap (set (cells_in c.args.segs.now) c.find_cell-place.result.0)
          (c.release.ensures
          ∙ (ap (λ k. with_free_cell k c.find_cell-place.result.1 c.args.link.0 (cells_of (get_or c.args.segs.now c.find_cell-place.result.0 c.index-segs-place.result))) c.rounded_up-cell.ensures
          ∙ ap (with_free_cell (cell_for c.args.element) c.find_cell-place.result.1 c.args.link.0) (sym (cells-get c.args.segs.now c.find_cell-place.result.0 c.index-segs-place.result d c.find_cell-place.ensures.within))));
    }
