use Rattle.vc_base.proofs.Common.{◌≡◌, ◌-◌, ◌/◌, get_or, HoldsAt, sym, ap, ◌∙◌, subst, arith, place_of, cell_for, cell_offset}
use Rattle.vc_pool.specs.Cells.Cells.{HasCell, cells_of}
use Rattle.vc_pool.specs.Cells.Place.{cells_in}
use Rattle.vc_pool.specs.declared.cells.segment.PoolSegment.{PoolSegment}
use Rattle.vc_pool.proofs.SegmentList.{alone-in, cell-in}
use Rattle.vc_pool.proofs.BlockPlaces.{cell-some, index-is}
use Rattle.vc_pool.proofs.cells.cell.find_cell.Goals as goal
use Rattle.vc_pool.proofs.cells.cell.find_cell.Goals.{After-index_of-index}

-- the segment that was found has the number of the address
number : (c : After-index_of-index) → HoldsAt (λ (s : PoolSegment). s.seg.number ≡ (place_of c.args.a.0).0) c.args.segs.now c.place_of_number-place.result
number c = λ d. c.place_of_number-place.ensures.number d ∙ c.seg.ensures

-- the index is that of its cell
same : (c : After-index_of-index) → c.index_of-index.result ≡ c.requires.listed.index
same c =
    let some = cell-some c.args.element (place_of c.args.a.0).0 (cells_in c.args.segs.now) c.requires.kept (let listed = c.requires.listed.listed in omega (arith, listed)) in
    c.index_of-index.ensures
    ∙ (ap (λ x. (x - 32) / c.rounded_up.result) c.off.ensures
    ∙ (ap (λ x. ((place_of c.args.a.0).1 - 32) / x) c.rounded_up.ensures
    ∙ index-is (cell_for c.args.element) c.requires.listed.index (place_of c.args.a.0).1 (omega (arith, some)) c.requires.listed.offset))

pub returns-clause-found : goal.returns-clause-found
returns-clause-found c =
    let at = (goal.at.returns-clause-found c).After-index_of-index in
    record {
      alone = alone-in c.args.element c.place_of_number-place.result (place_of c.args.a.0).0 c.args.segs.now c.requires.kept c.place_of_number-place.ensures.within (number at);
      offset = c.requires.listed.offset ∙ ap (cell_offset (cell_for c.args.element)) (sym (same at));
    }

pub returns-clause-cell : goal.returns-clause-cell
returns-clause-cell c =
    let at = (goal.at.returns-clause-cell c).After-index_of-index in
    λ d.
    subst (λ k. HasCell (cell_for c.args.element) k (cells_of (get_or c.args.segs.now c.place_of_number-place.result d))) (sym (same at))
    (cell-in c.args.element c.place_of_number-place.result (place_of c.args.a.0).0 c.args.segs.now c.requires.kept c.place_of_number-place.ensures.within (number at) c.requires.listed.index c.requires.listed.listed d)
