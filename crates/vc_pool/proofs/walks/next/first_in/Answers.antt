use Rattle.vc_base.proofs.Common.{◌≡◌, ℕ, ◌%◌, ◌<◌, length, sym, ap, ◌∙◌, subst, arith, address, cell_for, cell_offset}
use Rattle.vc_pool.specs.Cells.Cells.{Cells}
use Rattle.vc_pool.proofs.SegmentList.{cells-none}
use Rattle.vc_pool.specs.First.{AreEmpty, IsFirstBlock}
use Rattle.vc_pool.proofs.CellsWithBlocks.{cellular-at, found-first, found-is, found-last, found-live, found-multiple, found-small}
use Rattle.vc_pool.proofs.walks.next.first_in.Goals as goal
use Rattle.vc_pool.proofs.walks.next.first_in.Goals.{After-offset_of, After-rounded_up-cell}

pub returns-in_err-place-clause-none : goal.returns-in_err-place-clause-none
returns-in_err-place-clause-none c =
    rw c.from_residual.ensures
    (λ k behind listed. let none = ap (λ (s : Cells). length s.pairs) (cells-none c.args.number c.args.segs.now c.in_err-place.ensures.none) in absurd (omega (arith, listed, none)))

pub first_block-requires-clause-few : goal.first_block-requires-clause-few
first_block-requires-clause-few c = (cellular-at c.args.element c.in_ok-place.place c.args.segs.now c.index-segs-place.result c.requires.kept c.in_ok-place.ensures.found.0 c.index-segs-place.is).few

pub first_block-requires-clause-fresh : goal.first_block-requires-clause-fresh
first_block-requires-clause-fresh c = (cellular-at c.args.element c.in_ok-place.place c.args.segs.now c.index-segs-place.result c.requires.kept c.in_ok-place.ensures.found.0 c.index-segs-place.is).fresh

pub returns-in_err-index-clause-none : goal.returns-in_err-index-clause-none
returns-in_err-index-clause-none c =
    rw c.from_residual-in_err-index.ensures
    (subst (λ (s : Cells). AreEmpty c.args.from (length s.pairs) s)
    (sym (found-is c.args.element c.in_ok-place.place c.args.number c.args.segs.now c.index-segs-place.result c.requires.kept c.in_ok-place.ensures.found.0 c.in_ok-place.ensures.found.1 c.index-segs-place.is))
    c.in_err-index.ensures.none)

small : (c : After-rounded_up-cell) → cell_offset c.rounded_up-cell.result c.in_ok-index.index < 33554432
small c =
    subst (λ x. cell_offset x c.in_ok-index.index < 33554432) (sym c.rounded_up-cell.ensures)
    (found-small c.args.element c.in_ok-place.place c.args.number c.args.segs.now c.index-segs-place.result c.requires.kept c.in_ok-place.ensures.found.0 c.in_ok-place.ensures.found.1 c.index-segs-place.is
    c.in_ok-index.index c.in_ok-index.ensures.found.listed)

pub offset_of-requires : goal.offset_of-requires
offset_of-requires c = let low = small (goal.at.offset_of-requires c).After-rounded_up-cell in omega (arith, low)

pub new-requires-clause-first : goal.new-requires-clause-first
new-requires-clause-first c =
    found-first c.args.element c.in_ok-place.place c.args.number c.args.segs.now c.index-segs-place.result c.requires.kept c.in_ok-place.ensures.found.0 c.in_ok-place.ensures.found.1 c.index-segs-place.is

pub new-requires-clause-last : goal.new-requires-clause-last
new-requires-clause-last c =
    found-last c.args.element c.in_ok-place.place c.args.number c.args.segs.now c.index-segs-place.result c.requires.kept c.in_ok-place.ensures.found.0 c.in_ok-place.ensures.found.1 c.index-segs-place.is

pub new-requires-clause-below : goal.new-requires-clause-below
new-requires-clause-below c = subst (λ x. x < 33554432) (sym c.offset_of.ensures) (small (goal.at.new-requires-clause-below c).After-rounded_up-cell)

-- the cell begins at the offset
begins : (c : After-offset_of) → c.offset_of.result ≡ cell_offset (cell_for c.args.element) c.in_ok-index.index
begins c = c.offset_of.ensures ∙ ap (λ x. cell_offset x c.in_ok-index.index) c.rounded_up-cell.ensures

pub new-requires-clause-multiple : goal.new-requires-clause-multiple
new-requires-clause-multiple c =
    ap (λ x. x % 32) (begins (goal.at.new-requires-clause-multiple c).After-offset_of)
    ∙ found-multiple c.args.element c.in_ok-place.place c.args.number c.args.segs.now c.index-segs-place.result c.requires.kept c.in_ok-place.ensures.found.0 c.in_ok-place.ensures.found.1 c.index-segs-place.is
    c.in_ok-index.index

pub returns-clause-found : goal.returns-clause-found
returns-clause-found c =
    record {
      index = c.in_ok-index.index;
      place = c.new.ensures.value ∙ ap (λ (x : ℕ). address (c.args.number, x)) (begins (goal.at.returns-clause-found c).After-offset_of);
      first =
          subst (IsFirstBlock c.args.from c.in_ok-index.index)
          (sym (found-is c.args.element c.in_ok-place.place c.args.number c.args.segs.now c.index-segs-place.result c.requires.kept c.in_ok-place.ensures.found.0 c.in_ok-place.ensures.found.1 c.index-segs-place.is))
          c.in_ok-index.ensures.found;
    }

pub returns-clause-live : goal.returns-clause-live
returns-clause-live c =
    let first = c.in_ok-index.ensures.found in
    found-live c.args.element c.in_ok-place.place c.args.number c.args.segs.now c.index-segs-place.result c.requires.kept c.in_ok-place.ensures.found.0 c.in_ok-place.ensures.found.1 c.index-segs-place.is
    c.in_ok-index.index c.new.result.0 first.listed first.size (c.new.ensures.value ∙ ap (λ (x : ℕ). address (c.args.number, x)) (begins (goal.at.returns-clause-live c).After-offset_of))
