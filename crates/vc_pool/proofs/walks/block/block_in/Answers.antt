use Rattle.vc_base.proofs.Common.{◌≡◌, ℕ, ◌-◌, ◌/◌, ◌%◌, ◌<◌, ◌≤◌, length, vec_len, sym, refl, ap, ◌∙◌, subst, arith, get_or_default, address, cell_offset}
use Rattle.vc_pool.specs.Cells.Cells.{Cells, cells_of, pair_at}
use Rattle.vc_pool.specs.Cells.Place.{cells_in}
use Rattle.vc_pool.specs.declared.cells.segment.PoolSegment.{PoolSegment}
use Rattle.vc_pool.proofs.SegmentList.{cells-none}
use Rattle.vc_pool.proofs.ByteLookup.{none-listed, none-within, some-within}
use Rattle.vc_pool.proofs.BlockOfByte.{byte-none}
use Rattle.vc_pool.proofs.CellsWithBlocks.{found-first, found-last, found-live, found-multiple, found-small}
use Rattle.vc_pool.proofs.walks.block.block_in.Goals as goal
use Rattle.vc_pool.proofs.walks.block.block_in.Goals.{After-new, After-pair}

pub returns-in_err-place : goal.returns-in_err-place
returns-in_err-place c =
    record {
      value = rw (
        c.from_residual.ensures,
        byte-none c.args.element c.args.seg c.args.off (cells_in c.args.segs.now) c.requires.kept
            (λ k b. let listed = b.listed in let none = ap (λ (s : Cells). length s.pairs) (cells-none c.args.seg c.args.segs.now c.in_err-place.ensures.none) in omega (arith, listed, none)),
      )
          refl;
      live = rw c.from_residual.ensures tt;
    }

pub returns-then-off-lt32 : goal.returns-then-off-lt32
returns-then-off-lt32 c =
    record {
      value = rw (byte-none c.args.element c.args.seg c.args.off (cells_in c.args.segs.now) c.requires.kept (λ k b. let low = b.low in let small = c.if-off-lt32.true in omega (arith, low, small))) refl;
      live = tt;
    }

pub returns-then-index-len : goal.returns-then-index-len
returns-then-index-len c =
    let len : c.len.result ≡ vec_len c.index-segs-place.result.cells = c.len.ensures ∙ ap (λ (s : PoolSegment). vec_len s.cells) (sym c.index-segs-place.is) in
    record {
      value = rw (none-listed c.args.element c.in_ok-place.place c.args.seg c.args.off c.args.segs.now c.index-segs-place.result c.requires.kept c.in_ok-place.ensures.found.0 c.in_ok-place.ensures.found.1 c.index-segs-place.is
          c.rounded_up-cell.result c.rounded_up-cell.ensures (omega (arith, len)))
          refl;
      live = tt;
    }

pub returns-then-inner-pair : goal.returns-then-inner-pair
returns-then-inner-pair c =
    record {
      value = rw (none-within c.args.element c.in_ok-place.place c.args.seg c.args.off c.args.segs.now c.index-segs-place-2.result c.requires.kept c.in_ok-place.ensures.found.0 c.in_ok-place.ensures.found.1 c.index-segs-place-2.is
          c.rounded_up-cell.result c.rounded_up-cell.ensures (subst (λ (p : ℕ × ℕ). p.0 ≤ (c.args.off - 32) % c.rounded_up-cell.result) c.pair.ensures c.if-inner-pair.true))
          refl;
      live = tt;
    }

-- the cell that the segment lists is the one whose pair is read
listed : (c : After-pair) → (c.args.off - 32) / c.rounded_up-cell.result < length c.index-segs-place-2.result.cells.items
listed c =
    let len : c.len.result ≡ vec_len c.index-segs-place.result.cells = c.len.ensures ∙ ap (λ (s : PoolSegment). vec_len s.cells) (sym c.index-segs-place.is) in
    subst (λ (s : PoolSegment). (c.args.off - 32) / c.rounded_up-cell.result < length s.cells.items)
    (c.index-segs-place.is ∙ (get_or_default c.args.segs.now c.in_ok-place.place c.index-segs-place.result c.index-segs-place-2.result c.in_ok-place.ensures.found.0 ∙ sym c.index-segs-place-2.is))
    (omega (arith, len))

small : (c : After-pair) → cell_offset c.rounded_up-cell.result ((c.args.off - 32) / c.rounded_up-cell.result) < 33554432
small c =
    subst (λ x. cell_offset x ((c.args.off - 32) / c.rounded_up-cell.result) < 33554432) (sym c.rounded_up-cell.ensures)
    (found-small c.args.element c.in_ok-place.place c.args.seg c.args.segs.now c.index-segs-place-2.result c.requires.kept c.in_ok-place.ensures.found.0 c.in_ok-place.ensures.found.1 c.index-segs-place-2.is
    ((c.args.off - 32) / c.rounded_up-cell.result) (listed c))

pub offset_of-requires : goal.offset_of-requires
offset_of-requires c = let low = small (goal.at.offset_of-requires c).After-pair in omega (arith, low)

pub new-requires-clause-first : goal.new-requires-clause-first
new-requires-clause-first c =
    found-first c.args.element c.in_ok-place.place c.args.seg c.args.segs.now c.index-segs-place-2.result c.requires.kept c.in_ok-place.ensures.found.0 c.in_ok-place.ensures.found.1 c.index-segs-place-2.is

pub new-requires-clause-last : goal.new-requires-clause-last
new-requires-clause-last c =
    found-last c.args.element c.in_ok-place.place c.args.seg c.args.segs.now c.index-segs-place-2.result c.requires.kept c.in_ok-place.ensures.found.0 c.in_ok-place.ensures.found.1 c.index-segs-place-2.is

pub new-requires-clause-below : goal.new-requires-clause-below
new-requires-clause-below c = subst (λ x. x < 33554432) (sym c.offset_of.ensures) (small (goal.at.new-requires-clause-below c).After-pair)

pub new-requires-clause-multiple : goal.new-requires-clause-multiple
new-requires-clause-multiple c =
    ap (λ x. x % 32) (c.offset_of.ensures ∙ ap (λ x. cell_offset x ((c.args.off - 32) / c.rounded_up-cell.result)) c.rounded_up-cell.ensures)
    ∙ found-multiple c.args.element c.in_ok-place.place c.args.seg c.args.segs.now c.index-segs-place-2.result c.requires.kept c.in_ok-place.ensures.found.0 c.in_ok-place.ensures.found.1 c.index-segs-place-2.is
    ((c.args.off - 32) / c.rounded_up-cell.result)

-- the block's size
inner : (c : After-new) → (c.args.off - 32) % c.rounded_up-cell.result < (pair_at ((c.args.off - 32) / c.rounded_up-cell.result) (cells_of c.index-segs-place-2.result)).0
inner c = subst (λ (p : ℕ × ℕ). (c.args.off - 32) % c.rounded_up-cell.result < p.0) c.pair.ensures c.if-inner-pair.false

pub returns : goal.returns
returns c =
    let first = c.if-off-lt32.false in
    let own = inner (goal.at.returns c).After-new in
    let there = listed (goal.at.returns c).After-pair in
    let address-is = c.new.ensures.value ∙ ap (λ (x : ℕ). address (c.args.seg, x)) c.offset_of.ensures in
    record {
      value = sym (some-within c.args.element c.in_ok-place.place c.args.seg c.args.off c.args.segs.now c.index-segs-place-2.result c.requires.kept c.in_ok-place.ensures.found.0 c.in_ok-place.ensures.found.1 c.index-segs-place-2.is
          c.rounded_up-cell.result c.rounded_up-cell.ensures first there own c.new.result.0 address-is);
      live = found-live c.args.element c.in_ok-place.place c.args.seg c.args.segs.now c.index-segs-place-2.result c.requires.kept c.in_ok-place.ensures.found.0 c.in_ok-place.ensures.found.1 c.index-segs-place-2.is
          ((c.args.off - 32) / c.rounded_up-cell.result) c.new.result.0 there (omega (arith, own))
          (address-is ∙ ap (λ (x : ℕ). address (c.args.seg, cell_offset x ((c.args.off - 32) / c.rounded_up-cell.result))) c.rounded_up-cell.ensures);
    }
