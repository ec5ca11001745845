use Rattle.vc_base.proofs.Common.{◌≡◌, ℕ, ◌+◌, ◌≤◌, List, ◌++◌, length, drop, sym, ap, ◌∙◌, subst, drop_all, length-map, Block, block_sizes, cell_for}
use Rattle.vc_seg.specs.declared.tally.Tally.{Tally}
use Rattle.vc_seg.specs.Tally.{HasRoom, tallied_all, tally_of}
use Rattle.vc_seg.proofs.Tallies.{HasRoom-rest, tallied_all-append, tally_of-bytes, tally_of-count, tally_of-most}
use Rattle.vc_pool.specs.Cells.Blocks.{layout_by}
use Rattle.vc_pool.specs.Cells.Place.{cells_in}
use Rattle.vc_pool.specs.declared.cells.segment.PoolSegment.{PoolSegment}
use Rattle.vc_pool.specs.Sizes.{sizes_in}
use Rattle.vc_pool.proofs.CellsWithBlocks.{cellular-at}
use Rattle.vc_pool.proofs.BlockSizes.{room-blocks, sizes-next, sizes_of, tally-layout}
use Rattle.vc_pool.proofs.walks.tally.tally_blocks.Goals as goal

pub loop-segment-init : goal.loop-segment-init
loop-segment-init c =
    record {
      room = subst (λ (t : Tally). HasRoom t (sizes_of (cells_in c.args.segs.now))) (sym c.new-tally.ensures) (room-blocks c.args.element (cells_in c.args.segs.now) c.requires.kept);
      rest = ap (λ (t : Tally). tallied_all t (sizes_of (cells_in c.args.segs.now))) c.new-tally.ensures;
    }

pub with_segment-tally-requires-clause-few : goal.with_segment-tally-requires-clause-few
with_segment-tally-requires-clause-few c = (cellular-at c.args.element c.loop-segment.segment-index c.args.segs.now c.segment-item.result c.requires.kept c.loop-segment-test.true c.segment-item.is).few

pub with_segment-tally-requires-clause-fresh : goal.with_segment-tally-requires-clause-fresh
with_segment-tally-requires-clause-fresh c = (cellular-at c.args.element c.loop-segment.segment-index c.args.segs.now c.segment-item.result c.requires.kept c.loop-segment-test.true c.segment-item.is).fresh

pub loop-segment-preserved : goal.loop-segment-preserved
loop-segment-preserved c =
    let xs : List ℕ = sizes_in c.segment-item.result.cells.items in
    let rest : List ℕ = sizes_of (cells_in (drop (c.loop-segment.segment-index + 1) c.args.segs.now)) in
    let next : sizes_of (cells_in (drop c.loop-segment.segment-index c.args.segs.now)) ≡ xs ++ rest = sizes-next c.args.segs.now c.loop-segment.segment-index c.segment-item.result c.loop-segment-test.true c.segment-item.is in
    record {
      room = subst (λ (t : Tally). HasRoom t rest) (sym c.with_segment-tally.ensures) (HasRoom-rest c.loop-segment.tally xs rest (subst (HasRoom c.loop-segment.tally) next c.loop-segment.invariant.room));
      rest = ap (λ (t : Tally). tallied_all t rest) c.with_segment-tally.ensures
          ∙ (sym (tallied_all-append c.loop-segment.tally xs rest) ∙ (ap (tallied_all c.loop-segment.tally) (sym next) ∙ c.loop-segment.invariant.rest));
    }

-- the tally of all blocks
whole : (element i : ℕ) (segs : List PoolSegment) (t : Tally) → length segs ≤ i → tallied_all t (sizes_of (cells_in (drop i segs))) ≡ tally_of (sizes_of (cells_in segs)) → t ≡ tally_of (block_sizes (layout_by (cell_for element) (cells_in segs)))
whole element i segs t past e =
    sym (ap (λ (xs : List PoolSegment). tallied_all t (sizes_of (cells_in xs))) (drop_all i segs past)) ∙ (e ∙ tally-layout (cell_for element) (cells_in segs))

pub returns-clause-count : goal.returns-clause-count
returns-clause-count c =
    ap (λ (t : Tally). t.count) (whole c.args.element c.loop-segment.segment-index c.args.segs.now c.loop-segment.tally c.loop-segment-test.false c.loop-segment.invariant.rest)
    ∙ (tally_of-count (block_sizes (layout_by (cell_for c.args.element) (cells_in c.args.segs.now))) ∙ length-map (layout_by (cell_for c.args.element) (cells_in c.args.segs.now)).blocks (λ (b : Block ℕ). b.size))

pub returns-clause-bytes : goal.returns-clause-bytes
returns-clause-bytes c =
    ap (λ (t : Tally). t.bytes) (whole c.args.element c.loop-segment.segment-index c.args.segs.now c.loop-segment.tally c.loop-segment-test.false c.loop-segment.invariant.rest)
    ∙ tally_of-bytes (block_sizes (layout_by (cell_for c.args.element) (cells_in c.args.segs.now)))

pub returns-clause-most : goal.returns-clause-most
returns-clause-most c =
    ap (λ (t : Tally). t.most) (whole c.args.element c.loop-segment.segment-index c.args.segs.now c.loop-segment.tally c.loop-segment-test.false c.loop-segment.invariant.rest)
    ∙ tally_of-most (block_sizes (layout_by (cell_for c.args.element) (cells_in c.args.segs.now)))
