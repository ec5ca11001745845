use Rattle.vc_base.proofs.Common.{◌≡◌, ◌*◌, map, ◌∙◌, arith, length-map, cell_of}
use Rattle.vc_model.specs.Pool.{free_cells, greatest_free_cell}
use Rattle.vc_seg.proofs.Tallies.{HasRoom-segments}
use Rattle.vc_pool.specs.Cells.Blocks.{layout_by, pair_of}
use Rattle.vc_pool.specs.Cells.Kept.{segment_of}
use Rattle.vc_pool.specs.Cells.Place.{cells_in, pair_in}
use Rattle.vc_pool.proofs.SegmentList.{numbered-in}
use Rattle.vc_pool.proofs.BlockSizes.{segments-bytes, segments-count}
use Rattle.vc_pool.specs.Read.{pool_by}
use Rattle.vc_pool.proofs.PoolNumbers.{cell_of-is, free-is, greatest-none, greatest-some}
use Rattle.vc_pool.proofs.count.stat_of.Goals as goal
use Rattle.vc_pool.proofs.count.stat_of.Goals.{then-free-eq0, else-free-eq0}

pub tally_segments-segments-requires : goal.tally_segments-segments-requires
tally_segments-segments-requires c = HasRoom-segments (map pair_in c.args.segs.now) (numbered-in c.args.segs.now c.requires.kept.segments)

pub overflow_cast-result : goal.overflow_cast-result
overflow_cast-result c =
    let count = segments-count c.args.segs.now c.tally_segments-segments.result c.tally_segments-segments.ensures in
    omega (arith, count, length-map (cells_in c.args.segs.now) pair_of, length-map (cells_in c.args.segs.now) segment_of)

pub returns : goal.returns
unfolding pool_by layout_by
returns c =
    λ freed.
    let free : c.saturating_sub-free.result ≡ free_cells (pool_by c.args.segs.now c.args.element freed) =
    c.saturating_sub-free.ensures ∙ free-is c.args.segs.now c.args.element freed c.count_cells.result c.tally_blocks-blocks.result.count (c.count_cells.ensures.value c.args.element c.requires.kept) c.tally_blocks-blocks.ensures.count in
    let cell : c.from.result ≡ cell_of (pool_by c.args.segs.now c.args.element freed) = c.from.ensures ∙ (c.rounded_up-cell.ensures ∙ cell_of-is c.args.segs.now c.args.element freed) in
    let most : c.if-free-eq0.result ≡ greatest_free_cell (pool_by c.args.segs.now c.args.element freed) =
    elim c.if-free-eq0.branch [
      | then-free-eq0 w ↦ greatest-none c.args.segs.now c.args.element freed c.saturating_sub-free.result c.if-free-eq0.result free w.if-free-eq0.true w.result-is
      | else-free-eq0 w ↦ greatest-some c.args.segs.now c.args.element freed c.saturating_sub-free.result c.if-free-eq0.result free w.if-free-eq0.false (w.result-is ∙ (w.from-else-free-eq0.ensures ∙ c.rounded_up-cell.ensures))
    ] in
    λ j.
    record {
      busy = c.tally_blocks-blocks.ensures.count j;
      free = free j;
      sbusy = c.tally_blocks-blocks.ensures.bytes j;
      sfree = free j * cell j;
      mbusy = c.tally_blocks-blocks.ensures.most j;
      mfree = most j;
      segs = segments-count c.args.segs.now c.tally_segments-segments.result c.tally_segments-segments.ensures j;
      extent = segments-bytes c.args.segs.now c.tally_segments-segments.result c.tally_segments-segments.ensures j;
    }
