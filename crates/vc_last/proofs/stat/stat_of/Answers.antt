use Rattle.vc_base.proofs.Common.{◌≡◌, ℕ, List, map, length, sym, refl, ap, ◌∙◌, length-map, bytes_of, Block, Layout, block_count, block_sizes, gaps_of, segment_bytes, segment_count}
use Rattle.vc_model.specs.Numbers.{block_bytes, gap_bytes, gap_count, gap_sizes, greatest_block, greatest_gap}
use Rattle.vc_seg.specs.Segment.{pair_of}
use Rattle.vc_seg.specs.declared.tally.Tally.{Tally}
use Rattle.vc_seg.specs.Tally.{tally_of}
use Rattle.vc_seg.proofs.Backs.{AreNumbered-segments}
use Rattle.vc_seg.proofs.Tallies.{HasRoom-segments, tally_of-count, tally_of-bytes, tally_of-most}
use Rattle.vc_last.specs.Chain.{blocks_from}
use Rattle.vc_last.proofs.Backs.{HasRoom-blocks}
use Rattle.vc_last.proofs.Kept.{layout-from, row-of}
use Rattle.vc_last.proofs.Allocations.{row}
use Rattle.vc_last.proofs.Tallies.{HasRoom-gaps, gap_sizes-runs}
use Rattle.vc_last.proofs.stat.stat_of.Goals as goal

pub tally_blocks-blocks-requires-clause-room : goal.tally_blocks-blocks-requires-clause-room
tally_blocks-blocks-requires-clause-room c = HasRoom-blocks c.args.segs.now c.args.latest.0 c.requires

pub tally_gaps-gaps-requires-clause-room : goal.tally_gaps-gaps-requires-clause-room
tally_gaps-gaps-requires-clause-room c =
    HasRoom-gaps (row (map pair_of c.args.segs.now) (blocks_from c.args.segs.now c.args.latest.0)) (row-of c.args.segs.now c.args.latest.0 (blocks_from c.args.segs.now c.args.latest.0) c.requires) c.args.segs.now c.requires.segments refl

pub tally_segments-segments-requires : goal.tally_segments-segments-requires
tally_segments-segments-requires c = HasRoom-segments (map pair_of c.args.segs.now) (AreNumbered-segments c.args.segs.now c.requires.segments)

pub returns : goal.returns
returns c =
    let r : Layout ℕ = row (map pair_of c.args.segs.now) (blocks_from c.args.segs.now c.args.latest.0) in
    let sizes : List ℕ = gap_sizes r in
    let gaps : c.tally_gaps-gaps.result ≡ tally_of sizes = c.tally_gaps-gaps.ensures ∙ ap tally_of (gap_sizes-runs r (row-of c.args.segs.now c.args.latest.0 (blocks_from c.args.segs.now c.args.latest.0) c.requires) c.args.segs.now refl) in
    let count : c.tally_gaps-gaps.result.count ≡ gap_count r = ap (λ (t : Tally). t.count) gaps ∙ (tally_of-count sizes ∙ length-map (gaps_of r) bytes_of) in
    let bytes : c.tally_gaps-gaps.result.bytes ≡ gap_bytes r = ap (λ (t : Tally). t.bytes) gaps ∙ tally_of-bytes sizes in
    let most : c.tally_gaps-gaps.result.most ≡ greatest_gap r = ap (λ (t : Tally). t.most) gaps ∙ tally_of-most sizes in
    let blocks : c.tally_blocks-blocks.result ≡ tally_of (block_sizes r) = c.tally_blocks-blocks.ensures in
    let busy : c.tally_blocks-blocks.result.count ≡ block_count r = ap (λ (t : Tally). t.count) blocks ∙ (tally_of-count (block_sizes r) ∙ length-map r.blocks (λ (b : Block ℕ). b.size)) in
    let sbusy : c.tally_blocks-blocks.result.bytes ≡ block_bytes r = ap (λ (t : Tally). t.bytes) blocks ∙ tally_of-bytes (block_sizes r) in
    let mbusy : c.tally_blocks-blocks.result.most ≡ greatest_block r = ap (λ (t : Tally). t.most) blocks ∙ tally_of-most (block_sizes r) in
    let segments = c.tally_segments-segments.ensures in
    let segs : length c.args.segs.now ≡ segment_count r = sym (length-map c.args.segs.now pair_of) in
    let extent : c.tally_segments-segments.result.bytes ≡ segment_bytes r = ap (λ (t : Tally). t.bytes) segments ∙ tally_of-bytes (map (λ (s : ℕ × ℕ). s.1) r.segments) in
    rw (layout-from c.args.segs.now c.args.latest.0, busy, sbusy, mbusy, segs, extent, count, bytes, most) refl
