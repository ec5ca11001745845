use Rattle.vc_base.proofs.Common.{◌≡◌, suc, ◌++◌, map, drop, sym, ap, ◌∙◌, subst, add-one, bytes_of, footprints}
use Rattle.vc_seg.specs.Segment.{Bytes, pair_of}
use Rattle.vc_seg.specs.Tally.{HasRoom, tallied_all}
use Rattle.vc_seg.proofs.Tallies.{HasRoom-rest, tallied_all-append}
use Rattle.vc_last.specs.Chain.{blocks_from}
use Rattle.vc_last.specs.Gaps.{gaps_left_in}
use Rattle.vc_last.proofs.Tallies.{sizes_in, sizes_in-next}
use Rattle.vc_last.proofs.stat.tally_gaps.Goals as goal

pub loop-segment-preserved : goal.loop-segment-preserved
loop-segment-preserved c =
    let runs = footprints (blocks_from c.args.segs.now c.args.latest.0) in
    let here = map bytes_of (gaps_left_in runs (c.number.result, c.size.result)) in
    let later = sizes_in runs (drop (suc c.loop-segment.segment-index) c.args.segs.now) in
    let cut : sizes_in runs (drop c.loop-segment.segment-index c.args.segs.now) ≡ here ++ later =
    rw (c.number.ensures, c.size.ensures.value)
    (sizes_in-next runs c.args.segs.now c.loop-segment.segment-index c.segment-item.result c.loop-segment-test.true
    ∙ ap (λ (b : Bytes). map bytes_of (gaps_left_in runs (pair_of b)) ++ later) (sym c.segment-item.is)) in
    rw (add-one, c.tally_gaps_in-tally.ensures)
    record {
      room = HasRoom-rest c.loop-segment.tally here later (subst (HasRoom c.loop-segment.tally) cut c.loop-segment.invariant.room);
      rest = sym (tallied_all-append c.loop-segment.tally here later) ∙ (ap (tallied_all c.loop-segment.tally) (sym cut) ∙ c.loop-segment.invariant.rest);
    }
