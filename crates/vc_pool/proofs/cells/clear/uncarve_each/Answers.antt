use Rattle.vc_base.proofs.Common.{◌<◌, length, get_or, set, sym, ap, ◌∙◌, arith, length-map}
use Rattle.std.proofs.lemmas.List.Edits.{map_over_more}
use Rattle.vc_pool.specs.Cells.Cells.{cells_of, uncarved_all}
use Rattle.vc_pool.specs.Cells.Place.{cells_in}
use Rattle.vc_pool.specs.declared.cells.segment.PoolSegment.{PoolSegment}
use Rattle.vc_pool.proofs.SegmentList.{cells-get, cells-put}
use Rattle.vc_pool.proofs.cells.clear.uncarve_each.Goals as goal

pub loop-segment-preserved : goal.loop-segment-preserved
loop-segment-preserved c =
    let i = c.loop-segment.segment-index in
    let segs = c.loop-segment.segs in
    let old : PoolSegment = get_or segs i c.segment-item.result in
    let within : i < length segs = omega arith in
    cells-put segs i c.clear.new.self
    ∙ (ap (set (cells_in segs) i) c.clear.ensures
    ∙ map_over_more uncarved_all (cells_in c.args.segs.now) (cells_in segs) i (cells_of old) (omega (arith, length-map c.args.segs.now cells_of)) c.loop-segment.invariant (sym (cells-get segs i c.segment-item.result (cells_of old) within)))
