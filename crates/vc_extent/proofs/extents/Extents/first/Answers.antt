use Rattle.vc_base.proofs.Common.{[], Some, ap, ◌∙◌}
use Rattle.vc_seg.specs.Segment.{Bytes}
use Rattle.vc_extent.proofs.Places.{first-off}
use Rattle.vc_extent.proofs.extents.Extents.first.Goals as goal

pub returns : goal.returns
returns c =
    let d : Bytes = record { number = 0; bytes = [] } in
    ap Some c.new.ensures.value ∙ first-off c.args.n c.args.self.now.segs.items c.place-place.result d c.place-place.ensures.place (c.place-place.ensures.tiled d)
