use Rattle.vc_base.proofs.Common.{◌+◌, ◌++◌, ap, ◌∙◌, sym, take, drop}
use Rattle.vc_seg.specs.Segment.{Bytes}
use Rattle.vc_image.specs.Save.{image_body}
use Rattle.vc_image.proofs.Fronts.{body-at, front-written, whole-bytes}
use Rattle.vc_image.proofs.segments.write_segments.Goals as goal

pub returns-in_err-write_all-clause-front : goal.returns-in_err-write_all-clause-front
returns-in_err-write_all-clause-front g c =
    let piece = c.bytes.ensures ∙ whole-bytes c.seg-item.result.bytes c.size.result c.size.ensures.value in
    front-written _ _ _ (image_body (take c.loop-seg.seg-index c.args.segs.now)) c.bytes.result.now (image_body (drop (c.loop-seg.seg-index + 1) c.args.segs.now)) _
    (body-at c.args.segs.now c.loop-seg.seg-index c.seg-item.result c.loop-seg-test.true ∙ ap (λ z. image_body (take c.loop-seg.seg-index c.args.segs.now) ++ (z ++ image_body (drop (c.loop-seg.seg-index + 1) c.args.segs.now))) (ap (λ (s : Bytes). s.bytes) (sym c.seg-item.is) ∙ sym piece))
    c.loop-seg.invariant.written c.write_all.ensures.front
