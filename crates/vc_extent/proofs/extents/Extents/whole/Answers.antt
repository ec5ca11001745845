use Rattle.vc_base.proofs.Common.{List, sym, ap, ◌∙◌, arith, take_all}
use Rattle.vc_seg.specs.Segment.{Bytes}
use Rattle.vc_seg.proofs.FirstByNumber.{bytes_of_number-first}
use Rattle.vc_extent.proofs.extents.Extents.whole.Goals as goal

pub returns : goal.returns
returns c =
    let segs : List Bytes = c.args.self.now.segs.items in
    let seg : Bytes = c.index-seg.result.now in
    let p = c.place.ensures.place in
    c.bytes.ensures
    ∙ take_all c.size.result seg.bytes (omega (arith, c.size.ensures.value))
    ∙ ap (λ (b : Bytes). b.bytes) c.index-seg.ensures
    ∙ sym (bytes_of_number-first c.args.n segs c.place.result seg p.within p.first (p.numbered seg))
