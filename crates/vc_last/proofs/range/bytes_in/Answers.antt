use Rattle.vc_base.proofs.Common.{◌≡◌, length, take, drop, sym, ap, ◌∙◌, arith}
use Rattle.vc_seg.specs.Memory.{bytes_of_number}
use Rattle.vc_seg.proofs.FirstByNumber.{bytes_of_number-first}
use Rattle.vc_seg.specs.Segment.{Bytes}
use Rattle.vc_last.proofs.range.bytes_in.Goals as goal
use Rattle.vc_last.proofs.range.bytes_in.Goals.{After-index-segs-place}

own : (c : After-index-segs-place) → bytes_of_number c.args.number c.args.segs.now ≡ c.index-segs-place.result.bytes
own c =
    let p = c.place_of_number-place.ensures in
    bytes_of_number-first c.args.number c.args.segs.now c.place_of_number-place.result c.index-segs-place.result p.within p.first (p.number c.index-segs-place.result)
    ∙ ap (λ (s : Bytes). s.bytes) (sym c.index-segs-place.is)

pub bytes-requires : goal.bytes-requires
bytes-requires c = omega (arith, c.requires.within, ap length (own (goal.at.bytes-requires c).After-index-segs-place))

pub returns : goal.returns
returns c = c.bytes.ensures ∙ ap (λ bytes. take c.args.len (drop c.args.at bytes)) (sym (own (goal.at.returns c).After-index-segs-place))
