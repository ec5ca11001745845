use Rattle.vc_base.proofs.Common.{◌≡◌, ◌+◌, sym, arith}
use Rattle.vc_seg.specs.Segment.{Bytes}
use Rattle.vc_extent.specs.Extent.{extents}
use Rattle.vc_extent.specs.Change.{behind, extent_in, join}
use Rattle.vc_seg.specs.Field.{field_at}
use Rattle.vc_seg.proofs.Frames.{field-front, lower, then-below}
use Rattle.vc_extent.proofs.JoinedExtents.{join-tiles}
use Rattle.vc_extent.proofs.Changed.{changed, here, within}
use Rattle.vc_extent.proofs.edit.join_in.Goals as goal

pub returns : goal.returns
returns c =
    let at = c.args.at in
    let o : Bytes = c.args.seg.now in
    let a : Bytes = c.set_boundary.new.seg in
    let n : Bytes = c.lay_free.new.seg in
    let p = here c.requires.there in
    let w = within c.requires.there in
    let first = c.span_in-first.result in
    let second = c.span_behind.result in
    let boundary : field_at (at + 12) a.bytes ≡ field_at (at + 12) o.bytes = field-front o.bytes a.bytes (at + (first + second) + 12) c.set_boundary.ensures.rest.below (at + 12) (omega arith) in
    changed o n at join c.requires.there
    (then-below at o a n (lower (at + (first + second) + 12) at o a c.set_boundary.ensures.rest (omega arith)) c.lay_free.ensures.rest)
    (join-tiles o a n at first second (extent_in (at + 16) (extents o.bytes)) (behind (at + 16) (extents o.bytes)) w.off (sym c.span_in-first.ensures.value) c.requires.some c.span_behind.ensures.value p.rest c.set_boundary.ensures.tiles c.lay_free.ensures.tiles boundary)
