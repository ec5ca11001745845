use Rattle.vc_base.proofs.Common.{◌+◌, ◌-◌, List, ◌∷◌, length}
use Rattle.vc_seg.specs.Segment.{Bytes}
use Rattle.vc_extent.specs.Extent.{Extent, extents, free_extent, no_links}
use Rattle.vc_extent.specs.Change.{behind, mark_free}
use Rattle.vc_seg.specs.Field.{field_at}
use Rattle.vc_extent.proofs.Changed.{changed, own-tiles, rest-tiles}
use Rattle.vc_extent.proofs.edit.mark_free_in.Goals as goal

pub returns : goal.returns
returns c =
    let o : Bytes = c.args.seg.now in
    let n : Bytes = c.lay_free.new.seg in
    let es : List Extent = behind (c.args.at + 16) (extents o.bytes) in
    let span = c.span_in-bytes.ensures.value in
    changed o n c.args.at mark_free c.requires.there c.lay_free.ensures.rest
    (own-tiles c.requires.there span n.bytes (length n.bytes - 16) (field_at (c.args.at + 12) o.bytes) (λ off k. free_extent off k no_links ∷ es)
    (c.lay_free.ensures.tiles es (rest-tiles c.requires.there span)))
