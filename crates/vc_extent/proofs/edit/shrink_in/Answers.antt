use Rattle.vc_base.proofs.Common.{◌≡◌, ℕ, ◌+◌, ◌-◌, List, ◌∷◌, length, take, drop, sym, ap, ◌∙◌, subst, arith, take-take, span}
use Rattle.vc_seg.specs.Segment.{Bytes}
use Rattle.vc_extent.specs.Extent.{Extent, busy_extent, extents, free_extent, no_links}
use Rattle.vc_extent.specs.Change.{behind, extent_in, shrink}
use Rattle.vc_seg.specs.Field.{field_at}
use Rattle.vc_extent.specs.Tiles.{Tiles}
use Rattle.vc_seg.proofs.Frames.{field-front, lower, part-front, then-below}
use Rattle.vc_extent.proofs.Changed.{changed, here, within}
use Rattle.vc_extent.proofs.MarkedExtents.{cut-tiles}
use Rattle.vc_extent.proofs.edit.shrink_in.Goals as goal

pub returns-clause-change : goal.returns-clause-change
returns-clause-change c =
    let at = c.args.at in
    let o : Bytes = c.args.seg.now in
    let a : Bytes = c.lay_rest.new.seg in
    let n : Bytes = c.lay_busy.new.seg in
    let e : Extent = extent_in (at + 16) (extents o.bytes) in
    let es : List Extent = behind (at + 16) (extents o.bytes) in
    let p = here c.requires.busy.there in
    let w = within c.requires.busy.there in
    let whole = c.span_in-whole.result in
    let bytes = c.span_of-bytes.result in
    let is : bytes ≡ span c.args.size = c.span_of-bytes.ensures in
    let spans = w.legal.busy c.requires.busy.busy in
    let some = c.requires.some in
    let below = c.requires.below in
    let span' : e.span ≡ whole = sym c.span_in-whole.ensures.value in
    let old : Tiles o.bytes (length o.bytes - 16) e.span (at + whole) es = subst (λ (k : ℕ). Tiles o.bytes (length o.bytes - 16) e.span (at + k) es) span' p.rest in
    let one = c.lay_rest.ensures.tiles e.span es old in
    let two = c.lay_busy.ensures.tiles (free_extent (at + 16 + bytes) (whole - bytes) no_links ∷ es) one in
    let boundary : field_at (at + 12) a.bytes ≡ field_at (at + 12) o.bytes = field-front o.bytes a.bytes (at + bytes) c.lay_rest.ensures.rest.below (at + 12) (omega arith) in
    let three : Tiles n.bytes (length n.bytes - 16) (field_at (at + 12) o.bytes) at (busy_extent (at + 16) bytes c.args.size c.tag_in-tag.result (take c.args.size (drop (at + 16) a.bytes)) ∷ free_extent (at + 16 + bytes) (whole - bytes) no_links ∷ es) =
    subst (λ (k : ℕ). Tiles n.bytes (length n.bytes - 16) k at (busy_extent (at + 16) bytes c.args.size c.tag_in-tag.result (take c.args.size (drop (at + 16) a.bytes)) ∷ free_extent (at + 16 + bytes) (whole - bytes) no_links ∷ es)) boundary two in
    let body : take c.args.size (drop (at + 16) a.bytes) ≡ take c.args.size e.body =
    part-front o.bytes a.bytes (at + bytes) c.lay_rest.ensures.rest.below (at + 16) c.args.size (omega arith) ∙ sym (ap (take c.args.size) w.body ∙ take-take c.args.size e.size (drop (at + 16) o.bytes) (omega arith)) in
    changed o n at (shrink c.args.size) c.requires.busy.there
    (then-below at o a n (lower (at + bytes) at o a c.lay_rest.ensures.rest (omega arith)) c.lay_busy.ensures.rest)
    (cut-tiles a n (field_at (at + 12) o.bytes) at bytes whole c.args.size c.tag_in-tag.result e (take c.args.size e.body) es w.off c.span_in-whole.ensures.value is c.tag_in-tag.ensures body three)
