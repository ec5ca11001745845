use Rattle.vc_base.proofs.Common.{◌≡◌, ℕ, ◌+◌, ◌-◌, List, ◌∷◌, length, sym, subst, arith}
use Rattle.vc_seg.specs.Segment.{Bytes}
use Rattle.vc_extent.specs.Extent.{Extent, extents, free_extent, no_links}
use Rattle.vc_extent.specs.Change.{behind, extent_in, split}
use Rattle.vc_seg.specs.Field.{field_at}
use Rattle.vc_extent.specs.Tiles.{Tiles}
use Rattle.vc_seg.proofs.Frames.{field-front, lower, then-below}
use Rattle.vc_extent.proofs.Changed.{changed, here, within}
use Rattle.vc_extent.proofs.edit.split_in.Goals as goal

pub returns : goal.returns
returns c =
    let at = c.args.at in
    let o : Bytes = c.args.seg.now in
    let a : Bytes = c.lay_rest.new.seg in
    let n : Bytes = c.lay_free.new.seg in
    let e : Extent = extent_in (at + 16) (extents o.bytes) in
    let es : List Extent = behind (at + 16) (extents o.bytes) in
    let p = here c.requires.there in
    let w = within c.requires.there in
    let least = c.requires.least in
    let span : e.span ≡ c.span_in-whole.result = sym c.span_in-whole.ensures.value in
    let old : Tiles o.bytes (length o.bytes - 16) e.span (at + c.span_in-whole.result) es = subst (λ (k : ℕ). Tiles o.bytes (length o.bytes - 16) e.span (at + k) es) span p.rest in
    let one = c.lay_rest.ensures.tiles e.span es old in
    let two = c.lay_free.ensures.tiles (free_extent (at + 16 + c.args.bytes) (c.span_in-whole.result - c.args.bytes) no_links ∷ es) one in
    let list : ℕ → ℕ → List Extent = λ off k. free_extent off c.args.bytes no_links ∷ free_extent (off + c.args.bytes) (k - c.args.bytes) no_links ∷ es in
    let boundary : field_at (at + 12) a.bytes ≡ field_at (at + 12) o.bytes = field-front o.bytes a.bytes (at + c.args.bytes) c.lay_rest.ensures.rest.below (at + 12) (omega arith) in
    let three : Tiles n.bytes (length n.bytes - 16) (field_at (at + 12) o.bytes) at (list (at + 16) c.span_in-whole.result) = subst (λ (k : ℕ). Tiles n.bytes (length n.bytes - 16) k at (list (at + 16) c.span_in-whole.result)) boundary two in
    let four : Tiles n.bytes (length n.bytes - 16) (field_at (at + 12) o.bytes) at (list e.off e.span) =
    subst (λ (k : ℕ). Tiles n.bytes (length n.bytes - 16) (field_at (at + 12) o.bytes) at (list k e.span)) (sym w.off)
    (subst (λ (k : ℕ). Tiles n.bytes (length n.bytes - 16) (field_at (at + 12) o.bytes) at (list (at + 16) k)) (sym span) three) in
    changed o n at (split c.args.bytes) c.requires.there
    (then-below at o a n (lower (at + c.args.bytes) at o a c.lay_rest.ensures.rest (omega arith)) c.lay_free.ensures.rest) four
