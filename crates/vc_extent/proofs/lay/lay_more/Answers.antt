use Rattle.vc_base.proofs.Common.{◌≡◌, ℕ, ◌+◌, ◌-◌, [], ◌∷◌, length, take, replicate, sym, ap, ◌∙◌, subst, arith, length-append, length-replicate, IsSegmentSize}
use Rattle.std.proofs.lemmas.List.{take-append-le}
use Rattle.vc_seg.specs.Field.{field_at}
use Rattle.vc_seg.specs.Frame.{StaysBelow}
use Rattle.vc_seg.specs.Segment.{Bytes}
use Rattle.vc_extent.specs.Change.{last_span}
use Rattle.vc_extent.specs.Extent.{extents, free_extent, no_links}
use Rattle.vc_extent.specs.Tiles.{Tiles}
use Rattle.vc_seg.proofs.Frames.{only-below, then-below}
use Rattle.vc_extent.proofs.Widens.{widened}
use Rattle.vc_extent.proofs.lay.lay_more.Goals as goal

pub returns : goal.returns
returns c =
    λ old tiled last is.
    let o : Bytes = c.args.seg.now in
    let a : Bytes = c.set_field.new.self in
    let n : Bytes = c.lay_free.new.seg in
    let more = c.args.more in
    let at : ℕ = c.size.result - more - 16 in
    let least = tiled.size.least in
    let long : length o.bytes ≡ length old.bytes + more = ap (λ (b : Bytes). length b.bytes) is ∙ (length-append old.bytes (replicate more 0) ∙ ap (λ k. length old.bytes + k) (length-replicate {A = ℕ} more 0)) in
    let whole : c.size.result ≡ length o.bytes = c.size.ensures.value in
    let end : at ≡ length old.bytes - 16 = omega (arith, whole, long) in
    let first : StaysBelow at o a = only-below (at + 12) (at + 12 + 4) at o a c.set_field.ensures.rest (omega arith) in
    let rest : StaysBelow at o n = then-below at o a n first c.lay_free.ensures.rest in
    let front : take at n.bytes ≡ take at old.bytes = rest.below ∙ (ap (λ (b : Bytes). take at b.bytes) is ∙ take-append-le at old.bytes (replicate more 0) (omega (arith, end))) in
    let stop : at + more ≡ length a.bytes - 16 = omega (arith, end, long, first.len, least) in
    let laid : Tiles n.bytes (length n.bytes - 16) (field_at (at + 12) a.bytes) at (free_extent (at + 16) more no_links ∷ []) = c.lay_free.ensures.tiles [] stop in
    let before : field_at (at + 12) a.bytes ≡ last_span 0 (extents old.bytes) = c.set_field.ensures.value ∙ last in
    let name : at + 16 ≡ length old.bytes = omega (arith, end, least) in
    widened more old n tiled (subst IsSegmentSize (whole ∙ sym rest.len) c.size.ensures.legal) (rest.number ∙ ap (λ (b : Bytes). b.number) is) (rest.len ∙ long) (subst (λ (k : ℕ). take k n.bytes ≡ take k old.bytes) end front)
    (subst (λ (k : ℕ). Tiles n.bytes (length n.bytes - 16) (last_span 0 (extents old.bytes)) (length old.bytes - 16) (free_extent k more no_links ∷ [])) name
    (subst (λ (k : ℕ). Tiles n.bytes (length n.bytes - 16) (last_span 0 (extents old.bytes)) k (free_extent (at + 16) more no_links ∷ [])) end
    (subst (λ (p : ℕ). Tiles n.bytes (length n.bytes - 16) p at (free_extent (at + 16) more no_links ∷ [])) before laid)))
