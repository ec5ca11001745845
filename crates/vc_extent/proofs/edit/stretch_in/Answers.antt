use Rattle.vc_base.proofs.Common.{◌≡◌, ℕ, ◌+◌, ◌-◌, ◌≤◌, List, ◌∷◌, length, take, drop, sym, ◌∙◌, subst, arith, span}
use Rattle.vc_seg.specs.Segment.{Bytes}
use Rattle.vc_extent.specs.Extent.{Extent, busy_extent, extents, free_extent, no_links}
use Rattle.vc_extent.specs.Change.{behind, extent_in}
use Rattle.vc_seg.specs.Field.{field_at}
use Rattle.vc_extent.specs.Stretch.{IsStretched}
use Rattle.vc_extent.specs.Tiles.{Tiles}
use Rattle.vc_seg.proofs.Frames.{field-front, lower}
use Rattle.vc_extent.proofs.Changed.{here, within}
use Rattle.vc_extent.proofs.StretchedExtents.{fits-behind, rest-tiles, stretched, used-tiles}
use Rattle.vc_extent.proofs.edit.stretch_in.Goals as goal
use Rattle.vc_extent.proofs.edit.stretch_in.Goals.{After-lay_busy, After-lay_busy-2}

used : (c : After-lay_busy) → IsStretched c.args.seg.now c.lay_busy.new.seg c.args.at c.args.size
used c =
    let at = c.args.at in
    let o : Bytes = c.args.seg.now in
    let a : Bytes = c.set_boundary.new.seg in
    let n : Bytes = c.lay_busy.new.seg in
    let first = c.span_in-first.result in
    let second = c.span_behind.result in
    let p = here c.requires.there in
    let w = within c.requires.there in
    let bytes : span c.args.size ≡ first + second = sym c.span_of-bytes.ensures ∙ c.if-bytes-whole.true in
    let end = c.span_behind.ensures.within in
    let boundary : field_at (at + 12) a.bytes ≡ field_at (at + 12) o.bytes = field-front o.bytes a.bytes (at + (first + second) + 12) c.set_boundary.ensures.rest.below (at + 12) (omega arith) in
    stretched o a n at c.args.size c.requires.there c.requires.busy c.requires.some c.requires.above (omega arith)
    (lower (at + (first + second) + 12) (at + span c.args.size) o a c.set_boundary.ensures.rest (omega arith)) c.lay_busy.ensures.rest
    (used-tiles o a n at first second c.args.size c.tag_in-tag.result (take c.args.size (drop (at + 16) a.bytes)) (extent_in (at + 16) (extents o.bytes)) w.off c.span_in-first.ensures.value c.tag_in-tag.ensures boundary
    (behind (at + 16) (extents o.bytes)) c.requires.some c.span_behind.ensures.value bytes p.rest c.set_boundary.ensures.tiles c.lay_busy.ensures.tiles)

pub returns-then-bytes-whole-clause-stretched : goal.returns-then-bytes-whole-clause-stretched
returns-then-bytes-whole-clause-stretched c = used (goal.at.returns-then-bytes-whole-clause-stretched c).After-lay_busy

left : (c : After-lay_busy-2) → IsStretched c.args.seg.now c.lay_busy-2.new.seg c.args.at c.args.size
left c =
    let at = c.args.at in
    let o : Bytes = c.args.seg.now in
    let a : Bytes = c.lay_rest.new.seg in
    let n : Bytes = c.lay_busy-2.new.seg in
    let first = c.span_in-first.result in
    let second = c.span_behind.result in
    let whole : ℕ = first + second in
    let bytes = c.span_of-bytes.result in
    let is : bytes ≡ span c.args.size = c.span_of-bytes.ensures in
    let p = here c.requires.there in
    let w = within c.requires.there in
    let above = c.requires.above in
    let least = c.span_in-first.ensures.least in
    let value = c.span_in-first.ensures.value in
    let end : at + span c.args.size + 16 ≤ length o.bytes = fits-behind (behind (at + 16) (extents o.bytes)) (length o.bytes) at first second (extent_in (at + 16) (extents o.bytes)) (span c.args.size) value c.requires.some c.span_behind.ensures.value c.requires.fits c.span_behind.ensures.within in
    let boundary : field_at (at + 12) a.bytes ≡ field_at (at + 12) o.bytes = field-front o.bytes a.bytes (at + bytes) c.lay_rest.ensures.rest.below (at + 12) (omega arith) in
    let one : (p : ℕ) (xs : List Extent) → Tiles o.bytes (length o.bytes - 16) p (at + (first + second)) xs → Tiles a.bytes (length a.bytes - 16) (span c.args.size) (at + span c.args.size) (free_extent (at + 16 + span c.args.size) (first + second - span c.args.size) no_links ∷ xs) =
    λ p xs h. subst (λ (k : ℕ). Tiles a.bytes (length a.bytes - 16) k (at + k) (free_extent (at + 16 + k) (first + second - k) no_links ∷ xs)) is (c.lay_rest.ensures.tiles p xs h) in
    let two : (xs : List Extent) → Tiles a.bytes (length a.bytes - 16) (span c.args.size) (at + span c.args.size) xs → Tiles n.bytes (length n.bytes - 16) (field_at (at + 12) a.bytes) at (busy_extent (at + 16) (span c.args.size) c.args.size c.tag_in-tag.result (take c.args.size (drop (at + 16) a.bytes)) ∷ xs) =
    λ xs h.
    subst (λ (k : ℕ). Tiles n.bytes (length n.bytes - 16) (field_at (at + 12) a.bytes) at (busy_extent (at + 16) k c.args.size c.tag_in-tag.result (take c.args.size (drop (at + 16) a.bytes)) ∷ xs)) is
    (c.lay_busy-2.ensures.tiles xs (subst (λ (k : ℕ). Tiles a.bytes (length a.bytes - 16) k (at + k) xs) (sym is) h)) in
    stretched o a n at c.args.size c.requires.there c.requires.busy c.requires.some c.requires.above end
    (lower (at + bytes) (at + span c.args.size) o a c.lay_rest.ensures.rest (omega arith)) c.lay_busy-2.ensures.rest
    (rest-tiles o a n at first second c.args.size c.tag_in-tag.result (take c.args.size (drop (at + 16) a.bytes)) (extent_in (at + 16) (extents o.bytes)) w.off c.span_in-first.ensures.value c.tag_in-tag.ensures boundary
    (behind (at + 16) (extents o.bytes)) c.requires.some c.span_behind.ensures.value (λ q. c.if-bytes-whole.false (is ∙ q)) p.rest one two)

pub returns-clause-stretched : goal.returns-clause-stretched
returns-clause-stretched c = left (goal.at.returns-clause-stretched c).After-lay_busy-2
