use Rattle.vc_base.proofs.Common.{◌≡◌, ℕ, ◌+◌, List, ◌∷◌, take, drop, sym, ap, ◌∙◌, take-take}
use Rattle.vc_extent.specs.Extent.{Extent, busy_extent, extents}
use Rattle.vc_extent.specs.Change.{behind, extent_in, set_size}
use Rattle.vc_extent.proofs.Changed.{within}
use Rattle.vc_extent.proofs.MarkedExtents.{laid-body, laid-changes, laid-length}
use Rattle.vc_extent.proofs.edit.set_size_in.Goals as goal

-- the tag that was read is that of the extent
retagged : (e : Extent) (es : List Extent) (size tag : ℕ) → tag ≡ e.tag → (b : List ℕ) → set_size size b e es ≡ busy_extent e.off e.span size tag b ∷ es
retagged e es size tag is b = ap (λ t. busy_extent e.off e.span size t b ∷ es) (sym is)

pub returns-clause-change : goal.returns-clause-change
returns-clause-change c = laid-changes c.args.seg.now c.lay_busy.new.seg c.args.at c.span_in-bytes.result c.args.size c.tag_in-tag.result (set_size c.args.size) c.requires.there c.span_in-bytes.ensures.value (c.requires.span ∙ sym c.span_in-bytes.ensures.value) (retagged (extent_in (c.args.at + 16) (extents c.args.seg.now.bytes)) (behind (c.args.at + 16) (extents c.args.seg.now.bytes)) c.args.size c.tag_in-tag.result c.tag_in-tag.ensures) c.lay_busy.ensures.rest c.lay_busy.ensures.tiles

pub returns-clause-len : goal.returns-clause-len
returns-clause-len c = laid-length c.args.seg.now c.lay_busy.new.seg c.args.at c.span_in-bytes.result c.args.size c.tag_in-tag.result (set_size c.args.size) c.requires.there c.span_in-bytes.ensures.value (c.requires.span ∙ sym c.span_in-bytes.ensures.value) (retagged (extent_in (c.args.at + 16) (extents c.args.seg.now.bytes)) (behind (c.args.at + 16) (extents c.args.seg.now.bytes)) c.args.size c.tag_in-tag.result c.tag_in-tag.ensures) c.lay_busy.ensures.rest c.lay_busy.ensures.tiles

pub returns-clause-kept : goal.returns-clause-kept
returns-clause-kept c =
    λ k new old.
    let w = within c.requires.there in
    ap (take k) (laid-body c.args.seg.now c.lay_busy.new.seg c.args.at c.span_in-bytes.result c.args.size c.tag_in-tag.result (set_size c.args.size) c.requires.there c.span_in-bytes.ensures.value (c.requires.span ∙ sym c.span_in-bytes.ensures.value) (retagged (extent_in (c.args.at + 16) (extents c.args.seg.now.bytes)) (behind (c.args.at + 16) (extents c.args.seg.now.bytes)) c.args.size c.tag_in-tag.result c.tag_in-tag.ensures) c.lay_busy.ensures.rest c.lay_busy.ensures.tiles)
    ∙ (take-take k c.args.size (drop (c.args.at + 16) c.args.seg.now.bytes) new ∙ sym (ap (take k) w.body ∙ take-take k (extent_in (c.args.at + 16) (extents c.args.seg.now.bytes)).size (drop (c.args.at + 16) c.args.seg.now.bytes) old))
