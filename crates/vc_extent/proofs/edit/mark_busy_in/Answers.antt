use Rattle.vc_base.proofs.Common.{sym, refl, ◌∙◌}
use Rattle.vc_extent.specs.Change.{mark_busy}
use Rattle.vc_extent.proofs.MarkedExtents.{laid-changes, laid-length}
use Rattle.vc_extent.proofs.edit.mark_busy_in.Goals as goal

pub returns-clause-change : goal.returns-clause-change
returns-clause-change c = laid-changes c.args.seg.now c.lay_busy.new.seg c.args.at c.span_in-bytes.result c.args.size c.args.tag (mark_busy c.args.size c.args.tag) c.requires.there c.span_in-bytes.ensures.value (c.requires.span ∙ sym c.span_in-bytes.ensures.value) (λ b. refl) c.lay_busy.ensures.rest c.lay_busy.ensures.tiles

pub returns-clause-len : goal.returns-clause-len
returns-clause-len c = laid-length c.args.seg.now c.lay_busy.new.seg c.args.at c.span_in-bytes.result c.args.size c.args.tag (mark_busy c.args.size c.args.tag) c.requires.there c.span_in-bytes.ensures.value (c.requires.span ∙ sym c.span_in-bytes.ensures.value) (λ b. refl) c.lay_busy.ensures.rest c.lay_busy.ensures.tiles
