use Rattle.vc_base.proofs.Common.{◌+◌, ap, ◌∙◌}
use Rattle.vc_seg.specs.Field.{field_at}
use Rattle.vc_image_check.specs.Laws.Lying.{lies}
use Rattle.vc_image_check.proofs.gaps.free_extents.FreeExtentsLinks.up.Goals as goal

pub returns : goal.returns
returns c = c.word.ensures ∙ ap (λ z. field_at (z + 8) c.args.self.now.image.now) c.start.ensures.value ∙ (lies _ _ _ c.args.self.now.known c.args.n c.requires).third
