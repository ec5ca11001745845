use Rattle.vc_base.proofs.Common.{sym, ◌∙◌}
use Rattle.vc_extent.proofs.Changed.{within}
use Rattle.vc_extent.proofs.read.tag_in.Goals as goal

pub returns : goal.returns
returns c = c.field.ensures ∙ sym (within c.requires.there).tag
