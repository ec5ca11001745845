use Rattle.vc_base.proofs.Common.{◌+◌, sym, ap, ◌∙◌}
use Rattle.vc_extent.specs.Change.{link_in}
use Rattle.vc_extent.proofs.Bodies.{link-is, links-there}
use Rattle.vc_extent.proofs.body.link_at.Goals as goal

pub returns : goal.returns
returns c = c.field.ensures ∙ (link-is c.args.seg.now.bytes (c.args.at + 16) c.args.k c.requires.k ∙ ap (link_in c.args.k) (sym (links-there c.requires.free.there c.requires.free.free)))
