use Rattle.vc_extent.proofs.Bodies.{link-changed}
use Rattle.vc_extent.proofs.body.set_link_at.Goals as goal

pub returns : goal.returns
returns c = link-changed c.args.seg.now c.set_field.new.self c.args.at c.args.k c.args.v c.requires.free.there c.requires.free.free c.requires.k c.set_field.ensures.value c.set_field.ensures.rest
