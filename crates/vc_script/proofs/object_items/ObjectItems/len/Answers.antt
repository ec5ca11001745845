use Rattle.vc_base.proofs.Common.{ap, length, sym, ◌∙◌}
use Rattle.vc_script.proofs.EndSteps.{length-objects}
use Rattle.vc_script.proofs.object_items.ObjectItems.len.Goals as goal

pub returns : goal.returns
returns c =
    c.len.ensures ∙ c.self.inside.ends.ok.0 ∙ sym (length-objects 0 c.self.inside.bytes.items c.self.inside.ends.items)
    ∙ ap length c.self.view_is
