use Rattle.vc_base.proofs.Common.{Some, sym, ap, ◌∙◌}
use Rattle.vc_commands.specs.Labels.{line_in}
use Rattle.vc_commands.proofs.FreedNames.{line-among}
use Rattle.vc_commands.proofs.region.labels.Labels.freed.Goals as goal

pub returns-in-Some-Live : goal.returns-in-Some-Live
returns-in-Some-Live c =
    sym (line-among c.args.name.now c.args.self.now.tags.entries ∙ ap line_in (sym c.in-Some-Live.ensures.value ∙ ap (λ k. Some k) c.in-Some-Live.field-0-is))

pub returns-in-Some-Freed : goal.returns-in-Some-Freed
returns-in-Some-Freed c =
    sym (line-among c.args.name.now c.args.self.now.tags.entries ∙ ap line_in (sym c.in-Some-Freed.ensures.value ∙ ap (λ k. Some k) c.in-Some-Freed.field-0-is))

pub returns-in-None : goal.returns-in-None
returns-in-None c = sym (line-among c.args.name.now c.args.self.now.tags.entries ∙ ap line_in (sym c.in-None.ensures.value))
