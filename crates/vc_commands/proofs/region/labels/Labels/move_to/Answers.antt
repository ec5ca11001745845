use Rattle.vc_base.proofs.Common.{sym, ◌∙◌}
use Rattle.vc_commands.proofs.Agreeing.{agree-moved}
use Rattle.vc_commands.proofs.region.labels.Labels.move_to.Goals as goal

pub returns-clause-agree : goal.returns-clause-agree
returns-clause-agree c = agree-moved c.args.self.now c.put_at.new.self c.in-Some.tag (record { name = c.args.name.now; at = c.args.at }) c.requires.agree (sym c.tag.ensures ∙ c.in-Some.is) c.put_at.ensures.moves c.put_at.ensures.tags
