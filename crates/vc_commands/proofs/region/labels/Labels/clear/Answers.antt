use Rattle.vc_base.proofs.Common.{sym, ap, ◌∙◌}
use Rattle.vc_commands.specs.Labels.{line_left}
use Rattle.vc_commands.proofs.Agreeing.{lines-left, no-labels, no-names}
use Rattle.vc_commands.proofs.region.labels.Labels.clear.Goals as goal

pub returns-then-keeps-clause-count : goal.returns-then-keeps-clause-count
returns-then-keeps-clause-count c = no-labels c.keep_all.new.self c.keep_all.ensures.no_tags

pub returns-then-keeps-clause-kept : goal.returns-then-keeps-clause-kept
returns-then-keeps-clause-kept c = λ x.
    let e = c.keep_all.ensures in
    lines-left c.args.self.now c.keep_all.new.self c.args.line (no-names c.keep_all.new.self e.agree e.no_tags) e.frees x
    ∙ ap (λ b. line_left c.args.self.now b c.args.line x) (sym c.if-keeps.true)
