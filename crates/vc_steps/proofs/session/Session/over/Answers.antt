use Rattle.vc_base.proofs.Common.{◌∙◌}
use Rattle.vc_steps.proofs.NewSession.{new-stands}
use Rattle.vc_steps.proofs.session.Session.over.Goals as goal

pub returns-clause-stands : goal.returns-clause-stands
returns-clause-stands g c = λ shelf kinds.
    new-stands _ g.D.DictDisc.rules shelf _ kinds (
      c.of_parts.ensures.homes ∙ c.requires,
      c.of_parts.ensures.labels ∙ c.new-2.ensures.items,
      c.of_parts.ensures.dicts ∙ c.new-3.ensures.empty,
      c.of_parts.ensures.paths ∙ c.in_ok-paths.ensures,
    )
