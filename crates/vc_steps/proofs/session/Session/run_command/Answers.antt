use Rattle.vc_base.proofs.Common.{◌≡◌, Some, ap}
use Rattle.vc_commands.specs.Answered.{answered}
use Rattle.vc_script.specs.Target.{dict_at}
use Rattle.vc_steps.specs.Dicts.{dict_of, dict_step}
use Rattle.vc_steps.specs.Step.{step, step_on}
use Rattle.vc_steps.proofs.Steps.{steps-as}
use Rattle.vc_steps.proofs.session.Session.run_command.Goals as goal

pub returns-in-Some-clause-steps : goal.returns-in-Some-clause-steps
returns-in-Some-clause-steps g c =
    let is : dict_of c.args.command.now ≡ Some c.in-Some.name.now = ap dict_at c.in-Some.ensures in
    steps-as (answered c.run_on_dict.result c.run_on_dict.new.reply) _ _ c.args.command.now (λ s. dict_step s c.in-Some.name.now c.args.command.now) (λ s. step s c.args.line c.args.command.now)
    (λ s need. ap (step_on s c.args.line c.args.command.now need) is) c.run_on_dict.ensures.steps
