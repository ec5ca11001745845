use Rattle.vc_base.proofs.Common.{Ok}
use Rattle.vc_script.specs.declared.line_fault.LineFault.TheVariants.{LineTooLong, TooManyLines}
use Rattle.vc_script.proofs.ProperCommands.{not_bad}
use Rattle.vc_script.proofs.parse.read_line.Goals as goal

pub returns-clause-not_too_long : goal.returns-clause-not_too_long
returns-clause-not_too_long c = not_bad c.args.first LineTooLong (Ok c.read_into.new.asked) c.in_ok-read_into.ensures.proper (λ h. h)

pub returns-clause-not_too_many : goal.returns-clause-not_too_many
returns-clause-not_too_many c = not_bad c.args.first TooManyLines (Ok c.read_into.new.asked) c.in_ok-read_into.ensures.proper (λ h. h)
