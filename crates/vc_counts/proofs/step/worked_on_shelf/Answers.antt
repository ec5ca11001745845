use Rattle.vc_base.proofs.Common.{sym}
use Rattle.vc_counts.proofs.FoundHome.{shelf-worked}
use Rattle.vc_counts.proofs.step.worked_on_shelf.Goals as goal

pub returns-in_default : goal.returns-in_default
returns-in_default c = sym (shelf-worked c.args.command.now c.requires c.in_default.not-OpenDict c.in_default.not-CloseRegion)
