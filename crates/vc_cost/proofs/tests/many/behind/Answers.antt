use Rattle.vc_base.proofs.Common.{take_rest}
use Rattle.vc_cost.proofs.tests.many.behind.Goals as goal

pub returns : goal.returns
returns c = take_rest c.args.bytes.now 32
