use Rattle.vc_base.proofs.Common.{arith}
use Rattle.vc_script.specs.declared.tool.Tool.TheVariants.{Dtrun, Vmreplay}
use Rattle.vc_generate.proofs.CommandSteps.{length-generated}
use Rattle.vc_generate.proofs.Pairing.{paired_generated}
use Rattle.vc_generate.proofs.ProperGenerated.{proper_generated}
use Rattle.vc_generate.proofs.rows.generated_commands.Goals as goal

pub returns-clause-vmreplay : goal.returns-clause-vmreplay
returns-clause-vmreplay c count seed = omega (arith, length-generated Vmreplay count seed)

pub returns-clause-dtrun : goal.returns-clause-dtrun
returns-clause-dtrun c count seed = omega (arith, length-generated Dtrun count seed)

pub returns-clause-proper : goal.returns-clause-proper
returns-clause-proper c = proper_generated

pub returns-clause-paired : goal.returns-clause-paired
returns-clause-paired c = paired_generated
