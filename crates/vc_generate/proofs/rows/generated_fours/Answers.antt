use Rattle.vc_generate.proofs.Four.{generated-blocks, generated-objects}
use Rattle.vc_generate.proofs.rows.generated_fours.Goals as goal

pub returns-clause-blocks : goal.returns-clause-blocks
returns-clause-blocks c = generated-blocks

pub returns-clause-objects : goal.returns-clause-objects
returns-clause-objects c = generated-objects
