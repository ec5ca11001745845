use Rattle.vc_base.proofs.Common.{arith}
use Rattle.vc_best.proofs.Costs.{still_cost}
use Rattle.vc_best.proofs.tree.link_some.Goals as goal

pub returns-in_default-clause-cost : goal.returns-in_default-clause-cost
returns-in_default-clause-cost g c = still_cost _ _ c.args.extents.now.kept c.args.root.now.0 c.args.steps.now c.args.steps.now 8 1 1 (omega arith)

pub returns-in_default-clause-none : goal.returns-in_default-clause-none
returns-in_default-clause-none g c = λ none. still_cost _ _ c.args.extents.now.kept c.args.root.now.0 c.args.steps.now c.args.steps.now 0 0 0 (omega arith)
