use Rattle.vc_base.proofs.Common.{true, false}
use Rattle.vc_paths.proofs.PastLemmas.{nearer_end}
use Rattle.vc_algebra.proofs.ranges.nearer_from.Goals as goal

pub returns-then-is_before-clause-object : goal.returns-then-is_before-clause-object
returns-then-is_before-clause-object g c = nearer_end false c.args.best true c.first_from.ensures.unchanged.layers c.in-Some.ensures.found c.if-is_before.ensures

pub returns-else-is_before-clause-object : goal.returns-else-is_before-clause-object
returns-else-is_before-clause-object g c = nearer_end false c.args.best false c.first_from.ensures.unchanged.layers c.in-Some.ensures.found c.if-is_before.ensures
