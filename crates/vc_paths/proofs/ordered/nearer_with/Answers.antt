use Rattle.vc_base.proofs.Common.{true, false}
use Rattle.vc_paths.proofs.PastLemmas.{nearer_end}
use Rattle.vc_paths.proofs.ordered.nearer_with.Goals as goal

pub returns-then-is_past-clause-object : goal.returns-then-is_past-clause-object
returns-then-is_past-clause-object g c = nearer_end c.args.back c.args.best true c.first_past.ensures.unchanged.layers c.in-Some.ensures.found c.if-is_past.ensures

pub returns-else-is_past-clause-object : goal.returns-else-is_past-clause-object
returns-else-is_past-clause-object g c = nearer_end c.args.back c.args.best false c.first_past.ensures.unchanged.layers c.in-Some.ensures.found c.if-is_past.ensures
