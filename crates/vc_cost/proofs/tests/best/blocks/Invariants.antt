use Rattle.std.proofs.Common.{All}
use Rattle.vc_cost.specs.BestCalls.{HasSize}
use Rattle.vc_cost.proofs.tests.best.blocks.Given as goal

abbrev pub invariant-loop : goal.invariant-loop
invariant-loop l = All HasSize l.calls

abbrev pub invariant-loop-n : goal.invariant-loop-n
invariant-loop-n l = All HasSize l.calls

abbrev pub invariant-loop-n-2 : goal.invariant-loop-n-2
invariant-loop-n-2 l = All HasSize l.calls
