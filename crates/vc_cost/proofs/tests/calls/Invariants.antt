use Rattle.vc_base.proofs.Common.{◌≤◌, All, AreDistinct}
use Rattle.vc_cost.specs.Calls.{linked}
use Rattle.vc_cost.proofs.tests.calls.Given as goal

abbrev pub invariant-loop-number : goal.invariant-loop-number
invariant-loop-number l = AreDistinct (linked l.calls) × All (λ a. (1 ≤ a) × (a ≤ l.number)) (linked l.calls)

abbrev pub invariant-loop-number-2 : goal.invariant-loop-number-2
invariant-loop-number-2 l = AreDistinct (linked l.calls) × All (λ a. (1 ≤ a) × (a ≤ l.count)) (linked l.calls)
