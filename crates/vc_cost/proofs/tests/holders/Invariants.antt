use Rattle.vc_base.proofs.Common.{◌≡◌, ◌+◌, All, length}
use Rattle.vc_cost.proofs.tests.holders.Given as goal

abbrev pub invariant-loop-number : goal.invariant-loop-number
invariant-loop-number l = record {
  all : length l.held.items ≡ l.number + 1;
  sized : All (λ bytes. length bytes ≡ 36) l.held.items;
}
