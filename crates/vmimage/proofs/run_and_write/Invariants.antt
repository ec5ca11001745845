use Rattle.vc_base.proofs.Common.{◌≡◌, ◌+◌, vec_len}
use Rattle.vmimage.proofs.run_and_write.Given as goal

-- a discipline was put for each number
abbrev pub invariant-loop-i : goal.invariant-loop-i
invariant-loop-i l = vec_len l.shelf.slots ≡ l.i

-- and one with a budget behind twelve others
abbrev pub invariant-loop-budgeted : goal.invariant-loop-budgeted
invariant-loop-budgeted l = vec_len l.shelf.slots ≡ 12 + l._budgeted
