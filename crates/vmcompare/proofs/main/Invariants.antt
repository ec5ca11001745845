use Rattle.vc_base.proofs.Common.{◌≡◌, vec_len}
use Rattle.vmcompare.proofs.main.Given as goal

-- a discipline was put for each number
abbrev pub invariant-loop-put : goal.invariant-loop-put
invariant-loop-put l = vec_len l.shelf.slots ≡ l._put
