use Rattle.vc_base.proofs.Common.{◌≡◌, ◌+◌, vec_len}
use Rattle.kolbista_c.proofs.own_shelf.on_own_shelf.Given as goal

-- a discipline was put for each number
abbrev pub invariant-loop-i : goal.invariant-loop-i
invariant-loop-i l = vec_len l.shelf.slots ≡ l.i

-- and those with a budget behind twelve
abbrev pub invariant-loop-j : goal.invariant-loop-j
invariant-loop-j l = vec_len l.shelf.slots ≡ 12 + l.j
