use Rattle.vc_base.proofs.Common.{◌+◌, ◌≤◌}
use Rattle.vc_image_check.proofs.Rising.{Walked}
use Rattle.vc_image_check.proofs.lists.ascending.is_ascending.Given as goal

abbrev pub invariant-loop-i : goal.invariant-loop-i
invariant-loop-i g l = record {
  order : Walked (g.D.DictDisc.rules l.kind) (g.met.D.DictDisc.lawful l.kind).order (g.N.Holders.blocks l.nodes) l.alone l.names l.i;
  steps : l.steps + 1 ≤ l.initial.steps + l.i;
}
