use Rattle.vc_base.proofs.Common.{ℕ, List}
use Rattle.vc_dtlist.specs.Linked.{StandsFor}
use Rattle.vc_dtlist.specs.Sought.{stands_so}
use Rattle.vc_dtlist.proofs.FindLemmas.{Walked}
use Rattle.vc_dtlist.proofs.dt_list.DtList.seek.Given as goal

abbrev pub invariant-loop-passed : goal.invariant-loop-passed
invariant-loop-passed g l =
    (holders : List ℕ) → StandsFor l.self (g.C.Cells.blocks l.cells) holders
    → Walked (stands_so l.sought (g.D.DictDisc.rules l.kind) (g.C.Cells.blocks l.cells) l.key) holders l._passed l.at.0 l.initial.steps l.steps
