use Rattle.vc_dict.proofs.MatchLemmas.{Placed, Trail}
use Rattle.vc_dict.proofs.matching.last_in_list.Given as goal

abbrev pub invariant-loop-passed : goal.invariant-loop-passed
invariant-loop-passed g l =
    (p : Placed l.list (g.C.Cells.blocks l.cells) l.fn.at.0)
    → Trail (g.D.DictDisc.rules l.kind) (g.C.Cells.blocks l.cells) l.fn.at.0 p.rest l._passed l.next l.last.0 l.initial.steps l.steps
