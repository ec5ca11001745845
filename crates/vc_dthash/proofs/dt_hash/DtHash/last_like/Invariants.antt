use Rattle.vc_dthash.proofs.TrailLemmas.{Standing, Trail, tail_of}
use Rattle.vc_dthash.proofs.dt_hash.DtHash.last_like.Given as goal

abbrev pub invariant-loop-passed : goal.invariant-loop-passed
invariant-loop-passed g l =
    (p : Standing (g.D.DictDisc.rules l.kind) l.self (g.C.Cells.blocks l.cells) l.fn.at.0)
    → Trail (g.D.DictDisc.rules l.kind) (g.C.Cells.blocks l.cells) l.fn.at.0
    (tail_of (g.D.DictDisc.rules l.kind) l.self.slots (g.C.Cells.blocks l.cells) l.fn.at.0 p.rest) l._passed l.next.0 l.last.0 l.initial.steps l.steps
