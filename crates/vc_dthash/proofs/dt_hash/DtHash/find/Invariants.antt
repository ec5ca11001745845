use Rattle.vc_base.proofs.Common.{ℕ, List}
use Rattle.vc_dthash.specs.Hashed.{HashFor}
use Rattle.vc_dthash.proofs.WalkLemmas.{SlotWalk}
use Rattle.vc_dthash.proofs.dt_hash.DtHash.find.Given as goal

abbrev pub invariant-loop-passed : goal.invariant-loop-passed
invariant-loop-passed g l =
    (holders : List ℕ) → HashFor (g.D.DictDisc.rules l.kind) l.self (g.C.Cells.blocks l.cells) holders
    → SlotWalk (g.D.DictDisc.rules l.kind) l.self.table.0 l.self.slots (g.C.Cells.blocks l.cells) l.key holders l._passed l.at.0 l.initial.steps l.steps
