use Rattle.vc_dthash.specs.ChainWrites.{Cleared}
use Rattle.vc_dthash.proofs.chains.clear.Given as goal

abbrev pub invariant-loop-k : goal.invariant-loop-k
invariant-loop-k g l = Cleared (g.C.Cells.blocks l.initial.cells) (g.C.Cells.blocks l.cells) l.fn.table.0 l.k × (g.C.Cells.RestStays l.initial.cells l.cells)
