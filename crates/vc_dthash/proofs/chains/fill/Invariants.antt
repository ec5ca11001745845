use Rattle.vc_base.proofs.Common.{ℕ, List}
use Rattle.vc_dtlist.specs.Linked.{LinksFor}
use Rattle.vc_dthash.proofs.FillLemmas.{Filling}
use Rattle.vc_dthash.proofs.chains.fill.Given as goal

abbrev pub invariant-loop-passed : goal.invariant-loop-passed
invariant-loop-passed g l =
    ((holders : List ℕ) → LinksFor l.fn.list (g.C.Cells.blocks l.initial.cells) holders → Filling (g.C.Cells.blocks l.initial.cells) (g.C.Cells.blocks l.cells) l.fn.table.0 l.fn.slots holders l._passed l.at.0)
    × (g.C.Cells.RestStays l.initial.cells l.cells)
