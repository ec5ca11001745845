use Rattle.vc_base.proofs.Common.{ℕ, List}
use Rattle.vc_dtlist.specs.Linked.{IsPlain, LinksFor}
use Rattle.vc_dthash.proofs.MarkLemmas.{Marking}
use Rattle.vc_dthash.proofs.chains.free_all.Given as goal

abbrev pub invariant-loop-passed : goal.invariant-loop-passed
invariant-loop-passed g l =
    ((holders : List ℕ) → LinksFor l.fn.list (g.C.Cells.blocks l.initial.cells) holders → Marking IsPlain (g.C.Cells.blocks l.initial.cells) (g.C.Cells.blocks l.cells) holders l._passed l.at.0)
    × (g.C.Cells.RestStays l.initial.cells l.cells)
