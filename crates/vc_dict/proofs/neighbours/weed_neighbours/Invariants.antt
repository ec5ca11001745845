use Rattle.vc_base.proofs.Common.{ℕ, ◌+◌, ◌≤◌, List}
use Rattle.vc_dtlist.specs.Linked.{StandsFor}
use Rattle.vc_dict.specs.Weeding.{NeighbourWeeding}
use Rattle.vc_dict.proofs.neighbours.weed_neighbours.Given as goal

abbrev pub invariant-loop-passed : goal.invariant-loop-passed
invariant-loop-passed g l =
    record {
      weeding : (holders : List ℕ) → StandsFor l.fn.list (g.C.Cells.blocks l.initial.cells) holders → NeighbourWeeding (g.D.DictDisc.rules l.kind) (g.C.Cells.blocks l.initial.cells) holders l._passed l.left l.weeded (g.C.Cells.blocks l.cells);
      steps : l.steps ≤ l.initial.steps + l._passed;
      rest : g.C.Cells.RestStays l.initial.cells l.cells;
    }
