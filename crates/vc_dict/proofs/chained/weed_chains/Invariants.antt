use Rattle.vc_base.proofs.Common.{ℕ, List}
use Rattle.vc_dtlist.specs.Linked.{StandsFor}
use Rattle.vc_dthash.specs.Hashed.{list_of}
use Rattle.vc_dict.specs.Weeding.{ChainWeeding}
use Rattle.vc_dict.proofs.chained.weed_chains.Given as goal

abbrev pub invariant-loop-passed : goal.invariant-loop-passed
invariant-loop-passed g l =
    record {
      weeding : (holders : List ℕ) → StandsFor (list_of l.fn.hash) (g.C.Cells.blocks l.fn.cells) holders
          → ChainWeeding (g.D.DictDisc.rules l.kind) l.fn.hash (g.C.Cells.blocks l.fn.cells) holders l._passed l.left l.kept l.dropped (g.C.Cells.blocks l.cells) l.initial.steps l.steps;
      rest : g.C.Cells.RestStays l.fn.cells l.cells;
    }
