use Rattle.vc_base.proofs.Common.{ℕ, List}
use Rattle.vc_dthash.specs.Chained.{IsChainPlace}
use Rattle.vc_dthash.proofs.WalkLemmas.{Passing}
use Rattle.vc_dthash.proofs.chains.seek_before.Given as goal

abbrev pub invariant-loop-passed : goal.invariant-loop-passed
invariant-loop-passed g l =
    (front rest : List ℕ) → IsChainPlace (g.C.Cells.blocks l.cells) l.fn.table.0 l.fn.k l.fn.count l.fn.stop.0 front rest
    → Passing (g.C.Cells.blocks l.cells) front rest l._passed l.at.0 l.behind.0
