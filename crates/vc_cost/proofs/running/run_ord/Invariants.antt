use Rattle.vc_base.proofs.Common.{◌≤◌, drop}
use Rattle.vc_cost.proofs.RunLemmas.{AreLeft}
use Rattle.vc_cost.proofs.running.run_ord.Given as goal

-- the calls so far were made, each of which counted at most one
abbrev pub invariant-loop-call : goal.invariant-loop-call
invariant-loop-call g l =
    let blocks = g.C.Cells.blocks in
    record {
      left : AreLeft (g.D.DictDisc.rules l.kind) l.call-items (drop l.call-index l.call-items) l.initial.ord (blocks l.initial.cells) l.initial.steps l.ord (blocks l.cells) l.steps l.tally.count l.tally.greatest l.tally.found;
      rest : g.C.Cells.RestStays l.initial.cells l.cells;
      few : l.tally.count ≤ l.call-index;
      few_found : l.tally.found ≤ l.call-index;
    }
