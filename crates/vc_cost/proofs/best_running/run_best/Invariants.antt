use Rattle.vc_base.proofs.Common.{◌≡◌, ◌≤◌, take, length, vec_capacity, vec_len}
use Rattle.vc_model.specs.Discipline.{Discipline}
use Rattle.vc_cost.proofs.BestRunLemmas.{AreBestsMade}
use Rattle.vc_cost.proofs.best_running.run_best.Given as goal

abbrev meaning : (g : goal.Over) → (x : g.dyn-1.0.I) × (g.dyn-1.0.entry x).0.Denot → Discipline
meaning g p = (g.dyn-1.0.entry p.0).1.state p.1

-- the calls so far were made, and the list of live blocks has room for those that are left
abbrev pub invariant-loop-call : goal.invariant-loop-call
invariant-loop-call g l =
    record {
      made : AreBestsMade (meaning g) (take l.call-index l.call-items) l.initial.best l.best l.live.items l.greatest l.initial.steps l.steps;
      counted : l.made ≡ l.call-index;
      few : vec_len l.live ≤ l.call-index;
      room : length l.call-items ≤ vec_capacity l.live;
    }
