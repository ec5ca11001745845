use Rattle.vc_base.proofs.Common.{◌*◌, map, length, arith}
use Rattle.vc_best.proofs.Common.{pair_of}
use Rattle.vc_best.proofs.Costs.{cost_from, cost_within, still_cost, then_cost}
use Rattle.vc_best.proofs.compact.compact.Goals as goal

pub returns-clause-cost : goal.returns-clause-cost
returns-clause-cost g c =
    let e = c.args.extents.now in
    let n = length (map pair_of e.segs.items) in
    let read = c.mark_occupied.new.steps in
    cost_within
    (then_cost c.requires.kept.gaps (still_cost _ _ e.kept c.args.root.now.0 c.args.steps.now read 0 n 0 c.mark_occupied.ensures.most_steps)
    (cost_from read c.give_back_unmarked.ensures.cost))
    (12 * c.give_back_unmarked.result) n 0 (omega arith) (omega arith) (omega arith)
