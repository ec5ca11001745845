use Rattle.vc_base.proofs.Common.{rules}
use Rattle.vc_dtord.proofs.dt_ord.DtOrd.at_least.Goals as goal

pub returns-clause-found : goal.returns-clause-found
returns-clause-found g c = λ xs s. (c.at_least_in-at.ensures.found.change xs s).0

pub returns-clause-list : goal.returns-clause-list
returns-clause-list g c = record {
  change = λ xs s. let turned = (c.at_least_in-at.ensures.found.change xs s).1 in search rules;
  rest = let stays = c.at_least_in-at.ensures.found.rest in search rules;
}
