use Rattle.vc_base.proofs.Common.{rules}
use Rattle.vc_dtord.proofs.dt_ord.DtOrd.link.Goals as goal

pub returns-clause-list : goal.returns-clause-list
returns-clause-list g c = record {
  change = λ xs s. let turned = (c.link_in.ensures.linked.change xs s).0 in search rules;
  rest = let stays = c.link_in.ensures.linked.rest in search rules;
}

pub returns-clause-steps : goal.returns-clause-steps
returns-clause-steps g c = λ xs s. (c.link_in.ensures.linked.change xs s).1
