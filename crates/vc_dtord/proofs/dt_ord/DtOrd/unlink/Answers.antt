use Rattle.vc_base.proofs.Common.{rules}
use Rattle.vc_dtord.proofs.dt_ord.DtOrd.unlink.Goals as goal

pub returns-clause-list : goal.returns-clause-list
returns-clause-list g c = record {
  change = λ kind xs s. let turned = c.unlink_in.ensures.list.change kind xs s in search rules;
  rest = let stays = c.unlink_in.ensures.list.rest in search rules;
}
