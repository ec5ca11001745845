use Rattle.vc_base.proofs.Common.{[], refl}
use Rattle.vc_dtlist.proofs.TurnLemmas.{apart_in}
use Rattle.vc_dtlist.proofs.dt_list.DtList.push_front.Goals as goal

pub returns : goal.returns
returns g c = record {
  list = λ holders s.
      c.link.ensures.change [] holders s (apart_in c.args.self.now (g.C.Cells.blocks c.args.cells.now) c.args.at.0 c.requires holders s) refl s.links.first;
  rest = c.link.ensures.rest;
}
