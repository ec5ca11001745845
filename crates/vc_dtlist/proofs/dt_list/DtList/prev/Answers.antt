use Rattle.vc_base.proofs.Common.{ap, ◌∙◌, some_address}
use Rattle.vc_dtlist.proofs.TurnLemmas.{at_in, previous_found}
use Rattle.vc_dtlist.proofs.dt_list.DtList.prev.Goals as goal

pub neighbour-requires-clause-holder : goal.neighbour-requires-clause-holder
neighbour-requires-clause-holder g c = (at_in c.args.self.now (g.C.Cells.blocks c.args.cells.now) c.args.at.0 c.requires).words

pub neighbour-requires-clause-fits : goal.neighbour-requires-clause-fits
neighbour-requires-clause-fits g c = (at_in c.args.self.now (g.C.Cells.blocks c.args.cells.now) c.args.at.0 c.requires).previous_fits

pub returns : goal.returns
returns g c = λ holders s.
    c.found.ensures ∙ ap some_address c.neighbour.ensures
    ∙ previous_found c.args.self.now (g.C.Cells.blocks c.args.cells.now) c.args.at.0 c.requires holders s
