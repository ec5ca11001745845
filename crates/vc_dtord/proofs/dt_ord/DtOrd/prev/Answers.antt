use Rattle.vc_base.proofs.Common.{None, ap, ◌∙◌, previous_in}
use Rattle.vc_dtord.proofs.CallLemmas.{is_within, within-tree}
use Rattle.vc_dtord.proofs.dt_ord.DtOrd.prev.Goals as goal

pub prev-requires : goal.prev-requires
prev-requires g c = is_within c.args.self.now (g.C.Cells.blocks c.args.cells.now) c.args.at.0 c.requires

pub returns : goal.returns
returns g c = λ rules xs s.
    let within = within-tree c.args.self.now (g.C.Cells.blocks c.args.cells.now) c.args.at.0 c.requires rules xs s in
    c.found.ensures ∙ c.prev.ensures c.args.self.now.root.0 s.tree s.is_tree within ∙ ap (λ ys. previous_in None c.args.at.0 ys) s.list
