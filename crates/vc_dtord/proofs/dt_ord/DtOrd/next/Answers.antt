use Rattle.vc_base.proofs.Common.{ap, ◌∙◌, next_in}
use Rattle.vc_dtord.proofs.CallLemmas.{is_within, within-tree}
use Rattle.vc_dtord.proofs.dt_ord.DtOrd.next.Goals as goal

pub next-requires : goal.next-requires
next-requires g c = is_within c.args.self.now (g.C.Cells.blocks c.args.cells.now) c.args.at.0 c.requires

pub returns : goal.returns
returns g c = λ rules xs s.
    let within = within-tree c.args.self.now (g.C.Cells.blocks c.args.cells.now) c.args.at.0 c.requires rules xs s in
    c.found.ensures ∙ c.next.ensures c.args.self.now.root.0 s.tree s.is_tree within ∙ ap (λ ys. next_in c.args.at.0 ys) s.list
