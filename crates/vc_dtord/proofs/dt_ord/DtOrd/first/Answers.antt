use Rattle.vc_base.proofs.Common.{ap, ◌∙◌, first_in}
use Rattle.vc_dtord.proofs.CallLemmas.{has_tree}
use Rattle.vc_dtord.proofs.dt_ord.DtOrd.first.Goals as goal

pub first-requires : goal.first-requires
first-requires g c = has_tree c.args.self.now (g.C.Cells.blocks c.args.cells.now) c.requires

pub returns : goal.returns
returns g c = λ rules xs s. c.found.ensures ∙ c.first.ensures s.tree s.is_tree ∙ ap (λ ys. first_in ys) s.list
