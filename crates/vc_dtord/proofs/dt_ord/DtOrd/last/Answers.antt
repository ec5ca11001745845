use Rattle.vc_base.proofs.Common.{ap, ◌∙◌, last_in}
use Rattle.vc_dtord.proofs.CallLemmas.{has_tree}
use Rattle.vc_dtord.proofs.dt_ord.DtOrd.last.Goals as goal

pub last-requires : goal.last-requires
last-requires g c = has_tree c.args.self.now (g.C.Cells.blocks c.args.cells.now) c.requires

pub returns : goal.returns
returns g c = λ rules xs s. c.found.ensures ∙ c.last.ensures s.tree s.is_tree ∙ ap (λ ys. last_in ys) s.list
