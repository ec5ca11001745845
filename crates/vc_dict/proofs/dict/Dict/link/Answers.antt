use Rattle.vc_base.proofs.Common.{◌≡◌, ◌+◌, ◌∷◌, length, arith}
use Rattle.vc_dict.specs.Changes.{order_by_link}
use Rattle.vc_dict.proofs.DictLemmas.{Became-heads, few}
use Rattle.vc_dict.proofs.LengthLemmas.{length-linked}
use Rattle.vc_dict.proofs.dict.Dict.link.Goals as goal

pub overflow_add-self : goal.overflow_add-self
overflow_add-self g c =
    let h = few (g.D.DictDisc.rules c.args.kind.now) c.args.self.now (g.C.Cells.blocks c.args.cells.now) c.requires.holders c.requires.stands in
    omega (arith, h)

pub returns-clause-dict : goal.returns-clause-dict
returns-clause-dict g c = λ holders s.
    let rules = g.D.DictDisc.rules c.args.kind.now in
    let d = c.args.self.now in
    let b = g.C.Cells.blocks c.args.cells.now in
    let at = c.args.at.0 in
    let ys = order_by_link c.args.append d.method rules b d.current.0 at holders in
    let long : length ys ≡ length holders + 1 = length-linked c.args.append d.method rules b d.current.0 at holders in
    Became-heads rules d c.link.new.self (d.count + 1) c.args.at b (g.C.Cells.blocks c.link.new.cells) (at ∷ holders) holders ys s (c.link.ensures.heads.change holders s.heads) (omega (arith, long, s.count))
