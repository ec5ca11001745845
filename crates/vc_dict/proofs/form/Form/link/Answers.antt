use Rattle.vc_base.proofs.Common.{◌∷◌, sym, subst}
use Rattle.vc_dtlist.specs.Linked.{StandsFor}
use Rattle.vc_dict.specs.Changes.{order_by_link}
use Rattle.vc_dict.specs.Stands.{HeadsFor, HeadsTurned}
use Rattle.vc_dict.specs.declared.form.Form.TheVariants.{Links}
use Rattle.vc_dict.proofs.DictLemmas.{turned-list}
use Rattle.vc_dict.proofs.form.Form.link.Goals as goal

pub returns-in-Links-clause-heads : goal.returns-in-Links-clause-heads
returns-in-Links-clause-heads g c = record {
  change = λ holders s.
      let rules = g.D.DictDisc.rules c.args.kind.now in
      let b = g.C.Cells.blocks c.args.cells.now in
      let b' = g.C.Cells.blocks c.put_linked.new.cells in
      let at = c.args.at.0 in
      let new = c.put_linked.new.list in
      let ys = order_by_link c.args.append c.args.method rules b c.args.current.0 at holders in
      let list : StandsFor c.in-Links.list b holders = subst (λ z. HeadsFor rules z b holders) c.in-Links.is s in
      subst (λ z. HeadsTurned rules (at ∷ holders) z b (Links new) b' ys) (sym c.in-Links.is)
      (turned-list rules c.in-Links.list new at b b' holders ys (c.put_linked.ensures.change rules holders list));
  rest = c.put_linked.ensures.rest;
}
