use Rattle.vc_base.proofs.Common.{[], sym, ◌∙◌, subst}
use Rattle.vc_dtlist.specs.Linked.{StandsFor}
use Rattle.vc_dtord.specs.Ordered.{OrdFor}
use Rattle.vc_dict.proofs.HeadLemmas.{ordered_plain}
use Rattle.vc_dict.proofs.SortedLemmas.{placed_each-sorted}
use Rattle.vc_dict.proofs.forming.in_form.Goals as goal

pub returns-then-is_ordered-clause-heads : goal.returns-then-is_ordered-clause-heads
returns-then-is_ordered-clause-heads g c = record {
  change = λ holders can.
      let rules = g.D.DictDisc.rules c.args.kind.now in
      let b = g.C.Cells.blocks c.args.cells.now in
      let b' = g.C.Cells.blocks c.into_tree.new.cells in
      let ordered = sym c.is_ordered.ensures ∙ c.if-is_ordered.true in
      let list : StandsFor c.args.list b holders = can.listed (ordered_plain c.args.method ordered) in
      let t = c.into_tree.ensures.change holders list in
      record { stands = subst (λ z. OrdFor rules c.into_tree.result b' z) (placed_each-sorted rules b [] holders (can.sorted ordered)) t.stands; keeps = t.keeps };
  rest = c.into_tree.ensures.rest;
}
