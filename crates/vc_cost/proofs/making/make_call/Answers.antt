use Rattle.vc_base.proofs.Common.{sym, ap, ◌∙◌, subst}
use Rattle.vc_cost.specs.declared.ord_call.OrdCall.TheVariants.{Take, Find, AtLeast}
use Rattle.vc_cost.specs.declared.tally.Made.TheVariants.{Linked}
use Rattle.vc_cost.specs.Costs.{IsMade}
use Rattle.vc_cost.proofs.MadeLemmas.{link_made, take_made, find_made, least_made}
use Rattle.vc_cost.proofs.making.make_call.Goals as goal

-- src/making.rt:37:1
pub returns-in-Link : goal.returns-in-Link
returns-in-Link g c =
    let rules = g.D.DictDisc.rules c.args.kind.now in
    let b = g.C.Cells.blocks c.args.cells.now in
    let b' = g.C.Cells.blocks c.link.new.cells in
    record {
      change = λ xs s.
          subst (λ z. IsMade rules z xs c.args.ord.now b c.link.new.self b' c.args.steps.now c.link.new.steps Linked) (sym c.in-Link.is)
          (link_made rules c.args.ord.now c.link.new.self b b' c.args.steps.now c.link.new.steps xs s c.in-Link.at (c.link.ensures.list.change xs s) c.link.ensures.cost);
      rest = c.link.ensures.list.rest;
    }

pub returns-in-Take : goal.returns-in-Take
returns-in-Take g c =
    let rules = g.D.DictDisc.rules c.args.kind.now in
    let b = g.C.Cells.blocks c.args.cells.now in
    let b' = g.C.Cells.blocks c.take_out.new.cells in
    record {
      change = λ xs s.
          subst (λ z. IsMade rules z xs c.args.ord.now b c.take_out.new.ord b' c.args.steps.now c.take_out.new.steps c.taking.result) (ap (λ k. Take k) c.as_slice.ensures ∙ sym c.in-Take.is)
          (take_made rules c.args.ord.now c.take_out.new.ord b b' c.args.steps.now c.take_out.new.steps xs s c.as_slice.result.now c.take_out.result c.taking.result (c.take_out.ensures.told xs s) c.taking.ensures.came c.taking.ensures.went c.taking.ensures.found (c.take_out.ensures.list.change xs s) c.take_out.ensures.cost);
      rest = c.take_out.ensures.list.rest;
    }

pub returns-in-Find : goal.returns-in-Find
returns-in-Find g c =
    let rules = g.D.DictDisc.rules c.args.kind.now in
    let b = g.C.Cells.blocks c.args.cells.now in
    let b' = g.C.Cells.blocks c.find.new.cells in
    record {
      change = λ xs s.
          subst (λ z. IsMade rules z xs c.args.ord.now b c.find.new.self b' c.args.steps.now c.find.new.steps c.searching.result) (ap (λ k. Find k) c.as_slice-in-Find.ensures ∙ sym c.in-Find.is)
          (find_made rules c.args.ord.now c.find.new.self b b' c.args.steps.now c.find.new.steps xs s c.as_slice-in-Find.result.now c.find.result c.is_some.result c.searching.result c.is_some.ensures (c.find.ensures.found xs s).first c.searching.ensures.came c.searching.ensures.went c.searching.ensures.found (c.find.ensures.list.change xs s) c.find.ensures.cost);
      rest = c.find.ensures.list.rest;
    }

pub returns-in-AtLeast : goal.returns-in-AtLeast
returns-in-AtLeast g c =
    let rules = g.D.DictDisc.rules c.args.kind.now in
    let b = g.C.Cells.blocks c.args.cells.now in
    let b' = g.C.Cells.blocks c.at_least.new.cells in
    record {
      change = λ xs s.
          subst (λ z. IsMade rules z xs c.args.ord.now b c.at_least.new.self b' c.args.steps.now c.at_least.new.steps c.searching-in-AtLeast.result) (ap (λ k. AtLeast k) c.as_slice-in-AtLeast.ensures ∙ sym c.in-AtLeast.is)
          (least_made rules c.args.ord.now c.at_least.new.self b b' c.args.steps.now c.at_least.new.steps xs s c.as_slice-in-AtLeast.result.now c.at_least.result c.is_some-in-AtLeast.result c.searching-in-AtLeast.result c.is_some-in-AtLeast.ensures (c.at_least.ensures.found xs s).first c.searching-in-AtLeast.ensures.came c.searching-in-AtLeast.ensures.went c.searching-in-AtLeast.ensures.found (c.at_least.ensures.list.change xs s) c.at_least.ensures.cost);
      rest = c.at_least.ensures.list.rest;
    }
