use Rattle.vc_base.proofs.Common.{◌*◌, ap, add-zero, arith}
use Rattle.vc_splay.specs.Rank.{binary_digits}
use Rattle.vc_dtord.specs.Nodes.{beside, node_store}
use Rattle.vc_dtord.proofs.CostLemmas.{call_costs, tree-of}
use Rattle.vc_dtord.proofs.CallLemmas.{beside_there, is_in, unlinked}
use Rattle.vc_dtord.proofs.calls.unlink_in.Goals as goal

pub take_out-root-requires : goal.take_out-root-requires
take_out-root-requires g c = let h = c.args.nodes.now in is_in c.args.ord (g.C.Cells.blocks h.cells.now) h.mark.0 c.requires

pub returns-clause-list : goal.returns-clause-list
returns-clause-list g c = record {
  change = λ rules xs s.
      let h = c.args.nodes.now in
      let u = c.take_out-root in
      unlinked c.args.ord (g.C.Cells.blocks h.cells.now) h.mark.0 c.requires (g.C.Cells.blocks u.new.nodes.cells.now) u.new.nodes.mark.0 _ u.ensures.rest.3 u.ensures.tree rules xs s;
  rest = c.take_out-root.ensures.rest.2;
}

pub returns-clause-same : goal.returns-clause-same
returns-clause-same g c = c.take_out-root.ensures.rest.0

pub returns-clause-cost : goal.returns-clause-cost
returns-clause-cost g c =
    let h = c.args.nodes.now in
    let b = g.C.Cells.blocks h.cells.now in
    let u = c.take_out-root in
    call_costs c.args.ord (record { root = record { 0 = u.result } }) b (g.C.Cells.blocks u.new.nodes.cells.now) (beside h.mark.0 (node_store b)) u.new.nodes.mark.0 0 0 0
    (beside_there c.args.ord b h.mark.0 c.requires)
    (λ t s. tree-of _ _ _ _ _ (u.ensures.tree t s)) (λ n. 24 * binary_digits n) (λ n. let e = ap binary_digits (add-zero n) in omega arith) u.ensures.law
