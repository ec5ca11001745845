use Rattle.vc_base.proofs.Common.{◌+◌, ◌*◌, arith}
use Rattle.vc_splay.specs.Rank.{binary_digits}
use Rattle.vc_dtord.specs.Nodes.{beside, node_store}
use Rattle.vc_dtord.proofs.CostLemmas.{call_costs, tree-linked, tree-of}
use Rattle.vc_dtord.proofs.CallLemmas.{can_link, linked-in, steps-linked}
use Rattle.vc_dtord.proofs.calls.link_in.Goals as goal

pub link_after_equals-root-requires : goal.link_after_equals-root-requires
link_after_equals-root-requires g c =
    let h = c.args.nodes.now in
    can_link (g.D.DictDisc.rules c.args.kind.now) (g.met.D.DictDisc.lawful c.args.kind.now).order c.args.ord (g.C.Cells.blocks h.cells.now) (g.C.Cells.blocks c.clear_words.new.cells) h.mark.0 c.requires c.clear_words.ensures.change

pub returns-clause-linked : goal.returns-clause-linked
returns-clause-linked g c = record {
  change = λ xs s.
      let h = c.args.nodes.now in
      let rules = g.D.DictDisc.rules c.args.kind.now in
      let order = (g.met.D.DictDisc.lawful c.args.kind.now).order in
      let b = g.C.Cells.blocks h.cells.now in
      let cleared = g.C.Cells.blocks c.clear_words.new.cells in
      let l = c.link_after_equals-root in (
        linked-in rules order c.args.ord b cleared h.mark.0 c.requires c.clear_words.ensures.change (g.C.Cells.blocks l.new.nodes.cells.now) l.new.nodes.mark.0 _ l.ensures.rest.3 l.ensures.tree xs s,
        steps-linked rules order c.args.ord b cleared h.mark.0 c.requires c.clear_words.ensures.change c.args.steps.now l.new.steps l.ensures.most_steps xs s,
      );
  rest = g.met.C.Cells.transitive _ _ _ c.clear_words.ensures.rest c.link_after_equals-root.ensures.rest.2;
}

pub returns-clause-same : goal.returns-clause-same
returns-clause-same g c = c.link_after_equals-root.ensures.rest.0

pub returns-clause-cost : goal.returns-clause-cost
returns-clause-cost g c =
    let h = c.args.nodes.now in
    let rules = g.D.DictDisc.rules c.args.kind.now in
    let b = g.C.Cells.blocks h.cells.now in
    let cleared = g.C.Cells.blocks c.clear_words.new.cells in
    let l = c.link_after_equals-root in
    call_costs c.args.ord (record { root = record { 0 = l.result } }) b (g.C.Cells.blocks l.new.nodes.cells.now) (beside h.mark.0 (node_store cleared)) l.new.nodes.mark.0 1 c.args.steps.now l.new.steps
    (tree-linked rules c.args.ord b cleared h.mark.0 c.requires c.clear_words.ensures.change)
    (λ t s. tree-of _ _ _ _ _ (l.ensures.tree t s)) (λ n. 8 * binary_digits (n + 1)) (λ n. omega arith) l.ensures.law
