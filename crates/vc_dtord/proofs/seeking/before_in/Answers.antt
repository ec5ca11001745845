use Rattle.vc_base.proofs.Common.{ap, ◌∙◌, add-zero, ◌*◌, arith}
use Rattle.vc_dtord.specs.Nodes.{beside, node_store, stands_to}
use Rattle.vc_dtord.specs.Seeking.{last_before}
use Rattle.vc_dtord.proofs.CallLemmas.{beside_root, can_find, kept-found, steps-found, tree-found}
use Rattle.vc_splay.specs.Rank.{binary_digits}
use Rattle.vc_dtord.proofs.CostLemmas.{call_costs, tree-of}
use Rattle.vc_dtord.proofs.seeking.before_in.Goals as goal

pub find_last_before-root-requires : goal.find_last_before-root-requires
find_last_before-root-requires g c =
    let h = c.args.nodes.now in
    let b = g.C.Cells.blocks h.cells.now in
    can_find (g.D.DictDisc.rules c.args.kind.now) c.args.ord b h.mark.0 (beside_root c.args.ord b h.mark c.requires.mark) (g.met.D.DictDisc.lawful c.args.kind.now).order c.args.key.now c.requires.ord

pub returns-clause-found : goal.returns-clause-found
returns-clause-found g c = record {
  change = λ xs s.
      let h = c.args.nodes.now in
      let rules = g.D.DictDisc.rules c.args.kind.now in
      let b = g.C.Cells.blocks h.cells.now in
      let f = c.find_last_before-root in
      let here = beside_root c.args.ord b h.mark c.requires.mark in (
        record {
          last = c.found.ensures ∙ f.ensures.answer s.tree (tree-found rules c.args.ord b h.mark.0 here xs s)
              ∙ ap (λ ys. last_before (stands_to rules b c.args.key.now) ys) s.list;
          steps = steps-found rules c.args.ord b h.mark.0 here c.args.steps.now f.new.steps f.ensures.most_steps xs s;
        },
        kept-found rules c.args.ord b h.mark.0 here (g.C.Cells.blocks f.new.nodes.cells.now) f.new.nodes.mark.0 _ f.ensures.rest.3 f.ensures.tree xs s,
      );
  rest = c.find_last_before-root.ensures.rest.2;
}

pub returns-clause-same : goal.returns-clause-same
returns-clause-same g c = c.find_last_before-root.ensures.rest.0

pub returns-clause-cost : goal.returns-clause-cost
returns-clause-cost g c =
    let h = c.args.nodes.now in
    let b = g.C.Cells.blocks h.cells.now in
    let f = c.find_last_before-root in
    let here = beside_root c.args.ord b h.mark c.requires.mark in
    call_costs c.args.ord (record { root = record { 0 = f.result.0 } }) b (g.C.Cells.blocks f.new.nodes.cells.now) (beside h.mark.0 (node_store b)) f.new.nodes.mark.0 0 c.args.steps.now f.new.steps here
    (λ t s. tree-of _ _ _ _ _ (f.ensures.tree t s)) (λ n. 18 * binary_digits n) (λ n. let e = ap binary_digits (add-zero n) in omega arith) f.ensures.law
