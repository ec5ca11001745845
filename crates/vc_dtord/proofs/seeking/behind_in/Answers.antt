use Rattle.vc_base.proofs.Common.{find, ap, ◌∙◌, add-zero, ◌*◌, arith}
use Rattle.vc_splay.specs.Guide.{least_at}
use Rattle.vc_dtord.specs.Nodes.{beside, node_store, stands_to}
use Rattle.vc_dtord.specs.Seeking.{past}
use Rattle.vc_dtord.proofs.BeforeLemmas.{CanFind-past}
use Rattle.vc_dtord.proofs.CallLemmas.{beside_root, can_find, kept-found, steps-found, tree-found}
use Rattle.vc_dtord.proofs.SeekLemmas.{past-ge}
use Rattle.vc_splay.specs.Rank.{binary_digits}
use Rattle.vc_dtord.proofs.CostLemmas.{call_costs, tree-of}
use Rattle.vc_dtord.proofs.seeking.behind_in.Goals as goal

pub find_least_at-root-requires : goal.find_least_at-root-requires
find_least_at-root-requires g c =
    let h = c.args.nodes.now in
    let rules = g.D.DictDisc.rules c.args.kind.now in
    let b = g.C.Cells.blocks h.cells.now in
    CanFind-past (beside h.mark.0 (node_store b)) (stands_to rules b c.args.key.now) c.args.ord.root.0
    (can_find rules c.args.ord b h.mark.0 (beside_root c.args.ord b h.mark c.requires.mark) (g.met.D.DictDisc.lawful c.args.kind.now).order c.args.key.now c.requires.ord)

pub returns-clause-found : goal.returns-clause-found
returns-clause-found g c = record {
  change = λ xs s.
      let h = c.args.nodes.now in
      let rules = g.D.DictDisc.rules c.args.kind.now in
      let b = g.C.Cells.blocks h.cells.now in
      let f = c.find_least_at-root in
      let here = beside_root c.args.ord b h.mark c.requires.mark in (
        record {
          first = c.found.ensures ∙ f.ensures.answer s.tree (tree-found rules c.args.ord b h.mark.0 here xs s)
              ∙ ap (λ ys. least_at (λ n. past (stands_to rules b c.args.key.now n)) ys) s.list
              ∙ ap (λ t. find t xs) (λ i n. past-ge (stands_to rules b c.args.key.now n) i);
          steps = steps-found rules c.args.ord b h.mark.0 here c.args.steps.now f.new.steps f.ensures.most_steps xs s;
        },
        kept-found rules c.args.ord b h.mark.0 here (g.C.Cells.blocks f.new.nodes.cells.now) f.new.nodes.mark.0 _ f.ensures.rest.3 f.ensures.tree xs s,
      );
  rest = c.find_least_at-root.ensures.rest.2;
}

pub returns-clause-cost : goal.returns-clause-cost
returns-clause-cost g c =
    let h = c.args.nodes.now in
    let b = g.C.Cells.blocks h.cells.now in
    let f = c.find_least_at-root in
    let here = beside_root c.args.ord b h.mark c.requires.mark in
    call_costs c.args.ord (record { root = record { 0 = f.result.0 } }) b (g.C.Cells.blocks f.new.nodes.cells.now) (beside h.mark.0 (node_store b)) f.new.nodes.mark.0 0 c.args.steps.now f.new.steps here
    (λ t s. tree-of _ _ _ _ _ (f.ensures.tree t s)) (λ n. 12 * binary_digits n) (λ n. let e = ap binary_digits (add-zero n) in omega arith) f.ensures.law
