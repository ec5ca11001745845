use Rattle.vc_base.proofs.Common.{None, filter, is_eq, ap, ◌∙◌, add-zero, ◌*◌, arith}
use Rattle.std.proofs.lemmas.Cmp.{tied_itself}
use Rattle.vc_dtdisc.specs.Finding.{last_of}
use Rattle.vc_dtdisc.specs.Finds.{object_at}
use Rattle.vc_dtord.specs.Nodes.{beside, node_store, stands_to_holder}
use Rattle.vc_dtord.specs.Seeking.{last_before, matches, past}
use Rattle.vc_dtord.proofs.BeforeLemmas.{CanFind-past}
use Rattle.vc_dtord.proofs.CallLemmas.{beside_there, can_find, kept-found, steps-found, tree-found, within-each}
use Rattle.vc_dtord.proofs.SeekLemmas.{equal-last, last-is, past-lt, some_address-is}
use Rattle.vc_dtord.proofs.SortedLemmas.{IsSorted-rises}
use Rattle.vc_splay.specs.Rank.{binary_digits}
use Rattle.vc_dtord.proofs.CostLemmas.{call_costs, tree-of}
use Rattle.vc_dtord.proofs.seeking.last_like_in.Goals as goal

pub find_last_before-root-requires : goal.find_last_before-root-requires
find_last_before-root-requires g c =
    let h = c.args.nodes.now in
    let rules = g.D.DictDisc.rules c.args.kind.now in
    let b = g.C.Cells.blocks h.cells.now in
    CanFind-past (beside h.mark.0 (node_store b)) (stands_to_holder rules b h.mark.0) c.args.ord.root.0
    (can_find rules c.args.ord b h.mark.0 (beside_there c.args.ord b h.mark.0 c.requires.within) (g.met.D.DictDisc.lawful c.args.kind.now).order (rules.key (object_at b h.mark.0)) c.requires.ord)

pub returns-clause-found : goal.returns-clause-found
returns-clause-found g c = record {
  change = λ xs s.
      let h = c.args.nodes.now in
      let rules = g.D.DictDisc.rules c.args.kind.now in
      let order = (g.met.D.DictDisc.lawful c.args.kind.now).order in
      let b = g.C.Cells.blocks h.cells.now in
      let f = c.find_last_before-root in
      let here = beside_there c.args.ord b h.mark.0 c.requires.within in
      let within = within-each c.args.ord b h.mark.0 c.requires.within rules xs s in
      let key = rules.key (object_at b h.mark.0) in
      let side = stands_to_holder rules b h.mark.0 in
      let itself = ap is_eq (tied_itself order key) in (
        record {
          last = some_address-is f.result.1 _
              (f.ensures.answer s.tree (tree-found rules c.args.ord b h.mark.0 here xs s)
              ∙ ap (λ ys. last_before (λ n. past (side n)) ys) s.list
              ∙ ap (λ t. last_of (filter t xs)) (λ i n. past-lt (side n) i)
              ∙ equal-last side 0 None xs h.mark.0 (IsSorted-rises rules order b key xs s.sorted) within itself)
              (last-is (matches rules b h.mark.0) xs h.mark.0 within itself);
          steps = steps-found rules c.args.ord b h.mark.0 here c.args.steps.now f.new.steps f.ensures.most_steps xs s;
        },
        kept-found rules c.args.ord b h.mark.0 here (g.C.Cells.blocks f.new.nodes.cells.now) f.new.nodes.mark.0 _ f.ensures.rest.3 f.ensures.tree xs s,
      );
  rest = c.find_last_before-root.ensures.rest.2;
}

pub returns-clause-cost : goal.returns-clause-cost
returns-clause-cost g c =
    let h = c.args.nodes.now in
    let b = g.C.Cells.blocks h.cells.now in
    let f = c.find_last_before-root in
    let here = beside_there c.args.ord b h.mark.0 c.requires.within in
    call_costs c.args.ord (record { root = record { 0 = f.result.0 } }) b (g.C.Cells.blocks f.new.nodes.cells.now) (beside h.mark.0 (node_store b)) f.new.nodes.mark.0 0 c.args.steps.now f.new.steps here
    (λ t s. tree-of _ _ _ _ _ (f.ensures.tree t s)) (λ n. 18 * binary_digits n) (λ n. let e = ap binary_digits (add-zero n) in omega arith) f.ensures.law
