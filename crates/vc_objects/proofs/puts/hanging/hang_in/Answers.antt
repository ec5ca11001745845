use Rattle.vc_objects.proofs.JoinLemmas.{can-hang, hung-in}
use Rattle.vc_objects.proofs.puts.hanging.hang_in.Goals as goal

pub clear_words-requires : goal.clear_words-requires
clear_words-requires g c = c.requires.joins.holder

pub hang_leaf-requires : goal.hang_leaf-requires
hang_leaf-requires g c =
    let h = c.args.nodes.now in
    can-hang c.requires.rules c.requires.ord (g.C.Cells.blocks h.cells.now) (g.C.Cells.blocks c.clear_words.new.cells) h.mark c.args.above c.args.left c.requires.holders c.requires.joins c.clear_words.ensures.change

pub returns-clause-list : goal.returns-clause-list
returns-clause-list g c = record {
  change = λ rules ord holders j.
      let h = c.args.nodes.now in
      let l = c.hang_leaf in
      hung-in rules ord (g.C.Cells.blocks h.cells.now) (g.C.Cells.blocks c.clear_words.new.cells) h.mark c.args.above c.args.left holders j c.clear_words.ensures.change
      (g.C.Cells.blocks l.new.nodes.cells.now) l.new.nodes.mark.0 l.ensures.rest.3 l.ensures.tree;
  rest = g.met.C.Cells.transitive _ _ _ c.clear_words.ensures.rest c.hang_leaf.ensures.rest.2;
}

pub returns-clause-same : goal.returns-clause-same
returns-clause-same g c = c.hang_leaf.ensures.rest.0
