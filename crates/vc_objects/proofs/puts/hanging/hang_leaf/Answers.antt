use Rattle.vc_base.proofs.Common.{sym, subst}
use Rattle.vc_splay.specs.Tree.{Leaf, Node}
use Rattle.vc_splay.proofs.LeafLemmas.{Hung, above_held, hung, link_end}
use Rattle.vc_objects.proofs.puts.hanging.hang_leaf.Goals as goal

pub set_kid_of-requires : goal.set_kid_of-requires
set_kid_of-requires g c = above_held (g.N.Nodes.store c.args.nodes.now) c.requires.side c.requires.root c.requires.tree c.args.above c.args.left c.requires.start c.requires.now c.requires.is_tree c.requires.gap

pub rise-requires : goal.rise-requires
rise-requires g c =
    let w = c.requires.gap in
    let h = hung (g.N.Nodes.store c.args.nodes.now) c.requires.side c.requires.root c.args.at c.requires.tree c.args.above c.args.left c.requires.start c.requires.now (g.met.N.Nodes.none c.args.nodes.now) c.requires.held c.requires.apart c.requires.is_tree w in
    rw c.set_kid_of.ensures.store (record { context = w.context; tree = Node Leaf c.args.at Leaf; rising = h.rising })

pub returns-clause-tree : goal.returns-clause-tree
returns-clause-tree g c = λ root tree side start now k apart w.
    let s = g.N.Nodes.store c.args.nodes.now in
    let mid = g.N.Nodes.store c.set_kid_of.new.nodes in
    let h : Hung s mid c.args.at c.args.above w.context = subst (λ z. Hung s z c.args.at c.args.above w.context) (sym c.set_kid_of.ensures.store)
    (hung s side root c.args.at tree c.args.above c.args.left start now (g.met.N.Nodes.none c.args.nodes.now) c.requires.held apart k w) in
    link_end s mid (g.N.Nodes.store c.rise.new.nodes) side c.args.at tree c.args.above c.args.left start now w h (c.rise.ensures.tree w.context (Node Leaf c.args.at Leaf) h.rising).after
