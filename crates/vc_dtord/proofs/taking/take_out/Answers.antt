use Rattle.vc_base.proofs.Common.{◌≡◌, true, sym, ap, ◌∙◌, arith, subst, contains, without}
use Rattle.vc_splay.specs.Moves.{plug}
use Rattle.vc_splay.specs.Rank.{binary_digits, level, rank, size}
use Rattle.vc_splay.specs.Stands.{IsTree}
use Rattle.vc_splay.specs.Tree.{Node, names}
use Rattle.vc_splay.proofs.DigitLemmas.{level-few}
use Rattle.vc_splay.proofs.HangLemmas.{SameLinks-on}
use Rattle.vc_splay.proofs.PlugLemmas.{place}
use Rattle.vc_splay.proofs.SplayLemmas.{IsIn-each, size_same, tally-within}
use Rattle.vc_dtord.proofs.taking.take_out.Goals as goal

pub splay-top-requires : goal.splay-top-requires
splay-top-requires g c = c.requires

pub unlink-requires : goal.unlink-requires
unlink-requires g c =
    let a = c.splay-top.ensures.tree c.requires.tree c.requires.is_tree in
    record { tree = a.tree; is_tree = a.is_tree; within = ap (λ xs. contains xs c.args.at) a.list ∙ c.requires.within }

pub returns-clause-tree : goal.returns-clause-tree
returns-clause-tree g c = λ t k.
    let a = c.splay-top.ensures.tree t k in
    let b = c.unlink.ensures.tree a.tree a.is_tree in
    record {
      tree = b.tree;
      is_tree = b.is_tree;
      list = b.list ∙ ap (without c.args.at) a.list;
      others = λ n h.
          SameLinks-on (g.N.Nodes.store c.args.nodes.now) (g.N.Nodes.store c.splay-top.new.nodes) (g.N.Nodes.store c.unlink.new.nodes) n
          (a.others n h) (b.others n (ap (λ xs. contains xs n) a.list ∙ h));
    }

pub returns-clause-law : goal.returns-clause-law
returns-clause-law g c = λ t after k j.
    let s = g.N.Nodes.store c.args.nodes.now in
    let at = c.args.at in
    let within : contains (names t) at ≡ true = IsIn-each s c.args.root at (g.met.N.Nodes.none c.args.nodes.now) c.requires t k in
    let p = place t at (tally-within at t within) in
    let start : IsTree s c.args.root (plug p.context (Node p.left at p.right)) = subst (λ z. IsTree s c.args.root z) (sym p.whole) k in
    let a = c.splay-top.ensures.tree t k in
    let paid = (c.splay-top.ensures.law p.context p.left p.right a.tree start a.is_tree).paid in
    let out = (c.unlink.ensures.law a.tree after a.is_tree j).cost in
    let e = size_same a.tree t a.list in
    let x = ap rank p.whole in
    let y = ap level (ap size p.whole) in
    let z = ap binary_digits e in
    let few = level-few (size t) in
    record { cost = omega arith }
