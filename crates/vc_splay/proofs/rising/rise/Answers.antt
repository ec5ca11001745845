use Rattle.vc_splay.proofs.SplayLemmas.{can_settle, settled_tree}
use Rattle.vc_splay.proofs.rising.rise.Goals as goal

pub settle-requires : goal.settle-requires
settle-requires g c =
    let k = c.climb-left.ensures.top c.requires.context c.requires.tree c.requires.rising in
    can_settle (g.N.Nodes.store c.climb-left.new.nodes) c.args.at c.climb-left.result.0 c.climb-left.result.1 k.topped.tree k.topped.hand

pub returns-clause-tree : goal.returns-clause-tree
returns-clause-tree g c = λ context t r.
    rw c.settle.ensures.store
    (settled_tree (g.N.Nodes.store c.args.nodes.now) (g.N.Nodes.store c.climb-left.new.nodes) c.args.at c.climb-left.result.0 c.climb-left.result.1 context t
    (g.met.N.Nodes.none c.climb-left.new.nodes) (c.climb-left.ensures.top context t r))
