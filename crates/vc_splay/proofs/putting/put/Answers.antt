use Rattle.vc_splay.proofs.PutLemmas.{can_hang_put, was_alone, was_under}
use Rattle.vc_splay.proofs.putting.put.Goals as goal

pub set_up_of-requires : goal.set_up_of-requires
set_up_of-requires g c = c.requires.top_held

pub returns-then-above-eq0-clause-tree : goal.returns-then-above-eq0-clause-tree
returns-then-above-eq0-clause-tree g c = λ context t h.
    rw c.set_up_of.ensures.store (was_alone (g.N.Nodes.store c.args.nodes.now) c.args.root c.args.above c.args.top c.args.side context t (g.met.N.Nodes.none c.args.nodes.now) c.if-above-eq0.true h)

pub hang-requires : goal.hang-requires
hang-requires g c = can_hang_put (g.N.Nodes.store c.args.nodes.now) c.args.above c.args.top c.requires c.if-above-eq0.false

pub returns-clause-tree : goal.returns-clause-tree
returns-clause-tree g c = λ context t h.
    rw c.hang.ensures.store (was_under (g.N.Nodes.store c.args.nodes.now) c.args.root c.args.above c.args.top c.args.side context t (g.met.N.Nodes.none c.args.nodes.now) c.if-above-eq0.false h)
