use Rattle.vc_splay.proofs.NeighbourLemmas.{previous_by, placed}
use Rattle.vc_splay.proofs.neighbours.prev.Goals as goal

pub beside-requires : goal.beside-requires
beside-requires g c = placed (g.N.Links.store c.args.nodes.now) c.args.at c.requires

pub returns : goal.returns
returns g c = λ root tree h within.
    previous_by (g.N.Links.store c.args.nodes.now) root c.args.at tree c.beside.result (g.met.N.Links.none c.args.nodes.now) h within c.beside.ensures
