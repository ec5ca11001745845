use Rattle.vc_splay.proofs.NeighbourLemmas.{kid_top, neighbour_above, neighbour_below, placed_held, placed_top}
use Rattle.vc_splay.proofs.StandsLemmas.{some_held}
use Rattle.vc_splay.proofs.neighbours.beside.Goals as goal

pub kid-inner-requires : goal.kid-inner-requires
kid-inner-requires g c = placed_held (g.N.Links.store c.args.nodes.now) c.args.at c.requires

pub end_of-requires : goal.end_of-requires
end_of-requires g c = kid_top (g.N.Links.store c.args.nodes.now) c.args.side c.args.at c.kid-inner.result c.requires c.kid-inner.ensures

pub returns-then-inner-ne0 : goal.returns-then-inner-ne0
returns-then-inner-ne0 g c = λ context left right p.
    neighbour_below (g.N.Links.store c.args.nodes.now) c.args.side context left c.args.at right c.kid-inner.result c.end_of.result p c.kid-inner.ensures c.if-inner-ne0.true c.end_of.ensures

pub turn_above-requires-clause-part : goal.turn_above-requires-clause-part
turn_above-requires-clause-part g c = placed_top (g.N.Links.store c.args.nodes.now) c.args.at c.requires

pub turn_above-requires-clause-some : goal.turn_above-requires-clause-some
turn_above-requires-clause-some g c =
    some_held (g.N.Links.store c.args.nodes.now) c.args.at (g.met.N.Links.none c.args.nodes.now) (placed_held (g.N.Links.store c.args.nodes.now) c.args.at c.requires)

pub returns : goal.returns
returns g c = λ context left right p.
    neighbour_above (g.N.Links.store c.args.nodes.now) c.args.side context left c.args.at right c.kid-inner.result c.turn_above.result p c.kid-inner.ensures c.if-inner-ne0.false c.turn_above.ensures
