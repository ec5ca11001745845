use Rattle.vc_splay.proofs.SeatLemmas.{seat_above, seated}
use Rattle.vc_splay.proofs.SplayLemmas.{IsIn-held}
use Rattle.vc_splay.proofs.replacing.seat_of.Goals as goal

pub in_hand-hand-requires : goal.in_hand-hand-requires
in_hand-hand-requires g c = IsIn-held (g.N.Nodes.store c.args.nodes.now) c.requires.root c.args.at c.requires.is_in

pub side_below-requires : goal.side_below-requires
side_below-requires g c =
    let i = c.requires.is_in in
    let hand = c.in_hand-hand.result in
    seat_above (g.N.Nodes.store c.args.nodes.now) c.requires.root c.args.at hand.below hand.above hand.left hand.right i.tree i.is_tree i.within c.in_hand-hand.ensures

pub returns : goal.returns
returns g c = λ root t k within.
    let hand = c.in_hand-hand.result in
    seated (g.N.Nodes.store c.args.nodes.now) root c.args.at hand.below hand.above hand.left hand.right c.side_below.result t (g.met.N.Nodes.none c.args.nodes.now) k within c.in_hand-hand.ensures c.side_below.ensures
