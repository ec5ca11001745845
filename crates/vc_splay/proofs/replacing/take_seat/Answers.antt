use Rattle.vc_base.proofs.Common.{sym, subst}
use Rattle.vc_splay.specs.Puts.{IsPut, WasPut}
use Rattle.vc_splay.specs.Tree.{Node}
use Rattle.vc_splay.proofs.SeatLemmas.{can_put_seat, seat_put, seat_taken}
use Rattle.vc_splay.proofs.replacing.take_seat.Goals as goal

pub put-requires : goal.put-requires
put-requires g c =
    rw c.settle.ensures.store (can_put_seat (g.N.Nodes.store c.args.nodes.now) c.args.seat.left c.args.seat.right c.args.by c.args.seat.above c.requires.node c.requires.above)

pub returns-clause-tree : goal.returns-clause-tree
returns-clause-tree g c = λ at context left right h apart.
    let s = g.N.Nodes.store c.args.nodes.now in
    let new = g.N.Nodes.store c.put.new.nodes in
    let q = c.args.seat in
    let none = g.met.N.Nodes.none c.args.nodes.now in
    let put = subst (λ z. IsPut z c.args.root q.side q.above c.args.by context (Node left c.args.by right)) (sym c.settle.ensures.store)
    (seat_put s c.args.root at q.above q.left q.right c.args.by q.side context left right none c.requires.node h apart) in
    seat_taken s c.args.root at q.above q.left q.right c.args.by q.side context left right none c.requires.node h apart new c.put.result
    (subst (λ z. WasPut z new context (Node left c.args.by right) c.put.result) c.settle.ensures.store (c.put.ensures.tree context (Node left c.args.by right) put))
