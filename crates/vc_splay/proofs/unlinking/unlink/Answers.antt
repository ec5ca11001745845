use Rattle.vc_base.proofs.Common.{◌≡◌, true, ◌++◌, sym, ◌∙◌, subst, contains, without}
use Rattle.vc_splay.specs.Moves.{plug}
use Rattle.vc_splay.specs.Stands.{TreeAfter}
use Rattle.vc_splay.specs.Tree.{names}
use Rattle.vc_splay.specs.Unique.{IsTree-one}
use Rattle.vc_splay.proofs.CostLemmas.{unlinked_cost}
use Rattle.vc_splay.proofs.PlaceLemmas.{Halves, above_there, can_put, in_place, parted, size_pair, taken_out}
use Rattle.vc_splay.proofs.SplayLemmas.{IsIn-each, IsIn-held}
use Rattle.vc_splay.proofs.unlinking.unlink.Goals as goal

pub in_hand-hand-requires : goal.in_hand-hand-requires
in_hand-hand-requires g c = IsIn-held (g.N.Nodes.store c.args.nodes.now) c.args.root c.args.at c.requires

pub side_below-side-requires : goal.side_below-side-requires
side_below-side-requires g c =
    let p = parted (g.N.Nodes.store c.args.nodes.now) c.args.root c.args.at c.in_hand-hand.result.below c.in_hand-hand.result.above c.in_hand-hand.result.left c.in_hand-hand.result.right c.requires.tree (g.met.N.Nodes.none c.args.nodes.now) c.requires.is_tree c.requires.within c.in_hand-hand.ensures in
    above_there (g.N.Nodes.store c.args.nodes.now) p.context c.args.at c.in_hand-hand.result.above p.halves.round p.halves.above_is

pub set_up_of-requires : goal.set_up_of-requires
set_up_of-requires g c =
    (parted (g.N.Nodes.store c.args.nodes.now) c.args.root c.args.at c.in_hand-hand.result.below c.in_hand-hand.result.above c.in_hand-hand.result.left c.in_hand-hand.result.right c.requires.tree (g.met.N.Nodes.none c.args.nodes.now) c.requires.is_tree c.requires.within c.in_hand-hand.ensures).halves.left_held

pub join-top-requires : goal.join-top-requires
join-top-requires g c =
    let p = parted (g.N.Nodes.store c.args.nodes.now) c.args.root c.args.at c.in_hand-hand.result.below c.in_hand-hand.result.above c.in_hand-hand.result.left c.in_hand-hand.result.right c.requires.tree (g.met.N.Nodes.none c.args.nodes.now) c.requires.is_tree c.requires.within c.in_hand-hand.ensures in
    rw c.set_up_of.ensures.store (record { front = p.left_tree; back = p.right_tree; pair = p.halves.pair })

pub put-requires : goal.put-requires
put-requires g c =
    let old = g.N.Nodes.store c.args.nodes.now in
    let mid = g.N.Nodes.store c.set_up_of.new.nodes in
    let s = g.N.Nodes.store c.join-top.new.nodes in
    let hand = c.in_hand-hand.result in
    let p = parted old c.args.root c.args.at hand.below hand.above hand.left hand.right c.requires.tree (g.met.N.Nodes.none c.args.nodes.now) c.requires.is_tree c.requires.within c.in_hand-hand.ensures in
    let h : Halves old mid c.args.at hand.left hand.right hand.above p.context p.left_tree p.right_tree =
    subst (λ z. Halves old z c.args.at hand.left hand.right hand.above p.context p.left_tree p.right_tree) (sym c.set_up_of.ensures.store) p.halves in
    can_put old s hand.above c.join-top.result p.context c.args.at (names p.left_tree ++ names p.right_tree) mid
    (g.met.N.Nodes.names c.set_up_of.new.nodes c.join-top.new.nodes c.join-top.ensures.rest ∙ g.met.N.Nodes.names c.args.nodes.now c.set_up_of.new.nodes c.set_up_of.ensures.rest)
    h.round h.above_is (c.join-top.ensures.tree p.left_tree p.right_tree h.pair)

pub returns-clause-tree : goal.returns-clause-tree
returns-clause-tree g c = λ t k.
    let old = g.N.Nodes.store c.args.nodes.now in
    let mid = g.N.Nodes.store c.set_up_of.new.nodes in
    let s = g.N.Nodes.store c.join-top.new.nodes in
    let new = g.N.Nodes.store c.put.new.nodes in
    let hand = c.in_hand-hand.result in
    let none = g.met.N.Nodes.none c.args.nodes.now in
    let within : contains (names t) c.args.at ≡ true = IsIn-each old c.args.root c.args.at none c.requires t k in
    let p = parted old c.args.root c.args.at hand.below hand.above hand.left hand.right t none k within c.in_hand-hand.ensures in
    let h : Halves old mid c.args.at hand.left hand.right hand.above p.context p.left_tree p.right_tree =
    subst (λ z. Halves old z c.args.at hand.left hand.right hand.above p.context p.left_tree p.right_tree) (sym c.set_up_of.ensures.store) p.halves in
    let has = g.met.N.Nodes.names c.set_up_of.new.nodes c.join-top.new.nodes c.join-top.ensures.rest ∙ g.met.N.Nodes.names c.args.nodes.now c.set_up_of.new.nodes c.set_up_of.ensures.rest in
    let a = c.join-top.ensures.tree p.left_tree p.right_tree h.pair in
    let put = c.put.ensures.tree p.context a.tree
    (in_place old mid s c.args.root c.args.at hand.left hand.right hand.above c.join-top.result c.side_below-side.result p.context p.left_tree p.right_tree none has (IsIn-held old c.args.root c.args.at c.requires) p.is_tree h c.side_below-side.ensures a) in
    subst (λ z. TreeAfter old new (names z) c.put.result (without c.args.at (names z))) p.whole
    (taken_out old mid s new c.args.root c.args.at hand.left hand.right hand.above c.join-top.result c.put.result p.context p.left_tree p.right_tree p.is_tree h a put)

pub returns-clause-law : goal.returns-clause-law
returns-clause-law g c = λ t after k j.
    let old = g.N.Nodes.store c.args.nodes.now in
    let mid = g.N.Nodes.store c.set_up_of.new.nodes in
    let s = g.N.Nodes.store c.join-top.new.nodes in
    let new = g.N.Nodes.store c.put.new.nodes in
    let hand = c.in_hand-hand.result in
    let none = g.met.N.Nodes.none c.args.nodes.now in
    let within : contains (names t) c.args.at ≡ true = IsIn-each old c.args.root c.args.at none c.requires t k in
    let p = parted old c.args.root c.args.at hand.below hand.above hand.left hand.right t none k within c.in_hand-hand.ensures in
    let h : Halves old mid c.args.at hand.left hand.right hand.above p.context p.left_tree p.right_tree =
    subst (λ z. Halves old z c.args.at hand.left hand.right hand.above p.context p.left_tree p.right_tree) (sym c.set_up_of.ensures.store) p.halves in
    let has = g.met.N.Nodes.names c.set_up_of.new.nodes c.join-top.new.nodes c.join-top.ensures.rest ∙ g.met.N.Nodes.names c.args.nodes.now c.set_up_of.new.nodes c.set_up_of.ensures.rest in
    let a = c.join-top.ensures.tree p.left_tree p.right_tree h.pair in
    let put = c.put.ensures.tree p.context a.tree
    (in_place old mid s c.args.root c.args.at hand.left hand.right hand.above c.join-top.result c.side_below-side.result p.context p.left_tree p.right_tree none has (IsIn-held old c.args.root c.args.at c.requires) p.is_tree h c.side_below-side.ensures a) in
    let one = IsTree-one new c.put.result after (plug p.context a.tree) (g.met.N.Nodes.none c.put.new.nodes) j put.is_tree in
    unlinked_cost p.context p.left_tree c.args.at p.right_tree a.tree t after p.whole (size_pair a.tree p.left_tree p.right_tree a.list)
    (c.join-top.ensures.law p.left_tree p.right_tree a.tree h.pair a.is_tree) one
