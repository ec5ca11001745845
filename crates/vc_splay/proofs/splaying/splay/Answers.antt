use Rattle.vc_base.proofs.Common.{◌≡◌, true, sym, subst, contains}
use Rattle.vc_splay.specs.Moves.{IsRising, Paid}
use Rattle.vc_splay.specs.Stands.{TreeAfter}
use Rattle.vc_splay.specs.Tree.{Node, names}
use Rattle.vc_splay.specs.Unique.{IsTree-one}
use Rattle.vc_splay.proofs.SplayLemmas.{IsIn-each, IsIn-held, paid_root, root_stays, start, start_at}
use Rattle.vc_splay.proofs.splaying.splay.Goals as goal

pub returns-then-at-root-clause-tree : goal.returns-then-at-root-clause-tree
returns-then-at-root-clause-tree g c = λ t k. root_stays (g.N.Nodes.store c.args.nodes.now) c.args.root c.args.at t k c.if-at-root.true

pub in_hand-hand-requires : goal.in_hand-hand-requires
in_hand-hand-requires g c = IsIn-held (g.N.Nodes.store c.args.nodes.now) c.args.root c.args.at c.requires

pub rise-requires : goal.rise-requires
rise-requires g c =
    let k = c.requires in
    let b = start (g.N.Nodes.store c.args.nodes.now) c.args.root c.args.at c.in_hand-hand.result.below c.in_hand-hand.result.above c.in_hand-hand.result.left c.in_hand-hand.result.right k.tree k.is_tree k.within c.in_hand-hand.ensures in
    record { context = b.context; tree = b.part; rising = b.rising }

pub returns-clause-tree : goal.returns-clause-tree
returns-clause-tree g c = λ t k.
    let s = g.N.Nodes.store c.args.nodes.now in
    let within : contains (names t) c.args.at ≡ true = IsIn-each s c.args.root c.args.at (g.met.N.Nodes.none c.args.nodes.now) c.requires t k in
    let b = start s c.args.root c.args.at c.in_hand-hand.result.below c.in_hand-hand.result.above c.in_hand-hand.result.left c.in_hand-hand.result.right t k within c.in_hand-hand.ensures in
    subst (λ z. TreeAfter s (g.N.Nodes.store c.rise.new.nodes) (names z) c.args.at (names z)) b.whole (c.rise.ensures.tree b.context b.part b.rising).after

pub returns-then-at-root-clause-law : goal.returns-then-at-root-clause-law
returns-then-at-root-clause-law g c = λ context left right after k j.
    paid_root (g.N.Nodes.store c.args.nodes.now) c.args.root c.args.at context left right after (g.met.N.Nodes.none c.args.nodes.now) k j c.if-at-root.true

pub returns-clause-law : goal.returns-clause-law
returns-clause-law g c = λ context left right after k j.
    let s = g.N.Nodes.store c.args.nodes.now in
    let at = c.args.at in
    let hand = c.in_hand-hand in
    let here = start_at s at context left right hand.result.above hand.result.left hand.result.right k.stands k.distinct hand.ensures.above_is hand.ensures.left_is hand.ensures.right_is in
    let rising : IsRising s at hand.result.below hand.result.above hand.result.left hand.result.right context (Node left at right) =
    subst (λ z. IsRising s at z hand.result.above hand.result.left hand.result.right context (Node left at right)) (sym hand.ensures.below_is) here in
    let risen = c.rise.ensures.tree context (Node left at right) rising in
    let one = IsTree-one (g.N.Nodes.store c.rise.new.nodes) at risen.after.tree after (g.met.N.Nodes.none c.rise.new.nodes) risen.after.is_tree j in
    subst (λ z. Paid context (Node left at right) z) one risen.paid
