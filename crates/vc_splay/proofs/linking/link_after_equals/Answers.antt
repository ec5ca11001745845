use Rattle.vc_base.proofs.Common.{◌≡◌, true, false, true≢false, sym, ap, ◌∙◌, arith, subst}
use Rattle.vc_splay.specs.Moves.{Paid, plug}
use Rattle.vc_splay.specs.Puts.{IsPut, WasPut}
use Rattle.vc_splay.specs.Store.{Store, with_kid}
use Rattle.vc_splay.specs.Tree.{Leaf, Node}
use Rattle.vc_splay.specs.Unique.{IsTree-one}
use Rattle.vc_splay.proofs.CostLemmas.{leaf_cost, linked_cost}
use Rattle.vc_splay.proofs.LeafLemmas.{Hung, above_held, apart_each, find_of_link, gap_least, gap_most, has_kid, hung, link_end}
use Rattle.vc_splay.proofs.StayLemmas.{bare, can_put_leaf, leaf_put, leaf_stays}
use Rattle.vc_splay.proofs.linking.link_after_equals.Goals as goal

pub descend_behind-above-requires : goal.descend_behind-above-requires
descend_behind-above-requires g c = find_of_link (g.N.Nodes.store c.args.nodes.now) (g.G.Guide.side_of c.args.guide.now c.args.nodes.now) c.args.root c.args.at c.requires

pub set_kid_of-requires : goal.set_kid_of-requires
set_kid_of-requires g c =
    above_held (g.N.Nodes.store c.args.nodes.now) (g.G.Guide.side_of c.args.guide.now c.args.nodes.now) c.args.root c.requires.tree c.descend_behind-above.result.0 c.descend_behind-above.result.1 c.args.steps.now c.descend_behind-above.new.steps
    c.requires.is_tree (c.descend_behind-above.ensures.gap c.requires.tree c.requires.is_tree)

pub rise-requires : goal.rise-requires
rise-requires g c =
    let w = c.descend_behind-above.ensures.gap c.requires.tree c.requires.is_tree in
    let h = hung (g.N.Nodes.store c.args.nodes.now) (g.G.Guide.side_of c.args.guide.now c.args.nodes.now) c.args.root c.args.at c.requires.tree c.descend_behind-above.result.0 c.descend_behind-above.result.1 c.args.steps.now c.descend_behind-above.new.steps
    (g.met.N.Nodes.none c.args.nodes.now) c.requires.held c.requires.apart c.requires.is_tree w in
    rw c.set_kid_of.ensures.store (record { context = w.context; tree = Node Leaf c.args.at Leaf; rising = h.rising })

pub returns-clause-tree : goal.returns-clause-tree
returns-clause-tree g c = λ tree k.
    let s = g.N.Nodes.store c.args.nodes.now in
    let side = g.G.Guide.side_of c.args.guide.now c.args.nodes.now in
    let none = g.met.N.Nodes.none c.args.nodes.now in
    let above = c.descend_behind-above.result.0 in
    let left = c.descend_behind-above.result.1 in
    let mid = g.N.Nodes.store c.set_kid_of.new.nodes in
    let w = c.descend_behind-above.ensures.gap tree k in
    let h : Hung s mid c.args.at above w.context = subst (λ z. Hung s z c.args.at above w.context) (sym c.set_kid_of.ensures.store)
    (hung s side c.args.root c.args.at tree above left c.args.steps.now c.descend_behind-above.new.steps none c.requires.held (apart_each s side c.args.root c.args.at tree none c.requires k) k w) in
    link_end s mid (g.N.Nodes.store c.rise.new.nodes) side c.args.at tree above left c.args.steps.now c.descend_behind-above.new.steps w h (c.rise.ensures.tree w.context (Node Leaf c.args.at Leaf) h.rising).after

pub returns-clause-rises : goal.returns-clause-rises
returns-clause-rises g c = let deep = (c.descend_behind-above.ensures.gap c.requires.tree c.requires.is_tree).deep in omega arith

pub returns-clause-least_steps : goal.returns-clause-least_steps
returns-clause-least_steps g c = λ some.
    gap_least (g.N.Nodes.store c.args.nodes.now) (g.G.Guide.side_of c.args.guide.now c.args.nodes.now) c.args.root c.requires.tree c.descend_behind-above.result.0 c.descend_behind-above.result.1 c.args.steps.now c.descend_behind-above.new.steps
    c.requires.is_tree some (c.descend_behind-above.ensures.gap c.requires.tree c.requires.is_tree)

pub returns-clause-most_steps : goal.returns-clause-most_steps
returns-clause-most_steps g c = λ tree k.
    gap_most (g.G.Guide.side_of c.args.guide.now c.args.nodes.now) tree c.descend_behind-above.result.0 c.descend_behind-above.result.1 c.args.steps.now c.descend_behind-above.new.steps (c.descend_behind-above.ensures.gap tree k)

pub returns-clause-law : goal.returns-clause-law
returns-clause-law g c = λ tree after k j.
    let s = g.N.Nodes.store c.args.nodes.now in
    let side = g.G.Guide.side_of c.args.guide.now c.args.nodes.now in
    let none = g.met.N.Nodes.none c.args.nodes.now in
    let at = c.args.at in
    let above = c.descend_behind-above.result.0 in
    let left = c.descend_behind-above.result.1 in
    let mid = g.N.Nodes.store c.set_kid_of.new.nodes in
    let w = c.descend_behind-above.ensures.gap tree k in
    let h : Hung s mid at above w.context = subst (λ z. Hung s z at above w.context) (sym c.set_kid_of.ensures.store)
    (hung s side c.args.root at tree above left c.args.steps.now c.descend_behind-above.new.steps none c.requires.held (apart_each s side c.args.root at tree none c.requires k) k w) in
    let risen = c.rise.ensures.tree w.context (Node Leaf at Leaf) h.rising in
    let one = IsTree-one (g.N.Nodes.store c.rise.new.nodes) at risen.after.tree after (g.met.N.Nodes.none c.rise.new.nodes) risen.after.is_tree j in
    linked_cost w.context at tree after c.args.steps.now c.descend_behind-above.new.steps w.whole w.deep
    (subst (λ z. Paid w.context (Node Leaf at Leaf) z) one risen.paid)

-- where few nodes were read
pub set_left-requires : goal.set_left-requires
set_left-requires g c = c.requires.held

pub set_right-requires : goal.set_right-requires
set_right-requires g c =
    ap (λ (z : Store). z.has c.args.at) c.set_left.ensures.store ∙ ap (λ f. f c.args.at) (has_kid true c.args.at 0 (g.N.Nodes.store c.args.nodes.now)) ∙ c.requires.held

pub put-requires : goal.put-requires
put-requires g c =
    let s = g.N.Nodes.store c.args.nodes.now in
    rw (c.set_right.ensures.store, c.set_left.ensures.store)
    (can_put_leaf s c.descend_behind-above.result.0 c.args.at c.requires.held
    (above_held s (g.G.Guide.side_of c.args.guide.now c.args.nodes.now) c.args.root c.requires.tree c.descend_behind-above.result.0 c.descend_behind-above.result.1 c.args.steps.now c.descend_behind-above.new.steps c.requires.is_tree (c.descend_behind-above.ensures.gap c.requires.tree c.requires.is_tree)))

pub returns-then-is_short-clause-tree : goal.returns-then-is_short-clause-tree
returns-then-is_short-clause-tree g c = λ tree k.
    let s = g.N.Nodes.store c.args.nodes.now in
    let side = g.G.Guide.side_of c.args.guide.now c.args.nodes.now in
    let at = c.args.at in
    let above = c.descend_behind-above.result.0 in
    let left = c.descend_behind-above.result.1 in
    let w = c.descend_behind-above.ensures.gap tree k in
    let mid : g.N.Nodes.store c.set_right.new.self ≡ bare at s = c.set_right.ensures.store ∙ ap (λ z. with_kid false at 0 z) c.set_left.ensures.store in
    let can = leaf_put s side c.args.root at tree above left c.args.steps.now c.descend_behind-above.new.steps c.requires.held (apart_each s side c.args.root at tree (g.met.N.Nodes.none c.args.nodes.now) c.requires k) k w in
    let was : WasPut (bare at s) (g.N.Nodes.store c.put.new.nodes) w.context (Node Leaf at Leaf) c.put.result = subst (λ z. WasPut z (g.N.Nodes.store c.put.new.nodes) w.context (Node Leaf at Leaf) c.put.result) mid
    (c.put.ensures.tree w.context (Node Leaf at Leaf) (subst (λ z. IsPut z c.args.root left above at w.context (Node Leaf at Leaf)) (sym mid) can)) in
    leaf_stays s (g.N.Nodes.store c.put.new.nodes) side at tree above left c.args.steps.now c.descend_behind-above.new.steps c.put.result w was

pub returns-then-is_short-clause-root : goal.returns-then-is_short-clause-root
returns-then-is_short-clause-root g c = λ e. absurd (true≢false (sym c.if-is_short.true ∙ c.is_short.ensures.lazy e))

pub returns-then-is_short-clause-rises : goal.returns-then-is_short-clause-rises
returns-then-is_short-clause-rises g c = let deep = (c.descend_behind-above.ensures.gap c.requires.tree c.requires.is_tree).deep in omega arith

pub returns-then-is_short-clause-least_steps : goal.returns-then-is_short-clause-least_steps
returns-then-is_short-clause-least_steps g c = λ some.
    gap_least (g.N.Nodes.store c.args.nodes.now) (g.G.Guide.side_of c.args.guide.now c.args.nodes.now) c.args.root c.requires.tree c.descend_behind-above.result.0 c.descend_behind-above.result.1 c.args.steps.now c.descend_behind-above.new.steps
    c.requires.is_tree some (c.descend_behind-above.ensures.gap c.requires.tree c.requires.is_tree)

pub returns-then-is_short-clause-most_steps : goal.returns-then-is_short-clause-most_steps
returns-then-is_short-clause-most_steps g c = λ tree k.
    gap_most (g.G.Guide.side_of c.args.guide.now c.args.nodes.now) tree c.descend_behind-above.result.0 c.descend_behind-above.result.1 c.args.steps.now c.descend_behind-above.new.steps (c.descend_behind-above.ensures.gap tree k)

pub returns-then-is_short-clause-law : goal.returns-then-is_short-clause-law
returns-then-is_short-clause-law g c = λ tree after k j.
    let s = g.N.Nodes.store c.args.nodes.now in
    let side = g.G.Guide.side_of c.args.guide.now c.args.nodes.now in
    let at = c.args.at in
    let above = c.descend_behind-above.result.0 in
    let left = c.descend_behind-above.result.1 in
    let w = c.descend_behind-above.ensures.gap tree k in
    let mid : g.N.Nodes.store c.set_right.new.self ≡ bare at s = c.set_right.ensures.store ∙ ap (λ z. with_kid false at 0 z) c.set_left.ensures.store in
    let can = leaf_put s side c.args.root at tree above left c.args.steps.now c.descend_behind-above.new.steps c.requires.held (apart_each s side c.args.root at tree (g.met.N.Nodes.none c.args.nodes.now) c.requires k) k w in
    let was : WasPut (bare at s) (g.N.Nodes.store c.put.new.nodes) w.context (Node Leaf at Leaf) c.put.result = subst (λ z. WasPut z (g.N.Nodes.store c.put.new.nodes) w.context (Node Leaf at Leaf) c.put.result) mid
    (c.put.ensures.tree w.context (Node Leaf at Leaf) (subst (λ z. IsPut z c.args.root left above at w.context (Node Leaf at Leaf)) (sym mid) can)) in
    let one = IsTree-one (g.N.Nodes.store c.put.new.nodes) c.put.result after (plug w.context (Node Leaf at Leaf)) (g.met.N.Nodes.none c.put.new.nodes) j was.is_tree in
    let few = c.is_short.ensures.few c.if-is_short.true in
    let read = c.descend_behind-above.ensures.read in
    leaf_cost w.context at tree after c.args.steps.now c.descend_behind-above.new.steps w.whole one w.deep (omega (arith, read, few))
