use Rattle.vc_base.proofs.Common.{◌≤◌, ◌+◌, sym, arith, subst}
use Rattle.vc_splay.specs.Moves.{plug}
use Rattle.vc_splay.specs.Stands.{IsTree}
use Rattle.vc_splay.specs.Tree.{Node}
use Rattle.vc_splay.specs.Unique.{IsTree-one}
use Rattle.vc_splay.proofs.CostLemmas.{looked, none_cost, searched}
use Rattle.vc_splay.proofs.SearchLemmas.{least_none, least_steps, most_steps, same_tree, stayed_tree}
use Rattle.vc_splay.proofs.finding.find_least_at.Goals as goal

pub returns-then-root-eq0-clause-tree : goal.returns-then-root-eq0-clause-tree
returns-then-root-eq0-clause-tree g c = λ t k. same_tree (g.N.Nodes.store c.args.nodes.now) c.args.root t k c.if-root-eq0.true

pub returns-then-root-eq0-clause-answer : goal.returns-then-root-eq0-clause-answer
returns-then-root-eq0-clause-answer g c = λ t k.
    least_none (g.N.Nodes.store c.args.nodes.now) (g.G.Guide.side_of c.args.guide.now c.args.nodes.now) c.args.root t (g.met.N.Nodes.none c.args.nodes.now) k c.if-root-eq0.true

pub splay-requires : goal.splay-requires
splay-requires g c =
    let search = c.descend-deepest.ensures.search c.requires.tree c.requires.is_tree in
    record { tree = c.requires.tree; is_tree = c.requires.is_tree; within = search.deepest_in }

pub returns-clause-answer : goal.returns-clause-answer
returns-clause-answer g c = λ t k. (c.descend-deepest.ensures.search t k).first

pub returns-clause-rises : goal.returns-clause-rises
returns-clause-rises g c = let deep = (c.descend-deepest.ensures.search c.requires.tree c.requires.is_tree).deep in omega arith

pub returns-clause-least_steps : goal.returns-clause-least_steps
returns-clause-least_steps g c = λ some.
    least_steps (g.N.Nodes.store c.args.nodes.now) (g.G.Guide.side_of c.args.guide.now c.args.nodes.now) c.args.root c.descend-deepest.result.0 c.descend-deepest.result.1 c.args.steps.now c.descend-deepest.new.steps c.requires.tree c.requires.is_tree some (c.descend-deepest.ensures.search c.requires.tree c.requires.is_tree)

pub returns-clause-most_steps : goal.returns-clause-most_steps
returns-clause-most_steps g c = λ t k.
    most_steps (g.G.Guide.side_of c.args.guide.now c.args.nodes.now) c.descend-deepest.result.0 c.descend-deepest.result.1 c.args.steps.now c.descend-deepest.new.steps t (c.descend-deepest.ensures.search t k)

pub returns-then-root-eq0-clause-law : goal.returns-then-root-eq0-clause-law
returns-then-root-eq0-clause-law g c = λ t after k j.
    none_cost (g.N.Nodes.store c.args.nodes.now) c.args.root t after c.args.steps.now _ (g.met.N.Nodes.none c.args.nodes.now) k c.if-root-eq0.true j

pub returns-clause-law : goal.returns-clause-law
returns-clause-law g c = λ t after k j.
    let s = g.N.Nodes.store c.args.nodes.now in
    let deepest = c.descend-deepest.result.0 in
    let w = c.descend-deepest.ensures.search t k in
    let stands : IsTree s c.args.root (plug w.context (Node w.left deepest w.right)) = subst (λ z. IsTree s c.args.root z) (sym w.whole) k in
    searched w.context w.left deepest w.right t after c.args.steps.now c.descend-deepest.new.steps w.whole w.deep (c.splay.ensures.law w.context w.left w.right after stands j)

-- few nodes were read
pub returns-then-is_short-clause-tree : goal.returns-then-is_short-clause-tree
returns-then-is_short-clause-tree g c = λ t k. stayed_tree (g.N.Nodes.store c.args.nodes.now) c.args.root t k

pub returns-then-is_short-clause-answer : goal.returns-then-is_short-clause-answer
returns-then-is_short-clause-answer g c = λ t k. (c.descend-deepest.ensures.search t k).first

pub returns-then-is_short-clause-rises : goal.returns-then-is_short-clause-rises
returns-then-is_short-clause-rises g c = let deep = (c.descend-deepest.ensures.search c.requires.tree c.requires.is_tree).deep in omega arith

pub returns-then-is_short-clause-least_steps : goal.returns-then-is_short-clause-least_steps
returns-then-is_short-clause-least_steps g c = λ some.
    least_steps (g.N.Nodes.store c.args.nodes.now) (g.G.Guide.side_of c.args.guide.now c.args.nodes.now) c.args.root c.descend-deepest.result.0 c.descend-deepest.result.1 c.args.steps.now c.descend-deepest.new.steps c.requires.tree c.requires.is_tree some (c.descend-deepest.ensures.search c.requires.tree c.requires.is_tree)

pub returns-then-is_short-clause-most_steps : goal.returns-then-is_short-clause-most_steps
returns-then-is_short-clause-most_steps g c = λ t k.
    most_steps (g.G.Guide.side_of c.args.guide.now c.args.nodes.now) c.descend-deepest.result.0 c.descend-deepest.result.1 c.args.steps.now c.descend-deepest.new.steps t (c.descend-deepest.ensures.search t k)

pub returns-then-is_short-clause-law : goal.returns-then-is_short-clause-law
returns-then-is_short-clause-law g c = λ t after k j.
    let s = g.N.Nodes.store c.args.nodes.now in
    let most = most_steps (g.G.Guide.side_of c.args.guide.now c.args.nodes.now) c.descend-deepest.result.0 c.descend-deepest.result.1 c.args.steps.now c.descend-deepest.new.steps t (c.descend-deepest.ensures.search t k) in
    let few : c.descend-deepest.new.steps ≤ c.args.steps.now + 48 = let r = c.descend-deepest.ensures.read in let few = c.is_short.ensures.few c.if-is_short.true in omega (arith, r, few) in
    looked t after c.args.steps.now c.descend-deepest.new.steps (IsTree-one s c.args.root t after (g.met.N.Nodes.none c.args.nodes.now) k j) most few
