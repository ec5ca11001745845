use Rattle.vc_base.proofs.Common.{◌^◌, ◌+◌, ◌≤◌, is_gt}
use Rattle.vc_splay.specs.Stands.{IsTree}
use Rattle.vc_splay.specs.Tree.{Tree}
use Rattle.vc_splay.specs.Walks.{run}
use Rattle.vc_splay.proofs.LeafLemmas.{Seeking}
use Rattle.vc_splay.proofs.linking.descend_behind.Given as goal

abbrev pub invariant-loop-at : goal.invariant-loop-at
invariant-loop-at g l =
    (l.steps ≤ l.initial.steps + l.read)
    × (l.read + run (2 ^ 32) (λ n. (g.N.Nodes.store l.nodes).kid (is_gt (g.G.Guide.side_of l.guide l.nodes n)) n) l.at ≤ 2 ^ 32)
    × ((t : Tree) → IsTree (g.N.Nodes.store l.nodes) l.root t → Seeking (g.N.Nodes.store l.nodes) (g.G.Guide.side_of l.guide l.nodes) t l.above l.left l.at l.initial.steps l.steps)

abbrev pub decreases-loop-at : goal.decreases-loop-at
decreases-loop-at g l = run (2 ^ 32) (λ n. (g.N.Nodes.store l.nodes).kid (is_gt (g.G.Guide.side_of l.guide l.nodes n)) n) l.at
