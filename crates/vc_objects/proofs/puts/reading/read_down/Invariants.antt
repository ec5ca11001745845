use Rattle.vc_base.proofs.Common.{◌^◌, is_gt}
use Rattle.vc_splay.specs.Stands.{IsTree}
use Rattle.vc_splay.specs.Tree.{Tree}
use Rattle.vc_splay.specs.Walks.{run}
use Rattle.vc_objects.proofs.WayLemmas.{Reading}
use Rattle.vc_objects.proofs.puts.reading.read_down.Given as goal

abbrev pub invariant-loop-at : goal.invariant-loop-at
invariant-loop-at g l =
    (t : Tree) → IsTree (g.N.Nodes.store l.nodes) l.root t → Reading (g.N.Nodes.store l.nodes) (g.G.Guide.side_of l.guide l.nodes) t l.above l.left l.at l.initial.steps l.steps

abbrev pub decreases-loop-at : goal.decreases-loop-at
decreases-loop-at g l = run (2 ^ 32) (λ n. (g.N.Nodes.store l.nodes).kid (is_gt (g.G.Guide.side_of l.guide l.nodes n)) n) l.at
