use Rattle.vc_base.proofs.Common.{◌^◌}
use Rattle.vc_splay.specs.Moves.{Context, IsRising}
use Rattle.vc_splay.specs.Tree.{Tree}
use Rattle.vc_splay.specs.Walks.{run}
use Rattle.vc_splay.proofs.SplayLemmas.{Climb}
use Rattle.vc_splay.proofs.rising.climb.Given as goal

abbrev pub invariant-loop-hand : goal.invariant-loop-hand
invariant-loop-hand g l = record {
  rest : g.N.Nodes.stays l.initial.nodes l.nodes;
  climb : (c : Context) (t : Tree) → IsRising (g.N.Nodes.store l.initial.nodes) l.at l.fn.from.below l.fn.from.above l.fn.from.left l.fn.from.right c t
      → Climb (g.N.Nodes.store l.initial.nodes) (g.N.Nodes.store l.nodes) l.at c t l.hand.below l.hand.above l.hand.left l.hand.right;
}

abbrev pub decreases-loop-hand : goal.decreases-loop-hand
decreases-loop-hand g l = run (2 ^ 32) (g.N.Nodes.store l.nodes).parent l.hand.above
