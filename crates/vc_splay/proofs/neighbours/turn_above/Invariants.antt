use Rattle.vc_base.proofs.Common.{◌≡◌, ◌^◌}
use Rattle.vc_splay.specs.Moves.{Context}
use Rattle.vc_splay.specs.Tree.{Tree, name_of}
use Rattle.vc_splay.specs.Walks.{IsPart, run}
use Rattle.vc_splay.proofs.WalkLemmas.{Ascent}
use Rattle.vc_splay.proofs.neighbours.turn_above.Given as goal

abbrev pub invariant-loop-above : goal.invariant-loop-above
invariant-loop-above g l =
    (c : Context) (t : Tree) → IsPart (g.N.Links.store l.nodes) c t → l.top ≡ name_of t → Ascent (g.N.Links.store l.nodes) l.side c l.below l.above

abbrev pub decreases-loop-above : goal.decreases-loop-above
decreases-loop-above g l = run (2 ^ 32) (g.N.Links.store l.nodes).parent l.above
