use Rattle.vc_base.proofs.Common.{◌≡◌, ◌^◌}
use Rattle.vc_splay.specs.Moves.{Context}
use Rattle.vc_splay.specs.Tree.{Tree, name_of}
use Rattle.vc_splay.specs.Walks.{IsPart, run}
use Rattle.vc_splay.proofs.WalkLemmas.{Descent}
use Rattle.vc_splay.proofs.ends.end_of.Given as goal

abbrev pub invariant-loop-next : goal.invariant-loop-next
invariant-loop-next g l =
    (c : Context) (t : Tree) → IsPart (g.N.Links.store l.nodes) c t → l.top ≡ name_of t → Descent (g.N.Links.store l.nodes) l.side l.top l.at l.next t

abbrev pub decreases-loop-next : goal.decreases-loop-next
decreases-loop-next g l = run (2 ^ 32) ((g.N.Links.store l.nodes).kid l.side) l.next
