use Rattle.vc_base.proofs.Common.{length}
use Rattle.vc_paths.specs.Layers.{Same}
use Rattle.vc_paths.specs.Ordered.{object_at}
use Rattle.vc_paths.specs.Shown.{down}
use Rattle.vc_paths.proofs.OrderedLemmas.{Nearest}
use Rattle.vc_paths.proofs.ordered.nearest_past.Given as goal

abbrev pub invariant-loop-next : goal.invariant-loop-next
invariant-loop-next g l = record {
  same : Same (g.Y.Layers.layered l.initial.layers) (g.Y.Layers.layered l.layers);
  stays : g.Y.Layers.Stays l.initial.layers l.layers;
  nearest : Nearest l.back (g.Y.Layers.layered l.layers) l.paths l.d (object_at (g.Y.Layers.layered l.layers) l.other) l.best l.next;
}

abbrev pub decreases-loop-next : goal.decreases-loop-next
decreases-loop-next g l = length (down l.paths l.next)
