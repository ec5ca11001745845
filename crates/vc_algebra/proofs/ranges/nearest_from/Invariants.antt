use Rattle.vc_base.proofs.Common.{length, option_copied}
use Rattle.vc_paths.specs.Layers.{Same}
use Rattle.vc_paths.specs.Shown.{down}
use Rattle.vc_algebra.proofs.RangeLemmas.{NearestFrom}
use Rattle.vc_algebra.proofs.ranges.nearest_from.Given as goal

abbrev pub invariant-loop-next : goal.invariant-loop-next
invariant-loop-next g l = record {
  same : Same (g.Y.Layers.layered l.initial.layers) (g.Y.Layers.layered l.layers);
  stays : g.Y.Layers.Stays l.initial.layers l.layers;
  nearest : NearestFrom (g.Y.Layers.layered l.layers) l.paths l.d (option_copied l.low) l.best l.next;
}

abbrev pub decreases-loop-next : goal.decreases-loop-next
decreases-loop-next g l = length (down l.paths l.next)
