use Rattle.vc_base.proofs.Common.{length}
use Rattle.vc_paths.specs.Shown.{down}
use Rattle.vc_paths.proofs.SeekLemmas.{IsSought}
use Rattle.vc_paths.specs.Layers.{Same}
use Rattle.vc_paths.proofs.views.search.Given as goal

abbrev pub invariant-loop-at : goal.invariant-loop-at
invariant-loop-at g l = record {
  layers : Same (g.Y.Layers.layered l.initial.layers) (g.Y.Layers.layered l.layers);
  stays : g.Y.Layers.Stays l.initial.layers l.layers;
  sought : IsSought (g.Y.Layers.layered l.initial.layers) l.paths l.d l.key l.at;
}

abbrev pub decreases-loop-at : goal.decreases-loop-at
decreases-loop-at g l = length (down l.paths l.at)
