use Rattle.vc_base.proofs.Common.{◌≡◌, length, flat_map}
use Rattle.vc_dtdisc.specs.Finding.{first_of}
use Rattle.vc_paths.specs.Shown.{IsOnPath, down, shown_in}
use Rattle.vc_paths.specs.Layers.{Same}
use Rattle.vc_paths.proofs.plain.first_below.Given as goal

abbrev pub invariant-loop-layer : goal.invariant-loop-layer
invariant-loop-layer g l =
    record {
      same : Same (g.Y.Layers.layered l.fn.layers) (g.Y.Layers.layered l.layers);
      stays : g.Y.Layers.Stays l.fn.layers l.layers;
      path : IsOnPath (g.Y.Layers.layered l.fn.layers) l.paths l.d l.layer;
      answer :
          first_of (flat_map (shown_in (g.Y.Layers.layered l.fn.layers) l.paths l.d) (down l.paths l.fn.from))
          ≡ first_of (flat_map (shown_in (g.Y.Layers.layered l.fn.layers) l.paths l.d) (down l.paths l.layer));
    }

abbrev pub decreases-loop-layer : goal.decreases-loop-layer
decreases-loop-layer g l = length (down l.paths l.layer)
