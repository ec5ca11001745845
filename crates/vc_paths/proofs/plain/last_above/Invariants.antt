use Rattle.vc_base.proofs.Common.{◌≡◌, length, Some, option_map, flat_map}
use Rattle.vc_dtdisc.specs.Finding.{last_from, last_of}
use Rattle.vc_paths.specs.Path.{numbers_of}
use Rattle.vc_paths.specs.Shown.{IsOnPath, above, down, shown_in}
use Rattle.vc_paths.specs.Layers.{Same}
use Rattle.vc_paths.proofs.plain.last_above.Given as goal

abbrev pub invariant-loop-layer : goal.invariant-loop-layer
invariant-loop-layer g l =
    record {
      same : Same (g.Y.Layers.layered l.fn.layers) (g.Y.Layers.layered l.layers);
      stays : g.Y.Layers.Stays l.fn.layers l.layers;
      path : IsOnPath (g.Y.Layers.layered l.fn.layers) l.paths l.d l.layer;
      answer :
          last_of (flat_map (shown_in (g.Y.Layers.layered l.fn.layers) l.paths l.d) (above l.end (down l.paths (Some l.d))))
          ≡ last_from (option_map numbers_of l.best) (flat_map (shown_in (g.Y.Layers.layered l.fn.layers) l.paths l.d) (above l.end (down l.paths l.layer)));
    }

abbrev pub decreases-loop-layer : goal.decreases-loop-layer
decreases-loop-layer g l = length (down l.paths l.layer)
