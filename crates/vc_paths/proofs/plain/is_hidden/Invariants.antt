use Rattle.vc_base.proofs.Common.{◌≡◌, ℕ, List, length, Some, list_any}
use Rattle.vc_paths.specs.Layers.{bytes_there, Same}
use Rattle.vc_paths.specs.Shown.{IsOnPath, above, down, has_match, is_covered}
use Rattle.vc_paths.proofs.plain.is_hidden.Given as goal

abbrev pub invariant-loop-upper : goal.invariant-loop-upper
invariant-loop-upper g l =
    record {
      same : Same (g.Y.Layers.layered l.fn.layers) (g.Y.Layers.layered l.layers);
      stays : g.Y.Layers.Stays l.fn.layers l.layers;
      path : IsOnPath (g.Y.Layers.layered l.fn.layers) l.paths l.d l.upper;
      answer : (bytes : List ℕ) → bytes_there l.at.0 ((g.Y.Layers.layered l.fn.layers).layer l.e).objects ≡ Some bytes
          → is_covered (g.Y.Layers.layered l.fn.layers) l.paths l.d l.e bytes
          ≡ list_any (has_match (g.Y.Layers.layered l.fn.layers) l.d bytes) (above (Some l.e) (down l.paths l.upper));
    }

abbrev pub decreases-loop-upper : goal.decreases-loop-upper
decreases-loop-upper g l = length (down l.paths l.upper)
