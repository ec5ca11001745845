use Rattle.vc_base.proofs.Common.{◌≡◌, length, option_map, number_of}
use Rattle.vc_paths.specs.Direction.{end_of, objects_left}
use Rattle.vc_paths.specs.Shown.{IsPlaceIn, unhidden_objects}
use Rattle.vc_paths.specs.Layers.{Same}
use Rattle.vc_paths.proofs.plain.seen_along.Given as goal

abbrev pub invariant-loop-here : goal.invariant-loop-here
invariant-loop-here g l =
    record {
      same : Same (g.Y.Layers.layered l.fn.layers) (g.Y.Layers.layered l.layers);
      stays : g.Y.Layers.Stays l.fn.layers l.layers;
      place : IsPlaceIn ((g.Y.Layers.layered l.fn.layers).layer l.e).objects (option_map number_of l.here);
      answer :
          end_of l.back (unhidden_objects (g.Y.Layers.layered l.fn.layers) l.paths l.d l.e (objects_left l.back (option_map number_of l.fn.at) ((g.Y.Layers.layered l.fn.layers).layer l.e).objects))
          ≡ end_of l.back (unhidden_objects (g.Y.Layers.layered l.fn.layers) l.paths l.d l.e (objects_left l.back (option_map number_of l.here) ((g.Y.Layers.layered l.fn.layers).layer l.e).objects));
    }

abbrev pub decreases-loop-here : goal.decreases-loop-here
decreases-loop-here g l = length (objects_left l.back (option_map number_of l.here) ((g.Y.Layers.layered l.fn.layers).layer l.e).objects)
