use Rattle.vc_base.proofs.Common.{◌-◌, length}
use Rattle.vc_paths.specs.Layers.{Same}
use Rattle.vc_paths.specs.Path.{visible_of}
use Rattle.vc_commands.proofs.Walking.{Walked}
use Rattle.vc_commands.proofs.dict.looking.walk.Given as goal

abbrev pub invariant-loop-at : goal.invariant-loop-at
invariant-loop-at g l = record {
  layers : Same (g.Y.Layers.layered l.fn.layers) (g.Y.Layers.layered l.layers);
  stays : g.Y.Layers.Stays l.fn.layers l.layers;
  walked : Walked (g.Y.Layers.layered l.fn.layers) l.paths l.d l.at l.items;
}

abbrev pub decreases-loop-at : goal.decreases-loop-at
decreases-loop-at g l = length (visible_of (g.Y.Layers.layered l.fn.layers) l.paths l.d) - length l.items
