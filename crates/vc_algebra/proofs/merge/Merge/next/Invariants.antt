use Rattle.vc_base.proofs.Common.{◌≡◌, ◌+◌, length}
use Rattle.vc_paths.specs.Layers.{Same}
use Rattle.vc_algebra.specs.ToCome.{IsMerge, IsOfSame, left_of, right_of, seen_to_come}
use Rattle.vc_algebra.proofs.merge.Merge.next.Given as goal

abbrev pub invariant-loop-turn : goal.invariant-loop-turn
invariant-loop-turn g l = record {
  layers : Same (g.Y.Layers.layered l.initial.layers) (g.Y.Layers.layered l.layers);
  stays : g.Y.Layers.Stays l.initial.layers l.layers;
  merge : IsMerge (g.Y.Layers.layered l.layers) l.paths l.self;
  same : IsOfSame l.initial.self l.self;
  rest : seen_to_come (g.Y.Layers.layered l.layers) l.paths l.self ≡ seen_to_come (g.Y.Layers.layered l.initial.layers) l.paths l.initial.self;
}

abbrev pub decreases-loop-turn : goal.decreases-loop-turn
decreases-loop-turn g l = length (left_of (g.Y.Layers.layered l.layers) l.paths l.self) + length (right_of (g.Y.Layers.layered l.layers) l.paths l.self)
