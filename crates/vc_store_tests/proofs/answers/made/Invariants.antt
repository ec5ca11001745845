use Rattle.vc_base.proofs.Common.{length}
use Rattle.vc_paths.specs.Unchanged.{Unchanged}
use Rattle.vc_algebra.specs.ToCome.{IsMerge, seen_to_come}
use Rattle.vc_store_tests.proofs.answers.made.Given as goal

abbrev pub invariant-loop-place : goal.invariant-loop-place
invariant-loop-place g l = record {
  merge : IsMerge (g.Y.Layers.layered l.layers) l.paths l.merge;
  unchanged : Unchanged g.Y.Layers l.fn.layers l.layers;
}

-- each answer leaves less to come
abbrev pub decreases-loop-place : goal.decreases-loop-place
decreases-loop-place g l = length (seen_to_come (g.Y.Layers.layered l.layers) l.paths l.merge)
