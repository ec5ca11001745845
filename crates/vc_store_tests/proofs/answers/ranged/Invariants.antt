use Rattle.vc_base.proofs.Common.{length}
use Rattle.vc_paths.specs.Path.{visible_of}
use Rattle.vc_paths.specs.Unchanged.{Unchanged}
use Rattle.vc_algebra.specs.Runs.{IsRangeAt}
use Rattle.vc_algebra.specs.ToCome.{from_place}
use Rattle.vc_store_tests.proofs.answers.ranged.Given as goal

abbrev pub invariant-loop-next : goal.invariant-loop-next
invariant-loop-next g l = record {
  at : IsRangeAt (g.Y.Layers.layered l.layers) l.paths l.d l.next;
  unchanged : Unchanged g.Y.Layers l.fn.layers l.layers;
}

-- each answer leaves less behind it
abbrev pub decreases-loop-next : goal.decreases-loop-next
decreases-loop-next g l = length (from_place l.next (visible_of (g.Y.Layers.layered l.layers) l.paths l.d))
