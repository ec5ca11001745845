use Rattle.vc_base.proofs.Common.{◌≡◌, ◌++◌, length}
use Rattle.vc_paths.specs.Unchanged.{Unchanged}
use Rattle.vc_paths.specs.Path.{visible_of}
use Rattle.vc_algebra.specs.Algebra.{meet}
use Rattle.vc_algebra.specs.ToCome.{IsMerge, seen_to_come}
use Rattle.ranges.specs.Showing.{object_lines}
use Rattle.ranges.proofs.show.put_meet.Given as goal

-- the lines so far and those of what is still to come are all
abbrev pub invariant-loop-place : goal.invariant-loop-place
invariant-loop-place g l =
    let all = g.Y.Layers.layered l.fn.layers in
    record {
      merge : IsMerge (g.Y.Layers.layered l.layers) l.paths l.meet;
      unchanged : Unchanged g.Y.Layers l.fn.layers l.layers;
      left : l.lines.items ++ object_lines (seen_to_come (g.Y.Layers.layered l.layers) l.paths l.meet)
          ≡ l.fn.lines.items ++ object_lines (meet (all.layer l.d).rules (visible_of all l.paths l.d) (visible_of all l.paths l.e));
    }

abbrev pub decreases-loop-place : goal.decreases-loop-place
decreases-loop-place g l = length (seen_to_come (g.Y.Layers.layered l.layers) l.paths l.meet)
