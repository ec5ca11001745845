use Rattle.vc_base.proofs.Common.{◌≡◌, ℕ, List, ◌++◌, Some, length}
use Rattle.vc_paths.specs.Unchanged.{Unchanged}
use Rattle.vc_paths.specs.Path.{visible_of}
use Rattle.vc_paths.specs.Visible.{Seen}
use Rattle.vc_algebra.specs.Algebra.{range}
use Rattle.vc_algebra.specs.Runs.{IsRangeAt}
use Rattle.vc_algebra.specs.ToCome.{from_place}
use Rattle.vc_algebra.proofs.LoopLemmas.{RangeLeft}
use Rattle.ranges.specs.Showing.{object_lines}
use Rattle.ranges.proofs.show.put_range.Given as goal

-- the lines so far and those of what is left are all
abbrev pub invariant-loop-next : goal.invariant-loop-next
invariant-loop-next g l =
    let all = g.Y.Layers.layered l.fn.layers in
    record {
      at : IsRangeAt (g.Y.Layers.layered l.layers) l.paths l.d l.next;
      unchanged : Unchanged g.Y.Layers l.fn.layers l.layers;
      left : (ys : List (Seen ℕ)) × RangeLeft all l.paths l.d (Some l.high) l.next ys
          × (l.lines.items ++ object_lines ys ≡ l.fn.lines.items ++ object_lines (range (all.layer l.d).rules (Some l.low) (Some l.high) (visible_of all l.paths l.d)));
    }

abbrev pub decreases-loop-next : goal.decreases-loop-next
decreases-loop-next g l = length (from_place l.next (visible_of (g.Y.Layers.layered l.layers) l.paths l.d))
