use Rattle.vc_base.proofs.Common.{◌≡◌, map}
use Rattle.vc_best.proofs.Common.{HasGapsBelow, pair_of, tiling}
use Rattle.vc_best.specs.Made.{MadeCost, count_below}
use Rattle.vc_best.proofs.EmptySegments.{AreFree}
use Rattle.vc_best.proofs.compact.clear.Given as goal

-- the segments below the number are free, and in the tree
abbrev pub invariant-loop-number : goal.invariant-loop-number
invariant-loop-number g l =
    record {
      pairs : map pair_of l.extents.segs.items ≡ map pair_of l.initial.extents.segs.items;
      free : AreFree l.number (tiling l.extents.segs.items);
      gaps : HasGapsBelow l.number (tiling l.extents.segs.items) l.root.0;
      cost : MadeCost (tiling l.extents.segs.items) l.root.0 l.initial.steps l.steps (count_below l.number (map pair_of l.initial.extents.segs.items));
    }
