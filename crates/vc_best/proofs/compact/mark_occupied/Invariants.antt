use Rattle.vc_base.proofs.Common.{◌≡◌, ℕ, ◌+◌, ◌<◌, ◌≤◌, map, length, is_occupied}
use Rattle.vc_best.proofs.Common.{IsThere, layout_by, pair_of}
use Rattle.vc_seg.specs.Back.{is_marked}
use Rattle.vc_best.specs.Made.{count_below}
use Rattle.vc_best.proofs.compact.mark_occupied.Given as goal

-- of the numbers below this one, those are marked in whose segments a block is
abbrev pub invariant-loop-number : goal.invariant-loop-number
invariant-loop-number g l =
    record {
      long : length l.marks ≡ 1024;
      marks : (n : ℕ) → 1 ≤ n → n < l.number → IsThere n l.extents.segs.items → is_marked l.marks n ≡ is_occupied (layout_by l.extents.segs.items).blocks n;
      steps : l.steps ≤ l.initial.steps + count_below l.number (map pair_of l.extents.segs.items);
    }
