use Rattle.vc_base.proofs.Common.{◌≤◌, All, address, address_of}
use Rattle.vc_best.proofs.Common.{all_busy, tiling}
use Rattle.vc_best.proofs.walk.first_in_segments.Given as goal

-- no block stands from the first segment on before the one of this number
abbrev pub invariant-loop-number : goal.invariant-loop-number
invariant-loop-number l =
    record {
      up : l.from ≤ l.number;
      none : All (λ b. address (l.from, 0) ≤ address_of b → address (l.number, 0) ≤ address_of b) (all_busy (tiling l.extents.segs.items));
    }
