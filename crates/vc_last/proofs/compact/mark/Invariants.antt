use Rattle.vc_base.proofs.Common.{◌≡◌, ℕ, ◌<◌, false, ◌||◌, length, get_or, is_occupied}
use Rattle.vc_last.specs.Chain.{IsLast, blocks_from}
use Rattle.vc_last.proofs.compact.mark.Given as goal

-- a number is marked, or a block that is left is there, where a block is there
abbrev pub invariant-loop-at : goal.invariant-loop-at
invariant-loop-at l =
    record {
      kept : IsLast l.segs l.at.0;
      len : length l.marks ≡ 1024;
      marked : (n : ℕ) → n < 1024 → (get_or l.marks n false || is_occupied (blocks_from l.segs l.at.0) n) ≡ is_occupied (blocks_from l.segs l.fn.latest.0) n;
    }

abbrev pub decreases-loop-at : goal.decreases-loop-at
decreases-loop-at l = length (blocks_from l.segs l.at.0)
