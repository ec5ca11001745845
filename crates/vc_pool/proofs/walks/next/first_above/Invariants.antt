use Rattle.vc_base.proofs.Common.{ℕ, ◌-◌, ◌<◌, ◌≤◌}
use Rattle.vc_pool.specs.Cells.Place.{cells_in}
use Rattle.vc_pool.specs.First.{IsBare}
use Rattle.vc_pool.proofs.walks.next.first_above.Given as goal

-- no segment so far has a block
abbrev pub invariant-loop-next : goal.invariant-loop-next
invariant-loop-next l =
    record {
      up : l.number ≤ l.after;
      bare : (m : ℕ) → l.number < m → m ≤ l.after → IsBare m (cells_in l.segs);
    }

abbrev pub decreases-loop-next : goal.decreases-loop-next
decreases-loop-next l = 1024 - l.after
