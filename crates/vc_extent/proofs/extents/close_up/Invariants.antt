use Rattle.vc_base.proofs.Common.{◌≡◌, ℕ, ◌<◌, ◌≤◌, List, length, get_or}
use Rattle.vc_extent.specs.Tiling.{closed_up}
use Rattle.vc_extent.proofs.extents.close_up.Given as goal

-- the numbers before k are closed up, and those from k on are as they were
pub record Closed (place k : ℕ) (old new : List ℕ) : Type 0 where
  pub len : length new ≡ length old
  pub below : (j : ℕ) → j < k → get_or new j 0 ≡ closed_up place (get_or old j 0)
  pub above : (j : ℕ) → k ≤ j → get_or new j 0 ≡ get_or old j 0

abbrev pub invariant-loop-k : goal.invariant-loop-k
invariant-loop-k l = Closed l.place l.k l.fn.index.items l.index.items
