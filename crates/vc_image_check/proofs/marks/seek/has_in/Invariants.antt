use Rattle.vc_base.proofs.Common.{◌≡◌, ℕ, ◌<◌, get_or}
use Rattle.vc_image_check.proofs.marks.seek.has_in.Given as goal

abbrev pub invariant-loop-k : goal.invariant-loop-k
invariant-loop-k l = (k : ℕ) → k < l.k → get_or l.row.items k 0 ≡ l.mark → ⊥
