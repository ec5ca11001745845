use Rattle.vc_base.proofs.Common.{◌≡◌, ℕ, ◌-◌, ◌≤◌, true, cond, eqb, ◌≢◌, List, contains}
use Rattle.vc_gaps.proofs.Common.{HasGapTree, holds_at, key_of, tiling}
use Rattle.vc_gaps.proofs.Walking.{Walked}
use Rattle.vc_gaps.proofs.fitting.first_that_holds.Given as goal

-- none before holds it; and where there is no first, there is none
abbrev pub invariant-loop-at : goal.invariant-loop-at
invariant-loop-at g l =
    ((root : ℕ) (xs : List ℕ) → HasGapTree (tiling l.gaps.extents.now.segs.items) root xs → (l.first ≢ 0 → contains xs l.first ≡ true) → Walked (holds_at (tiling l.gaps.extents.now.segs.items) l.span l.align) xs l.first l.at l.initial.steps l.steps)
    × (l.initial.steps ≤ l.steps)
    × (l.first ≡ 0 → l.at ≡ 0)

-- the keys ascend
abbrev pub decreases-loop-at : goal.decreases-loop-at
decreases-loop-at g l = cond (eqb l.at 0) 0 (18446744073709551616 - key_of (tiling l.gaps.extents.now.segs.items) l.at)
