-- What a call on a tree of gaps costs.
use Rattle.std.specs.Prelude.{◌≡◌, ◌≢◌, ℕ, ◌+◌, ◌*◌, ◌≤◌, List, length}
use Rattle.vc_splay.specs.Rank.{Costs, binary_digits, size}
use Rattle.vc_splay.specs.Stands.{IsTree}
use Rattle.vc_splay.specs.Tree.{Tree}
use Rattle.vc_gaps.specs.ButLinks.{Tiling}
use Rattle.vc_gaps.specs.GapStore.{gap_store}
use Rattle.vc_gaps.specs.GapTree.{HasGapTree}

-- steps, and twice the rank of the tree of gaps, rise by at most so much for each binary digit of how many gaps are in it with
-- so many more, and a number; at most so many more are in it then
pub record GapsCost (old new : Tiling) (root result before now per plus more : ℕ) : Type 0 where
  pub law : (t u : Tree) → IsTree (gap_store old) root t → IsTree (gap_store new) result u
      → Costs t u before now (per * binary_digits (size t + more) + plus)
  pub few : (t u : Tree) → IsTree (gap_store old) root t → IsTree (gap_store new) result u
      → size u ≤ size t + more

-- a search for a gap of an alignment takes no step back, a step at least where there is a gap, and for each gap of the tree at
-- most one at an alignment of 32, and two at others
pub record FitSteps (t : Tiling) (root align start now : ℕ) : Type 0 where
  pub rises : start ≤ now
  pub least : root ≢ 0 → start + 1 ≤ now
  pub most : (xs : List ℕ) → HasGapTree t root xs → now ≤ start + 2 * length xs
  pub most_by_32 : (xs : List ℕ) → HasGapTree t root xs → align ≡ 32 → now ≤ start + length xs
