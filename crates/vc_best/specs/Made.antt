-- What a tree of gaps costs that is made anew.
use Rattle.std.specs.Prelude.{ℕ, ◌+◌, ◌*◌, ◌≤◌, List, filter, length, nat_lt}
use Rattle.vc_splay.specs.Rank.{Costs, binary_digits, size}
use Rattle.vc_splay.specs.Stands.{IsTree}
use Rattle.vc_splay.specs.Tree.{Tree, Leaf}
use Rattle.vc_gaps.specs.ButLinks.{Tiling}
use Rattle.vc_gaps.specs.GapStore.{gap_store}

-- how many of these segments have a lesser number
abbrev pub count_below : ℕ → List (ℕ × ℕ) → ℕ
count_below n ss = length (filter (λ s. nat_lt s.0 n) ss)

-- from no gap on the tree cost at most eight steps for each binary digit of how many gaps are in it, and one, for each of them, and
-- at least one; at most so many are in it
pub record MadeCost (t : Tiling) (root start now most : ℕ) : Type 0 where
  pub law : (u : Tree) → IsTree (gap_store t) root u → Costs Leaf u start now (size u * (8 * binary_digits (size u) + 1))
  pub few : (u : Tree) → IsTree (gap_store t) root u → size u ≤ most
  pub least : (u : Tree) → IsTree (gap_store t) root u → start + size u ≤ now
