-- A node's place in a tree, which another one can take.
use Rattle.std.specs.Prelude.{◌≡◌, ◌≢◌, ℕ, ◌+◌, ◌≤◌, Bool}
use Rattle.vc_splay.specs.Store.{Store}
use Rattle.vc_splay.specs.Tree.{Tree, Node, name_of}
use Rattle.vc_splay.specs.Moves.{Context, IsCut, IsRound, name_at, plug, side_in, tally, tally_round}

-- a node is below this one on this side, in the tree of this root, and its subtrees have these names; nothing is said of
-- its own links
pub record IsSeat (s : Store) (root at above : ℕ) (side : Bool) (left right : ℕ) (c : Context) (l r : Tree) : Type 0 where
  pub round : IsRound s c at
  pub above_is : above ≡ name_at c
  pub side_is : above ≢ 0 → side ≡ side_in c
  pub left_cut : IsCut s left l
  pub right_cut : IsCut s right r
  pub root_is : above ≢ 0 → root ≡ name_of (plug c (Node l at r))
  pub once : (n : ℕ) → tally n (Node l at r) + tally_round n c ≤ 1

-- that is where it is in this tree
pub record Seated (s : Store) (root at above : ℕ) (side : Bool) (left right : ℕ) (t : Tree) : Type 0 where
  pub context : Context
  pub left_tree : Tree
  pub right_tree : Tree
  pub whole : plug context (Node left_tree at right_tree) ≡ t
  pub seat : IsSeat s root at above side left right context left_tree right_tree
