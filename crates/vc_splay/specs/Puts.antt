-- A tree in the place of a part of another one.
use Rattle.std.specs.Prelude.{◌≡◌, ◌≢◌, ℕ, ◌+◌, ◌≤◌, Bool, true}
use Rattle.vc_splay.specs.Store.{Store, SameLinks}
use Rattle.vc_splay.specs.Stands.{IsTree}
use Rattle.vc_splay.specs.Tree.{Tree, name_of}
use Rattle.vc_splay.specs.Moves.{Context, IsCut, IsRound, name_at, plug, side_in, tally, tally_round}

-- the node above is there, and so is the tree's root, where there are such
pub record CanPut (s : Store) (above top : ℕ) : Type 0 where
  pub above_held : above ≢ 0 → s.has above ≡ true
  pub top_held : top ≢ 0 → s.has top ≡ true

-- a tree that can stand below this node on this side, in the tree of this root: no name stands twice in the two
pub record IsPut (s : Store) (root : ℕ) (side : Bool) (above top : ℕ) (c : Context) (t : Tree) : Type 0 where
  pub below : ℕ
  pub round : IsRound s c below
  pub above_is : above ≡ name_at c
  pub side_is : above ≢ 0 → side ≡ side_in c
  pub cut : IsCut s top t
  pub once : (n : ℕ) → tally n t + tally_round n c ≤ 1
  pub root_is : above ≢ 0 → root ≡ name_of (plug c t)

-- it stands there, and all other names keep their links
pub record WasPut (old new : Store) (c : Context) (t : Tree) (root : ℕ) : Type 0 where
  pub is_tree : IsTree new root (plug c t)
  pub others : (n : ℕ) → tally n t + tally_round n c ≡ 0 → SameLinks old new n
