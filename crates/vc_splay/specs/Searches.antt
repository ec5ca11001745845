-- What a walk down a tree ends with.
use Rattle.std.specs.Prelude.{◌++◌, Bool, ◌≡◌, ℕ, ◌+◌, ◌*◌, ◌≤◌, true, not, ◌==◌, ◌&&◌}
use Rattle.std.specs.Ordering.{is_eq, is_ge, is_gt}
use Rattle.std.specs.declared.cmp.Ordering.{Ordering}
use Rattle.vc_base.specs.Holders.{AreDistinct, contains, some_address}
use Rattle.vc_splay.specs.Store.{Store}
use Rattle.vc_splay.specs.Stands.{IsTree, Stands}
use Rattle.vc_splay.specs.Tree.{Tree, Leaf, Node, names, name_of}
use Rattle.vc_splay.specs.Guide.{reads_of_walk, least_at, order_with_name}
use Rattle.vc_splay.specs.Moves.{Context, depth, name_at, plug, side_in}
use Rattle.vc_splay.specs.Rank.{level, rank, size}

-- the deepest node that was read and the first that isn't before what is sought, or 0, by a step for each node read
pub record Search (side : ℕ → Ordering) (tree : Tree) (deepest found before now : ℕ) : Type 0 where
  pub first : some_address found ≡ least_at side (names tree)
  pub deepest_in : contains (names tree) deepest ≡ true
  pub steps : now ≡ before + reads_of_walk (λ n. is_ge (side n)) tree
  pub context : Context
  pub left : Tree
  pub right : Tree
  pub whole : plug context (Node left deepest right) ≡ tree
  pub deep : now ≡ before + (depth context + 1)

-- whether there is such a first one, and it is what is sought
abbrev pub is_found : (ℕ → Ordering) → ℕ → Bool
is_found side least = not (least == 0) && is_eq (side least)

-- where a name is to hang: in a place with no node, below the last node that was read, on this side, by a step for each
-- node read
pub record Gap (side : ℕ → Ordering) (tree : Tree) (above : ℕ) (left : Bool) (start now : ℕ) : Type 0 where
  pub context : Context
  pub whole : plug context Leaf ≡ tree
  pub above_is : above ≡ name_at context
  pub side_is : left ≡ side_in context
  pub list : (at : ℕ) → names (plug context (Node Leaf at Leaf)) ≡ order_with_name side at (names tree)
  pub steps : now ≡ start + reads_of_walk (λ n. is_gt (side n)) tree
  pub deep : now ≡ start + depth context

-- two trees, the second one below some node, that have no name in common
pub record IsPair (s : Store) (left right : ℕ) (front back : Tree) : Type 0 where
  pub up : ℕ
  pub front_is : IsTree s left front
  pub back_stands : Stands s up back
  pub back_top : right ≡ name_of back
  pub distinct : AreDistinct (names front ++ names back)

pub record CanJoinTrees (s : Store) (left right : ℕ) : Type 0 where
  pub front : Tree
  pub back : Tree
  pub pair : IsPair s left right front back

-- what it cost that they were joined into one: twice the rank
pub record Joined (front back after : Tree) : Type 0 where
  pub paid : 2 * rank after ≤ 2 * rank front + 2 * rank back + 8 * level (size front + size back)
