-- How unbalanced a tree is, in the numbers of binary digits of the sizes of its subtrees.
use Rattle.std.specs.Prelude.{ℕ, ◌+◌, ◌-◌, ◌*◌, ◌≤◌, length}
use Rattle.std.specs.Int.Digits.{digits_of}
use Rattle.vc_splay.specs.Tree.{Tree, Leaf, Node, names}

-- how many binary digits a number has; 0 has none
unfoldable pub binary_digits : ℕ → ℕ
binary_digits n = length (digits_of 2 n)

-- one less than that
unfoldable pub level : ℕ → ℕ
level n = binary_digits n - 1

-- how many nodes a tree has
unfoldable pub size : Tree → ℕ
size t = length (names t)

-- the sum of the levels of its subtrees' sizes
abbrev pub rank : Tree → ℕ
rank Leaf = 0
rank (Node l n r) = rank l + rank r + level (size (Node l n r))

-- from one tree to another the steps and twice the rank rise by at most so much
pub record Costs (tree after : Tree) (before now most : ℕ) : Type 0 where
  pub cost : now + 2 * rank after ≤ before + 2 * rank tree + most
