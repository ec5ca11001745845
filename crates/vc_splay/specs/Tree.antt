-- Binary trees of names.
use Rattle.std.specs.Prelude.{ℕ, List, [], ◌∷◌, ◌++◌}

-- a tree has no node, or a node between two trees
pub data Tree : Type 0 where
  Leaf : Tree
  Node : Tree → ℕ → Tree → Tree

-- the names of a tree, in order
abbrev pub names : Tree → List ℕ
names Leaf = []
names (Node l n r) = names l ++ n ∷ names r

-- the name of a tree's root, 0 where it has no node
abbrev pub name_of : Tree → ℕ
name_of Leaf = 0
name_of (Node l n r) = n
