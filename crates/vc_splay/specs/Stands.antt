-- Which tree a root stands for, by the links of a store.
use Rattle.std.specs.Prelude.{◌≡◌, ℕ, true, false, List}
use Rattle.vc_base.specs.Holders.{AreDistinct, contains}
use Rattle.vc_splay.specs.Store.{Store, SameLinks}
use Rattle.vc_splay.specs.Tree.{Tree, Leaf, Node, names, name_of}

-- a name that is there, with these three links
pub record IsNode (s : Store) (up n left right : ℕ) : Type 0 where
  pub held : s.has n ≡ true
  pub parent : s.parent n ≡ up
  pub left_kid : s.kid true n ≡ left
  pub right_kid : s.kid false n ≡ right

-- each node of a tree has its links so, and the root's parent is this one
abbrev pub Stands : Store → ℕ → Tree → Type 0
Stands s up Leaf = Unit {0}
Stands s up (Node l n r) = IsNode s up n (name_of l) (name_of r) × Stands s n l × Stands s n r

-- a root stands for a tree: it is the tree's, has no parent, and no name stands twice
pub record IsTree (s : Store) (root : ℕ) (tree : Tree) : Type 0 where
  pub top : root ≡ name_of tree
  pub stands : Stands s 0 tree
  pub distinct : AreDistinct (names tree)

-- it stands for some tree
pub record HasTree (s : Store) (root : ℕ) : Type 0 where
  pub tree : Tree
  pub is_tree : IsTree s root tree

-- it stands for some tree, and this is one of its names
pub record IsIn (s : Store) (root at : ℕ) : Type 0 where
  pub tree : Tree
  pub is_tree : IsTree s root tree
  pub within : contains (names tree) at ≡ true

-- some root stands for a tree, and this is one of its names
pub record IsWithin (s : Store) (at : ℕ) : Type 0 where
  pub root : ℕ
  pub is_in : IsIn s root at

-- the root stands for a tree with these names, and all but the touched names keep their links
pub record TreeAfter (old new : Store) (touched : List ℕ) (root : ℕ) (in_order : List ℕ) : Type 0 where
  pub tree : Tree
  pub is_tree : IsTree new root tree
  pub list : names tree ≡ in_order
  pub others : (n : ℕ) → contains touched n ≡ false → SameLinks old new n
