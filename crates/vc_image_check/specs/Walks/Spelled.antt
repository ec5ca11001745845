-- The names of a tree that the links of a store make, in order.
use Rattle.std.specs.Prelude.{◌≡◌, ℕ, List}
use Rattle.vc_splay.specs.Store.{Store}
use Rattle.vc_splay.specs.Stands.{IsNode, Stands}
use Rattle.vc_splay.specs.Tree.{Tree, name_of, names}

-- a tree stands at a name below another one, and these are its names in order
pub record IsSpelled (s : Store) (up at : ℕ) (zs : List ℕ) : Type 0 where
  pub tree : Tree
  pub stands : Stands s up tree
  pub top : at ≡ name_of tree
  pub list : names tree ≡ zs

-- a name below another one has these two children, which aren't one node
pub record IsChild (s : Store) (up at left right : ℕ) : Type 0 where
  pub node : IsNode s up at left right
  pub apart : left ≡ right → left ≡ 0
