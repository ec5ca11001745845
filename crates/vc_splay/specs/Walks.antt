-- Walks along the links of a store, and which names they end at.
use Rattle.std.specs.Prelude.{◌≡◌, ℕ, zero, suc, ◌+◌, Bool, true, false, ◌==◌, if◌then◌else◌}
use Rattle.vc_base.specs.Holders.{AreDistinct}
use Rattle.vc_splay.specs.Store.{Store}
use Rattle.vc_splay.specs.Stands.{Stands}
use Rattle.vc_splay.specs.Tree.{Tree, Leaf, Node, names, name_of}
use Rattle.vc_splay.specs.Moves.{Context, Top, Under, plug}

-- how many names a walk meets that starts at this one, goes on so, and ends at 0, or at this many
unfoldable pub run : ℕ → (ℕ → ℕ) → ℕ → ℕ
run zero next at = 0
run (suc fuel) next at = if at == 0 then 0 else run fuel next (next at) + 1

-- the name at the end of a tree on this side, another one where it has no node
abbrev pub tip : Bool → ℕ → Tree → ℕ
tip side other Leaf = other
tip true other (Node l n r) = tip true n l
tip false other (Node l n r) = tip false n r

-- the lowest node above a part that has this part on the other side, 0 where there is none
abbrev pub beyond : Bool → Context → ℕ
beyond side Top = 0
beyond true (Under true n sibling c) = beyond true c
beyond true (Under false n sibling c) = n
beyond false (Under true n sibling c) = n
beyond false (Under false n sibling c) = beyond false c

-- the name right before the one between two trees, at true, or right behind it
abbrev pub neighbour : Bool → Context → Tree → Tree → ℕ
neighbour true c l r = if name_of l == 0 then beyond true c else tip false (name_of l) l
neighbour false c l r = if name_of r == 0 then beyond false c else tip true (name_of r) r

-- a part of a tree of which no name stands twice
pub record IsPart (s : Store) (c : Context) (t : Tree) : Type 0 where
  pub stands : Stands s 0 (plug c t)
  pub distinct : AreDistinct (names (plug c t))

-- there is such a part between its two subtrees, or one that has this name at its top
pub record IsNodePlaced (s : Store) (at : ℕ) : Type 0 where
  pub context : Context
  pub left : Tree
  pub right : Tree
  pub part : IsPart s context (Node left at right)

pub record IsTop (s : Store) (at : ℕ) : Type 0 where
  pub context : Context
  pub tree : Tree
  pub part : IsPart s context tree
  pub top : at ≡ name_of tree
