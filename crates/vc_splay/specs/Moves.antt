-- Parts of a tree on the way up from a node, and what a step of a splay does to them.
use Rattle.std.specs.Prelude.{◌≡◌, ◌≢◌, ℕ, ◌+◌, ◌*◌, ◌/◌, ◌≤◌, Bool, true, false, not, List, [], ◌∷◌, ◌==◌, if◌then◌else◌}
use Rattle.vc_base.specs.Holders.{contains}
use Rattle.vc_splay.specs.Store.{Store, SameLinks}
use Rattle.vc_splay.specs.Stands.{Stands, TreeAfter}
use Rattle.vc_splay.specs.Tree.{Tree, Node, names, name_of}
use Rattle.vc_splay.specs.Rank.{level, rank, size}

-- a node's tree with one subtree on this side and the other one on the other side
abbrev pub joined_tree : Bool → Tree → ℕ → Tree → Tree
joined_tree true t n u = Node t n u
joined_tree false t n u = Node u n t

-- what is round a part of a tree: nothing, or a node with that part on this side and a sibling on the other one, and
-- what is round this node
pub data Context : Type 0 where
  Top : Context
  Under : Bool → ℕ → Tree → Context → Context

-- the whole tree with that part in it
abbrev pub plug : Context → Tree → Tree
plug Top t = t
plug (Under side n sibling c) t = plug c (joined_tree side t n sibling)

-- the node right above that part, 0 at the top
abbrev pub name_at : Context → ℕ
name_at Top = 0
name_at (Under side n sibling c) = n

-- how many nodes are above that part
abbrev pub depth : Context → ℕ
depth Top = 0
depth (Under side n sibling c) = depth c + 1

-- the side of the part below the node right above it
abbrev pub side_in : Context → Bool
side_in Top = false
side_in (Under side n sibling c) = side

-- how often a name stands in a list
unfoldable pub one : ℕ → ℕ → ℕ
one n m = if n == m then 1 else 0

abbrev pub count : ℕ → List ℕ → ℕ
count n [] = 0
count n (x ∷ xs) = one n x + count n xs

-- in a tree
unfoldable pub tally : ℕ → Tree → ℕ
tally n t = count n (names t)

-- and round a part of one
abbrev pub tally_round : ℕ → Context → ℕ
tally_round n Top = 0
tally_round n (Under side m sibling c) = one n m + tally n sibling + tally_round n c

-- a name that is there has this tree as its child on this side
pub record HasKid (s : Store) (side : Bool) (n : ℕ) (t : Tree) : Type 0 where
  pub held : s.has n ≡ true
  pub kid : s.kid side n ≡ name_of t
  pub stands : Stands s n t

-- the node right above a part: its child on that side has this name, on the other side it has the sibling
pub record IsFrame (s : Store) (side : Bool) (n below up : ℕ) (sibling : Tree) : Type 0 where
  pub kid : s.kid side n ≡ below
  pub parent : s.parent n ≡ up
  pub other_kid : HasKid s (not side) n sibling

-- each node above a part has its links so, the lowest one to a child of this name
abbrev pub IsRound : Store → Context → ℕ → Type 0
IsRound s Top below = Unit {0}
IsRound s (Under side n sibling c) below = IsFrame s side n below (name_at c) sibling × IsRound s c n

-- a tree whose root has this name, 0 where it has no node; nothing is said of the root's parent
pub record IsCut (s : Store) (top : ℕ) (t : Tree) : Type 0 where
  pub up : ℕ
  pub stands : Stands s up t
  pub top_is : top ≡ name_of t

-- a node in hand: its subtrees have these names; nothing is said of the links between it and them, nor of its parent
pub record IsInHand (s : Store) (n left right : ℕ) (t : Tree) : Type 0 where
  pub left_tree : Tree
  pub right_tree : Tree
  pub whole : t ≡ Node left_tree n right_tree
  pub held : s.has n ≡ true
  pub left_cut : IsCut s left left_tree
  pub right_cut : IsCut s right right_tree

-- a node in hand on its way up: what is above it still names as its child one of the names below it
pub record IsRising (s : Store) (at below above left right : ℕ) (c : Context) (t : Tree) : Type 0 where
  pub hand : IsInHand s at left right t
  pub round : IsRound s c below
  pub parent : above ≡ name_at c
  pub once : (n : ℕ) → tally n t + tally_round n c ≤ 1
  pub among : 1 ≤ tally below t

-- a node is so on its way up
pub record CanRise (s : Store) (at below above left right : ℕ) : Type 0 where
  pub context : Context
  pub tree : Tree
  pub rising : IsRising s at below above left right context tree

-- a node taken in hand where it is
pub record IsTaken (s : Store) (at below above left right : ℕ) : Type 0 where
  pub below_is : below ≡ at
  pub above_is : above ≡ s.parent at
  pub left_is : left ≡ s.kid true at
  pub right_is : right ≡ s.kid false at

-- a node in hand at the top of a tree with these names, where all other names keep their links
pub record Topped (old new : Store) (at : ℕ) (in_order : List ℕ) (left right : ℕ) : Type 0 where
  pub tree : Tree
  pub hand : IsInHand new at left right tree
  pub once : (n : ℕ) → tally n tree ≤ 1
  pub list : names tree ≡ in_order
  pub others : (n : ℕ) → contains in_order n ≡ false → SameLinks old new n

-- what it cost that a node with this tree and context became the root of another tree: a twofold step of two nodes above
-- it each, and twice the rank
pub record Paid (c : Context) (t after : Tree) : Type 0 where
  pub paid : 2 * (depth c / 2) + 2 * rank after + 6 * level (size t) ≤ 2 * rank (plug c t) + 6 * level (size (plug c t))

-- it is at the top, and then the root of a tree: that tree and what it cost
pub record Climbed (old new : Store) (at : ℕ) (c : Context) (t : Tree) (left right : ℕ) : Type 0 where
  pub topped : Topped old new at (names (plug c t)) left right
  pub paid : Paid c t topped.tree

pub record Risen (old new : Store) (at : ℕ) (c : Context) (t : Tree) : Type 0 where
  pub after : TreeAfter old new (names (plug c t)) at (names (plug c t))
  pub paid : Paid c t after.tree

-- what a step asks: there is a node above the one on its way up
pub record CanStep (s : Store) (at below above left right : ℕ) : Type 0 where
  pub can_rise : CanRise s at below above left right
  pub some : above ≢ 0

-- what a step of a node costs that has this tree and context, and then those: a twofold step falls away, and twice the
-- rank with it, but for six levels of what the node gains
pub record Law (c : Context) (t : Tree) (context : Context) (tree : Tree) : Type 0 where
  pub law : 2 * (depth c / 2) + 2 * rank (plug context tree) + 6 * level (size t) ≤ 2 * (depth context / 2) + 2 * rank (plug c t) + 6 * level (size tree)

-- one step up: fewer nodes are above it, the names stand in the same order, and all others keep their links
pub record Step (old new : Store) (at : ℕ) (c : Context) (t : Tree) (below above left right : ℕ) : Type 0 where
  pub context : Context
  pub tree : Tree
  pub rising : IsRising new at below above left right context tree
  pub list : names (plug context tree) ≡ names (plug c t)
  pub shorter : depth context + 1 ≤ depth c
  pub others : (n : ℕ) → tally n t + tally_round n c ≡ 0 → SameLinks old new n
  pub law : Law c t context tree
