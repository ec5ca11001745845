-- Where a way down a tree ends.
use Rattle.std.specs.Prelude.{◌≡◌, ℕ, ◌+◌, ◌≤◌, Bool, true, false, None, length}
use Rattle.std.specs.Ordering.{is_eq}
use Rattle.std.specs.declared.cmp.Ordering.{Ordering}
use Rattle.vc_base.specs.Holders.{contains}
use Rattle.vc_splay.specs.Guide.{first_at}
use Rattle.vc_splay.specs.Searches.{Gap}
use Rattle.vc_splay.specs.Stands.{IsTree}
use Rattle.vc_splay.specs.Store.{Store}
use Rattle.vc_splay.specs.Tree.{Tree, names}
use Rattle.vc_objects.specs.declared.puts.place.Place.{Place}
use Rattle.vc_objects.specs.declared.puts.place.Place.TheVariants.{Taken, Free}

-- a node of the tree is what is sought, by at most one step for each node
pub record IsTaken (side : ℕ → Ordering) (tree : Tree) (at start now : ℕ) : Type 0 where
  pub within : contains (names tree) at ≡ true
  pub equal : is_eq (side at) ≡ true
  pub steps : now ≤ start + length (names tree)

-- no node is, and this is the place where one would hang
pub record IsFree (side : ℕ → Ordering) (tree : Tree) (above : ℕ) (left : Bool) (start now : ℕ) : Type 0 where
  pub none : first_at side (names tree) ≡ None
  pub gap : Gap side tree above left start now

abbrev pub EndsAt : Place → (ℕ → Ordering) → Tree → ℕ → ℕ → Type 0
EndsAt (Taken at) side tree start now = IsTaken side tree at start now
EndsAt (Free above left) side tree start now = IsFree side tree above left start now

-- a name that is there isn't in the tree that some root stands for, and may hang below this node on this side of it
pub record CanHang (s : Store) (at above : ℕ) (left : Bool) : Type 0 where
  pub root : ℕ
  pub tree : Tree
  pub is_tree : IsTree s root tree
  pub held : s.has at ≡ true
  pub apart : contains (names tree) at ≡ false
  pub side : ℕ → Ordering
  pub start : ℕ
  pub now : ℕ
  pub gap : Gap side tree above left start now
