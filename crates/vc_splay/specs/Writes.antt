-- Links of a store that are written together.
use Rattle.std.specs.Prelude.{◌≡◌, ◌≢◌, ℕ, Bool, true, false, not, ◌==◌, ◌&&◌, if◌then◌else◌}
use Rattle.vc_splay.specs.Store.{Store, with_kid, with_parent}

-- nodes have this store now, and all but their links stayed
pub record Becomes {N : Type 0} (store_of : N → Store) (stays : N → N → Type 0) (old new : N) (made : Store) : Type 0 where
  pub store : store_of new ≡ made
  pub rest : stays old new

-- two names as they are at true, and the other way round at false
pub record AreTurned (side : Bool) (a b first second : ℕ) : Type 0 where
  pub first_is : first ≡ (if side then a else b)
  pub second_is : second ≡ (if side then b else a)

-- with another parent of this name, where there is one
unfoldable pub with_parent_of : ℕ → ℕ → Store → Store
with_parent_of n v s = record {
  has = s.has;
  kid = s.kid;
  parent = λ m. if not (n == 0) && (m == n) then v else s.parent m;
}

-- with another child of this name on this side, where there is one
unfoldable pub with_kid_of : Bool → ℕ → ℕ → Store → Store
with_kid_of side n v s = if n == 0 then s else with_kid side n v s

-- with another child of this name on this side, whose parent is then this name
unfoldable pub with_child : Bool → ℕ → ℕ → Store → Store
with_child side n child s = with_parent_of child n (with_kid side n child s)

-- two steps of a node on this side of the one above it, which is on the same side of the top: the top gets the other
-- child of the one above, that one gets the top there, and on this side the node's inner subtree
unfoldable pub zig_zig : Bool → ℕ → ℕ → ℕ → Store → Store
zig_zig side inner above top s =
    with_child side above inner (with_child (not side) above top (with_child side top (s.kid (not side) above) s))

-- two steps where the one above is on the other side of the top: it gets the inner subtree, and the top the near one
unfoldable pub zig_zag : Bool → ℕ → ℕ → ℕ → ℕ → Store → Store
zig_zag side near inner above top s = with_child (not side) top near (with_child side above inner s)

-- a root with these two subtrees
unfoldable pub store_with_root : ℕ → ℕ → ℕ → Store → Store
store_with_root at left right s = with_parent at 0 (with_child false at right (with_child true at left s))

-- a node is there, and so is its new child, where there is one
pub record CanHang (s : Store) (n child : ℕ) : Type 0 where
  pub held : s.has n ≡ true
  pub child_held : child ≢ 0 → s.has child ≡ true

-- the two nodes above are there, and so are these two, where there are such
pub record CanTurnNodes (s : Store) (above top first second : ℕ) : Type 0 where
  pub above_held : s.has above ≡ true
  pub top_held : s.has top ≡ true
  pub first_held : first ≢ 0 → s.has first ≡ true
  pub second_held : second ≢ 0 → s.has second ≡ true

-- a node is there, and so are its two subtrees' roots, where there are such
pub record CanSettleNode (s : Store) (at left right : ℕ) : Type 0 where
  pub held : s.has at ≡ true
  pub left_held : left ≢ 0 → s.has left ≡ true
  pub right_held : right ≢ 0 → s.has right ≡ true
