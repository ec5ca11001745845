-- Where the names of a list stand against what a guide seeks.
use Rattle.std.specs.Prelude.{◌≡◌, ℕ, ◌+◌, ◌≤◌, Bool, true, false, List, [], ◌∷◌, Option, if◌then◌else◌}
use Rattle.std.specs.List.{find}
use Rattle.std.specs.Ordering.{is_eq, is_ge, is_gt, ordering_index}
use Rattle.std.specs.declared.cmp.Ordering.{Ordering}
use Rattle.vc_base.specs.Holders.{contains}
use Rattle.vc_splay.specs.Store.{Store}
use Rattle.vc_splay.specs.Stands.{IsTree}
use Rattle.vc_splay.specs.Tree.{Tree, Leaf, Node, names}

-- the answers for these names never fall, from `Less` to `Equal` to `Greater`, and none is below this one
abbrev pub RisesFrom : ℕ → (ℕ → Ordering) → List ℕ → Type 0
RisesFrom low side [] = Unit {0}
RisesFrom low side (x ∷ xs) = (low ≤ ordering_index (side x)) × RisesFrom (ordering_index (side x)) side xs

-- they never fall
abbrev pub Rises : (ℕ → Ordering) → List ℕ → Type 0
Rises side xs = RisesFrom 0 side xs

-- the first name that isn't before what is sought
abbrev pub least_at : (ℕ → Ordering) → List ℕ → Option ℕ
least_at side xs = find (λ n. is_ge (side n)) xs

-- the first name that is what is sought
abbrev pub first_at : (ℕ → Ordering) → List ℕ → Option ℕ
first_at side xs = find (λ n. is_eq (side n)) xs

-- with a name right before the first one behind what is sought: where the answers never fall, right behind the last
-- one that isn't
abbrev pub order_with_name : (ℕ → Ordering) → ℕ → List ℕ → List ℕ
order_with_name side at [] = at ∷ []
order_with_name side at (x ∷ xs) = if is_gt (side x) then at ∷ x ∷ xs else x ∷ order_with_name side at xs

-- how many nodes a walk down reads that goes left from a node where this holds, and right from every other one
abbrev pub reads_of_walk : (ℕ → Bool) → Tree → ℕ
reads_of_walk left Leaf = 0
reads_of_walk left (Node l n r) = (if left n then reads_of_walk left l else reads_of_walk left r) + 1

-- it stands for some tree, along which the answers never fall
pub record CanFind (s : Store) (side : ℕ → Ordering) (root : ℕ) : Type 0 where
  pub tree : Tree
  pub is_tree : IsTree s root tree
  pub rises : Rises side (names tree)

-- it stands for such a tree, and this name, which is there, isn't in it
pub record CanLink (s : Store) (side : ℕ → Ordering) (root at : ℕ) : Type 0 where
  pub tree : Tree
  pub is_tree : IsTree s root tree
  pub rises : Rises side (names tree)
  pub held : s.has at ≡ true
  pub apart : contains (names tree) at ≡ false
