-- A store of nodes: what each name's links are.
use Rattle.std.specs.Prelude.{◌≡◌, ℕ, Bool, true, false, not, ◌==◌, ◌&&◌, if◌then◌else◌}

-- which names there are, the two children of each (the left one at true) and its parent; 0 is none
pub record Store : Type 0 where
  pub has : ℕ → Bool
  pub kid : Bool → ℕ → ℕ
  pub parent : ℕ → ℕ

-- whether two sides are the same
abbrev pub is_same : Bool → Bool → Bool
is_same true d = d
is_same false d = not d

-- with another child of this name on this side
unfoldable pub with_kid : Bool → ℕ → ℕ → Store → Store
with_kid side n v s = record {
  has = s.has;
  kid = λ d m. if (m == n) && is_same side d then v else s.kid d m;
  parent = s.parent;
}

-- with another parent of this name
unfoldable pub with_parent : ℕ → ℕ → Store → Store
with_parent n v s = record {
  has = s.has;
  kid = s.kid;
  parent = λ m. if m == n then v else s.parent m;
}

-- a name has the same links in both
pub record SameLinks (old new : Store) (n : ℕ) : Type 0 where
  pub kid : (d : Bool) → new.kid d n ≡ old.kid d n
  pub parent : new.parent n ≡ old.parent n
