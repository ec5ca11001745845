-- Trees of free extents, by span and then by address.
use Rattle.std.specs.Prelude.{◌≡◌, ℕ, ◌+◌, ◌≤◌, List, [], ◌∷◌, Option, true, false, not, ◌&&◌, filter, option_map}
use Rattle.std.specs.List.{find}
use Rattle.vc_model.specs.Order.{put_by}
use Rattle.vc_model.specs.Place.{holds, least}
use Rattle.vc_base.specs.Holders.{contains, without}
use Rattle.vc_splay.specs.Stands.{IsTree}
use Rattle.vc_splay.specs.Tree.{Tree, names}
use Rattle.vc_extent.specs.Tiling.{IsFree, extent_of}
use Rattle.vc_gaps.specs.ButLinks.{Tiling}
use Rattle.vc_gaps.specs.Fits.{free_runs, holds_at, run_at}
use Rattle.vc_gaps.specs.GapStore.{gap_store, is_free, key_of}

-- by a key, each of these numbers is above the one before it, and none is below this key
abbrev pub AscendFrom : (ℕ → ℕ) → ℕ → List ℕ → Type 0
AscendFrom key low [] = Unit {0}
AscendFrom key low (x ∷ xs) = (low ≤ key x) × AscendFrom key (key x + 1) xs

-- the root stands for a tree that names these free extents, in order by span and then by address
pub record HasGapTree (t : Tiling) (root : ℕ) (xs : List ℕ) : Type 0 where
  pub tree : Tree
  pub is_tree : IsTree (gap_store t) root tree
  pub list : names tree ≡ xs
  pub ascending : AscendFrom (key_of t) 0 xs

-- the root stands for a tree of free extents: each is in it but those that are out
pub record HasGaps (t : Tiling) (root : ℕ) (out : List ℕ) : Type 0 where
  pub names : List ℕ
  pub tree : HasGapTree t root names
  pub exact : (a : ℕ) → contains names a ≡ (is_free t a && not (contains out a))

-- the tree is this one
pub record HasGapsBy (u : Tree) (t : Tiling) (root : ℕ) (out : List ℕ) : Type 0 where
  pub gaps : HasGaps t root out
  pub is : gaps.tree.tree ≡ u

-- it stands for some tree, and this is one of its names
pub record IsInGaps (t : Tiling) (root a : ℕ) : Type 0 where
  pub names : List ℕ
  pub tree : HasGapTree t root names
  pub within : contains names a ≡ true

-- some root does
pub record IsAmongGaps (t : Tiling) (a : ℕ) : Type 0 where
  pub root : ℕ
  pub is_in : IsInGaps t root a

-- it stands for some tree, and this free extent isn't in it
pub record CanLinkGap (t : Tiling) (root a : ℕ) : Type 0 where
  pub names : List ℕ
  pub tree : HasGapTree t root names
  pub free : IsFree t a
  pub apart : contains names a ≡ false

-- it stands for some tree
pub record IsGapTree (t : Tiling) (root : ℕ) : Type 0 where
  pub names : List ℕ
  pub tree : HasGapTree t root names

-- a root stands for these free extents, and all but the touched addresses keep their links
pub record GapTreeAfter (old new : Tiling) (touched : List ℕ) (root : ℕ) (xs : List ℕ) : Type 0 where
  pub tree : HasGapTree new root xs
  pub links : (a : ℕ) → contains touched a ≡ false
      → (extent_of new a).links ≡ (extent_of old a).links

-- a free extent was put in, at its place by span and then by address
pub record GapLinked (old new : Tiling) (root a result : ℕ) : Type 0 where
  pub tree : (xs : List ℕ) → HasGapTree old root xs
      → GapTreeAfter old new (a ∷ xs) result (put_by (key_of old) a xs)
  pub gaps : (out : List ℕ) → HasGaps old root (a ∷ out) → contains out a ≡ false
      → HasGaps new result out

-- it was taken out
pub record GapUnlinked (old new : Tiling) (root a result : ℕ) : Type 0 where
  pub tree : (xs : List ℕ) → HasGapTree old root xs → GapTreeAfter old new xs result (without a xs)
  pub gaps : (out : List ℕ) → HasGaps old root out → HasGaps new result (a ∷ out)

-- the first gap of the tree that holds a block of that span at that alignment was found: the least of
-- all that do, where each free extent is in the tree
pub record GapFitted (old new : Tiling) (root span align result : ℕ) (found : Option ℕ)
    : Type 0 where
  pub tree : (xs : List ℕ) → HasGapTree old root xs → GapTreeAfter old new xs result xs
  pub gaps : (out : List ℕ) → HasGaps old root out → HasGaps new result out
  pub first : (xs : List ℕ) → HasGapTree old root xs → found ≡ find (holds_at old span align) xs
  pub best : HasGaps old root []
      → option_map (run_at old) found ≡ least (filter (holds span align) (free_runs old))
