-- The tree of gaps where free extents come, go or change.
use Rattle.std.specs.Prelude.{◌≡◌, ℕ, ◌<◌, List, [], ◌++◌, false, ◌&&◌, nat_lt}
use Rattle.vc_base.specs.Holders.{contains}
use Rattle.vc_model.specs.Addr.{place_of}
use Rattle.vc_model.specs.Segments.{span}
use Rattle.vc_extent.specs.Tiling.{extent_of}
use Rattle.vc_splay.specs.Tree.{Tree}
use Rattle.vc_gaps.specs.ButLinks.{Tiling}
use Rattle.vc_gaps.specs.GapStore.{is_free as names_free}
use Rattle.vc_gaps.specs.GapTree.{HasGapTree, HasGaps, HasGapsBy}
use Rattle.vc_best.specs.Beside.{free_next}

-- a tree without these gaps, and maybe without others, stays that tree through a change, without those then
abbrev pub GapsChange : Tiling → Tiling → List ℕ → List ℕ → Type 0
GapsChange old new gone come =
    (u : Tree) (root : ℕ) (out : List ℕ) → HasGapsBy u old root (gone ++ out) → HasGapsBy u new root (come ++ out)

-- a busy extent gets a size: a tree without the gap behind it is one still, and where its span stays so is a whole tree
pub record GapBehindChanges (old new : Tiling) (a size : ℕ) : Type 0 where
  pub gaps : GapsChange old new (free_next old a) (free_next new a)
  pub same_span : span size ≡ (extent_of old a).span → GapsChange old new [] []

-- the root stands for a tree of the free extents of the segments below a number
pub record HasGapsBelow (number : ℕ) (t : Tiling) (root : ℕ) : Type 0 where
  pub names : List ℕ
  pub tree : HasGapTree t root names
  pub exact : (a : ℕ) → contains names a ≡ (names_free t a && nat_lt (place_of a).0 number)

-- the root stands for a tree that has each free extent before an address
pub record HasGapsBefore (t : Tiling) (root a : ℕ) : Type 0 where
  pub out : List ℕ
  pub gaps : HasGaps t root out
  pub later : (b : ℕ) → b < a → contains out b ≡ false
