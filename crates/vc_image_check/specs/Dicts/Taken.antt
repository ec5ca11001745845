-- Which blocks of an image were taken by dictionaries, and which dictionary is the first that isn't sound.
use Rattle.std.specs.Prelude.{◌≡◌, ℕ, ◌<◌, ◌≤◌, List, Some, take, slice_get, if◌then◌else◌}
use Rattle.std.specs.List.{flat_map}
use Rattle.vc_base.specs.Cells.{Blocks}
use Rattle.vc_base.specs.Holders.{contains}
use Rattle.vc_dtdisc.specs.Rules.{Rules}
use Rattle.vc_image_check.specs.Bytes.Image.{DictRow}
use Rattle.vc_image_check.specs.Marks.Mark.{lists, mark_at}
use Rattle.vc_image_check.specs.declared.marks.marks.Marks.{Marks}
use Rattle.vc_image_check.specs.Dicts.Sound.{IsSoundDict, own_of}

-- of the marks from 3 on, 4 stands at the blocks that were taken, and 3 at the others
abbrev pub AreMarkedTaken : List (List ℕ) → List ℕ → Type 0
AreMarkedTaken rows taken = (a : ℕ) → 3 ≤ mark_at rows a → mark_at rows a ≡ (if contains taken a then 4 else 3)

abbrev pub HaveTaken : Marks → List ℕ → Type 0
HaveTaken marks taken = AreMarkedTaken (lists marks.rows.items) taken

-- the blocks that dictionaries have together
abbrev pub taken_by : Blocks → List DictRow → List ℕ
taken_by blocks rows = flat_map (own_of blocks) rows

-- each of the first so many dictionaries is sound, and has no block of one before it
abbrev pub AreSoundBefore : List Rules → Blocks → List DictRow → ℕ → Type 0
AreSoundBefore kinds blocks rows n =
    (k : ℕ) (r : DictRow) → k < n → slice_get rows k ≡ Some r → IsSoundDict kinds blocks (taken_by blocks (take k rows)) r

-- a dictionary isn't, and those before it are
pub record IsFirstUnsoundDict (kinds : List Rules) (blocks : Blocks) (rows : List DictRow) (n : ℕ) : Type 0 where
  pub row : DictRow
  pub there : slice_get rows n ≡ Some row
  pub unsound : ¬ IsSoundDict kinds blocks (taken_by blocks (take n rows)) row
  pub before : AreSoundBefore kinds blocks rows n
