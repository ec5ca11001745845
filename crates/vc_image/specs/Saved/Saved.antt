-- Which dictionaries of a region can be saved with it, so that the image is sound, and which are read again of it.
use Rattle.std.specs.Prelude.{◌≡◌, ℕ, ◌<◌, ◌≤◌, ◌^◌, List, Some, IfSome, IsSome, true, length, map, option_map}
use Rattle.std.specs.List.{AllByRecursion, flat_map}
use Rattle.vc_model.specs.Numbered.{at_number}
use Rattle.vc_base.specs.Cells.{Blocks}
use Rattle.vc_base.specs.Holders.{contains}
use Rattle.vc_base.specs.Methods.{is_set}
use Rattle.vc_dtdisc.specs.Rules.{AreLawful, Rules}
use Rattle.vc_dict.specs.Listed.{holders_of}
use Rattle.vc_dict.specs.declared.dict.Dict.{Dict}
use Rattle.vc_best.specs.Cells.{cells_in}
use Rattle.vc_best.specs.declared.best.Best.{Best}
use Rattle.vc_objects.specs.Parts.{IsWhole}
use Rattle.vc_region.specs.OfBest.{best_in}
use Rattle.vc_region.specs.declared.region.Region.{Region}
use Rattle.vc_region.specs.declared.region.Region.TheVariants.{Best as OfBest, Pool, Last, Debug, Profile}
use Rattle.vc_image_check.specs.Bytes.Contents.{contents_of_image}
use Rattle.vc_image_check.specs.Dicts.Alone.{AreAlone}
use Rattle.vc_image.specs.Load.{AllShareNone, IsWholeAmong, own_by}
use Rattle.vc_image.specs.Save.{dict_row}

-- a dictionary is whole over some blocks by the rules of its kind, and no two objects of a set match
pub record IsSavable (kinds : List Rules) (blocks : Blocks) (dict : Dict) : Type 0 where
  pub rules : Rules
  pub lawful : AreLawful rules
  pub number : dict.kind < 2 ^ 32
  pub kind : at_number kinds dict.kind ≡ Some rules
  pub whole : IsWhole rules dict blocks
  pub alone : is_set dict.method ≡ true → AreAlone rules blocks (holders_of dict blocks)

-- at most 256 dictionaries can be saved, and each block belongs to just one of them
pub record AreSavable (kinds : List Rules) (blocks : Blocks) (dicts : List Dict) : Type 0 where
  pub few : length dicts ≤ 256
  pub each : AllByRecursion (IsSavable kinds blocks) dicts
  pub apart : AllShareNone blocks dicts
  pub taken : (a : ℕ) → IsSome (blocks a) → contains (flat_map (own_by blocks) dicts) a ≡ true

-- over the unlabelled blocks of a best region
abbrev pub AreSavableIn : {I : Type 0} {V : I → Type 0} → List Rules → Region I V → List Dict → Type 0
AreSavableIn kinds (OfBest b) dicts = AreSavable kinds (cells_in b) dicts
AreSavableIn kinds (Pool p) dicts = ⊥
AreSavableIn kinds (Last l) dicts = ⊥
AreSavableIn kinds (Debug d) dicts = ⊥
AreSavableIn kinds (Profile p) dicts = ⊥

-- at most 256 dictionaries can be read again, each whole over some blocks by the rules of its kind
pub record AreReadable (kinds : List Rules) (blocks : Blocks) (dicts : List Dict) : Type 0 where
  pub few : length dicts ≤ 256
  pub numbers : AllByRecursion (λ d. d.kind < 2 ^ 32) dicts
  pub each : AllByRecursion (IsWholeAmong kinds blocks) dicts

-- over the unlabelled blocks of a best region
abbrev pub AreReadableIn : {I : Type 0} {V : I → Type 0} → List Rules → Region I V → List Dict → Type 0
AreReadableIn kinds (OfBest b) dicts = AreReadable kinds (cells_in b) dicts
AreReadableIn kinds (Pool p) dicts = ⊥
AreReadableIn kinds (Last l) dicts = ⊥
AreReadableIn kinds (Debug d) dicts = ⊥
AreReadableIn kinds (Profile p) dicts = ⊥

-- a dictionary is whole over some blocks by the rules of its kind
abbrev pub IsWholeBy : List Rules → Blocks → Dict → Type 0
IsWholeBy kinds blocks dict = (rules : Rules) → at_number kinds dict.kind ≡ Some rules → IsWhole rules dict blocks

-- a best region has the segments of an image, and dictionaries have its numbers and are whole over the region
pub record AreOfImage {I : Type 0} {V : I → Type 0} (kinds : List Rules) (image : List ℕ) (region : Region I V) (dicts : List Dict) : Type 0 where
  pub segments : option_map (λ (b : Best I V). b.extents.segs.items) (best_in region) ≡ Some (contents_of_image image).segs
  pub rows : map dict_row dicts ≡ (contents_of_image image).rows
  pub numbers : AllByRecursion (λ d. d.kind < 2 ^ 32) dicts
  pub whole : IfSome (best_in region) (λ (b : Best I V). AllByRecursion (IsWholeBy kinds (cells_in b)) dicts)

-- a region and dictionaries are the same as others, but for the discipline: each byte of the segments, the root of the tree,
-- and each dictionary
pub record AreSame {I J : Type 0} {V : I → Type 0} {W : J → Type 0} (old : Region I V) (olds : List Dict) (new : Region J W) (news : List Dict) : Type 0 where
  pub segments : option_map (λ (b : Best J W). b.extents.segs.items) (best_in new) ≡ option_map (λ (b : Best I V). b.extents.segs.items) (best_in old)
  pub root : option_map (λ (b : Best J W). b.root.0) (best_in new) ≡ option_map (λ (b : Best I V). b.root.0) (best_in old)
  pub dicts : news ≡ olds
