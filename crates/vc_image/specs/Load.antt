-- What an image gives that is loaded, and why one isn't.
use Rattle.std.specs.Prelude.{◌≡◌, ℕ, ◌<◌, ◌^◌, List, [], ◌∷◌, Some, None, map, true, false, unwrap_or}
use Rattle.std.specs.List.{AllByRecursion}
use Rattle.vc_model.specs.Discipline.{Discipline, Terms}
use Rattle.vc_model.specs.Numbered.{at_number}
use Rattle.vc_base.specs.declared.dict_method.DictMethod.TheVariants.{DtList}
use Rattle.vc_base.specs.Cells.{Blocks}
use Rattle.vc_base.specs.Holders.{contains}
use Rattle.vc_seg.specs.Segment.{pair_of}
use Rattle.vc_dtdisc.specs.Rules.{Rules}
use Rattle.vc_dict.specs.declared.dict.Dict.{Dict}
use Rattle.vc_dict.specs.Parts.{dict_by}
use Rattle.vc_best.specs.Cells.{cells_in}
use Rattle.vc_best.specs.declared.best.Best.{Best}
use Rattle.vc_objects.specs.Objects.{own_blocks}
use Rattle.vc_objects.specs.Parts.{IsWhole, dictionary_of}
use Rattle.vc_region.specs.declared.region.Region.{Region}
use Rattle.vc_region.specs.declared.region.Region.TheVariants.{Best as OfBest}
use Rattle.vc_image_check.specs.Bytes.Contents.{contents_of_image, rows_of_image}
use Rattle.vc_image_check.specs.Bytes.Image.{DictRow}
use Rattle.vc_image_check.specs.Dicts.Sound.{heads_of, numbered_method}
use Rattle.vc_image_check.specs.Dicts.Whole.{IsFirstUnsoundPart, IsSoundImage}
use Rattle.vc_image.specs.Lends.Regions.{IsLoadFault}
use Rattle.vc_image.specs.Lends.Terms.{terms_fault}
use Rattle.vc_image.specs.declared.lends.fault.ImageLendFault.{ImageLendFault}
use Rattle.vc_image.specs.declared.lends.fault.ImageLendFault.TheVariants.{Round as NotRound, Grows as TooMany, NoSegment as Refused, OutOfMemory as NoMemory}
use Rattle.vc_image.specs.declared.fault.LoadFault.{LoadFault}
use Rattle.vc_image.specs.declared.fault.LoadFault.TheVariants.{Bad, Round, Grows, NoSegment, OutOfMemory}

-- the segments of an image, as number and size in order of lending
abbrev pub pairs_of : List ℕ → List (ℕ × ℕ)
pairs_of image = map pair_of (contents_of_image image).segs

-- the dictionary of nine numbers; a list's, where no method has the first
abbrev pub dict_of_row : DictRow → Dict
dict_of_row r = dict_by (unwrap_or (numbered_method r.method) DtList) r.kind r.count (record { 0 = r.current }) (heads_of r)

-- those of an image
abbrev pub dicts_of : List ℕ → List Dict
dicts_of image = map dict_of_row (rows_of_image image)

-- the addresses of a dictionary's table and of its holders
abbrev pub own_by : Blocks → Dict → List ℕ
own_by blocks dict = own_blocks (dictionary_of dict blocks)

-- two have no block in common
abbrev pub ShareNone : Blocks → Dict → Dict → Type 0
ShareNone blocks d e = (a : ℕ) → contains (own_by blocks d) a ≡ true → contains (own_by blocks e) a ≡ false

-- no two of these have
abbrev pub AllShareNone : Blocks → List Dict → Type 0
AllShareNone blocks [] = Unit {0}
AllShareNone blocks (d ∷ ds) = AllByRecursion (ShareNone blocks d) ds × AllShareNone blocks ds

-- the kind of a dictionary is there, and it is whole over some blocks by the kind's rules
pub record IsWholeAmong (kinds : List Rules) (blocks : Blocks) (dict : Dict) : Type 0 where
  pub rules : Rules
  pub kind : at_number kinds dict.kind ≡ Some rules
  pub whole : IsWhole rules dict blocks

-- an image is sound and its segments are allowed; a best region has exactly its segments and its root; and dictionaries have
-- exactly its numbers, are whole over the region, and have no block in common
pub record IsLoaded {I : Type 0} {V : I → Type 0} (kinds : List Rules) (terms : Terms) (image : List ℕ) (region : Region I V) (dicts : List Dict) : Type 0 where
  pub sound : IsSoundImage kinds image
  pub allowed : terms_fault terms (pairs_of image) ≡ None
  pub best : Best I V
  pub of_best : region ≡ OfBest best
  pub segments : best.extents.segs.items ≡ (contents_of_image image).segs
  pub root : best.root.0 ≡ (contents_of_image image).root
  pub numbers : dicts ≡ dicts_of image
  pub kinds_fit : AllByRecursion (λ d. d.kind < 2 ^ 32) dicts
  pub each : AllByRecursion (IsWholeAmong kinds (cells_in best)) dicts
  pub apart : AllShareNone (cells_in best) dicts

-- a fault of the lends as one of loading
abbrev pub load_fault_of : ImageLendFault → LoadFault
load_fault_of (NotRound number) = Round number
load_fault_of TooMany = Grows
load_fault_of (Refused number) = NoSegment number
load_fault_of NoMemory = OutOfMemory

-- a sound image isn't loaded for a fault of the terms or of the lends
pub record IsNotLent (kinds : List Rules) (image : List ℕ) (old new : Discipline) (fault : ImageLendFault) : Type 0 where
  pub sound : IsSoundImage kinds image
  pub cause : IsLoadFault old new (pairs_of image) fault

-- why an image isn't loaded: its first unsound part, before the discipline is asked; else what the terms or the lends of its
-- segments tell; want of memory may come at any time
abbrev pub IsNotLoaded : List Rules → List ℕ → Discipline → Discipline → LoadFault → Type 0
IsNotLoaded kinds image old new (Bad part) = IsFirstUnsoundPart kinds image part × (new ≡ old)
IsNotLoaded kinds image old new (Round number) = IsNotLent kinds image old new (NotRound number)
IsNotLoaded kinds image old new Grows = IsNotLent kinds image old new TooMany
IsNotLoaded kinds image old new (NoSegment number) = IsNotLent kinds image old new (Refused number)
IsNotLoaded kinds image old new OutOfMemory = Unit {0}
