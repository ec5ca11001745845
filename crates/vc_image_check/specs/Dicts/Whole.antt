-- Which part of an image is the first that isn't sound.
use Rattle.std.specs.Prelude.{◌≡◌, ℕ, List, true, length}
use Rattle.vc_base.specs.Holders.{contains}
use Rattle.vc_dtdisc.specs.Rules.{Rules}
use Rattle.vc_extent.specs.Tiling.{extent_of, tiling}
use Rattle.vc_image_check.specs.Bytes.Contents.{contents_of_image, rows_of_image}
use Rattle.vc_image_check.specs.Blocks.Blocks.{image_blocks, is_cell}
use Rattle.vc_image_check.specs.Parts.Front.{IsFirstUnsound, IsSoundFront}
use Rattle.vc_image_check.specs.declared.parts.part.Part.{Part}
use Rattle.vc_image_check.specs.declared.parts.part.Part.TheVariants.{Header, Segment, Tree, Dictionary, Rest}
use Rattle.vc_image_check.specs.Dicts.Taken.{AreSoundBefore, IsFirstUnsoundDict, taken_by}

-- each dictionary of an image is sound, and has no block of one before it
abbrev pub AreSoundDicts : List Rules → List ℕ → Type 0
AreSoundDicts kinds image = AreSoundBefore kinds (image_blocks image) (rows_of_image image) (length (rows_of_image image))

-- each busy extent without a label belongs to a dictionary
abbrev pub HasNoRest : List ℕ → Type 0
HasNoRest image =
    (a : ℕ) → is_cell (extent_of (tiling (contents_of_image image).segs) a) ≡ true
    → contains (taken_by (image_blocks image) (rows_of_image image)) a ≡ true

-- all parts of an image are sound for these kinds
pub record IsSoundImage (kinds : List Rules) (image : List ℕ) : Type 0 where
  pub front : IsSoundFront image
  pub dicts : AreSoundDicts kinds image
  pub rest : HasNoRest image

-- all but the rest are
pub record IsRestUnsound (kinds : List Rules) (image : List ℕ) : Type 0 where
  pub front : IsSoundFront image
  pub dicts : AreSoundDicts kinds image
  pub rest : ¬ HasNoRest image

-- all parts before this one are sound, and it isn't
abbrev pub IsFirstUnsoundPart : List Rules → List ℕ → Part → Type 0
IsFirstUnsoundPart kinds image Header = IsFirstUnsound image Header
IsFirstUnsoundPart kinds image (Segment n) = IsFirstUnsound image (Segment n)
IsFirstUnsoundPart kinds image Tree = IsFirstUnsound image Tree
IsFirstUnsoundPart kinds image (Dictionary n) =
    IsSoundFront image × IsFirstUnsoundDict kinds (image_blocks image) (rows_of_image image) n
IsFirstUnsoundPart kinds image Rest = IsRestUnsound kinds image
