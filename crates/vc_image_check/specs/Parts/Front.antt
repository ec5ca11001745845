-- Which part of an image is the first that isn't sound, but for its dictionaries.
use Rattle.std.specs.Prelude.{ℕ, List, []}
use Rattle.vc_extent.specs.Tiling.{tiling}
use Rattle.vc_gaps.specs.GapTree.{HasGaps}
use Rattle.vc_image_check.specs.Bytes.Contents.{contents_of_image}
use Rattle.vc_image_check.specs.Bytes.Header.{IsHeader}
use Rattle.vc_image_check.specs.Segments.Sound.{AreSoundSegments, IsFirstUnsoundSegment}
use Rattle.vc_image_check.specs.declared.parts.part.Part.{Part}
use Rattle.vc_image_check.specs.declared.parts.part.Part.TheVariants.{Header, Segment, Tree, Dictionary, Rest}

-- the tree at the root names each free extent once, by span and then by address
abbrev pub HasSoundTree : List ℕ → Type 0
HasSoundTree image = HasGaps (tiling (contents_of_image image).segs) (contents_of_image image).root []

-- the head, all segments, and the tree are sound
pub record IsSoundFront (image : List ℕ) : Type 0 where
  pub head : IsHeader image
  pub segments : AreSoundSegments (contents_of_image image).segs
  pub tree : HasSoundTree image

-- the head and all segments are sound, and the tree isn't
pub record IsTreeUnsound (image : List ℕ) : Type 0 where
  pub head : IsHeader image
  pub segments : AreSoundSegments (contents_of_image image).segs
  pub tree : ¬ HasSoundTree image

-- all parts before this one are sound, and it isn't; one behind the tree isn't looked at
abbrev pub IsFirstUnsound : List ℕ → Part → Type 0
IsFirstUnsound image Header = ¬ IsHeader image
IsFirstUnsound image (Segment n) = IsHeader image × IsFirstUnsoundSegment n (contents_of_image image).segs
IsFirstUnsound image Tree = IsTreeUnsound image
IsFirstUnsound image (Dictionary n) = ⊥
IsFirstUnsound image Rest = ⊥
