-- What an image of a state has.
use Rattle.std.specs.Prelude.{◌≡◌, ℕ, List, Some, filter, map, slice_get}
use Rattle.std.specs.Str.{bytes_eq}
use Rattle.vc_commands.specs.Home.{Home, Label}
use Rattle.vc_dict.specs.declared.dict.Dict.{Dict}
use Rattle.vc_image.specs.Load.{dicts_of}
use Rattle.vc_image.specs.Save.{contents_by}
use Rattle.vc_image_check.specs.Bytes.Contents.{contents_of_image}
use Rattle.vc_image_check.specs.Bytes.Image.{image_of}
use Rattle.vc_image_check.specs.Parts.Front.{IsSoundFront}
use Rattle.vc_image_run.specs.Session.State.{cells_of_segs, region_of_segs}
use Rattle.vc_objects.specs.Objects.{Dictionary}
use Rattle.vc_objects.specs.Parts.{dictionary_of}
use Rattle.vc_region.specs.Region.{region_with_labels}
use Rattle.vc_steps.specs.State.{State}
use Rattle.vc_views.specs.Views.{DictHome}

-- the dictionaries of a state that lie in the region of a name, in order of opening: the number of the kind of each, and what it is
abbrev pub dicts_at : List ℕ → State → List (ℕ × Dictionary)
dicts_at region s = map (λ (h : DictHome). (h.kind, h.dict)) (filter (λ (h : DictHome). bytes_eq h.home region) s.dicts)

-- those of an image, over the cells of its segments
abbrev pub dicts_told : List ℕ → List (ℕ × Dictionary)
dicts_told image = map (λ (d : Dict). (d.kind, dictionary_of d (cells_of_segs (contents_of_image image).segs))) (dicts_of image)

-- bytes are an image of the first region of a state with the dictionaries that lie in it
pub record IsImageOf (s : State) (image : List ℕ) : Type 0 where
  pub home : Home
  pub first : slice_get s.homes 0 ≡ Some home
  -- the head, each segment and the tree of free extents are sound
  pub front : IsSoundFront image
  -- it is the image of what it tells: of its root, its segments and its dictionaries
  pub is : image ≡ image_of (contents_by (contents_of_image image).root (contents_of_image image).segs (dicts_of image))
  -- its region is that of the state, with tags in place of the names
  pub name_of : ℕ → Label
  pub blocks : region_with_labels name_of (region_of_segs (contents_of_image image).segs) ≡ home.region
  -- and so are its dictionaries
  pub dicts : dicts_told image ≡ dicts_at home.name s
