-- The state that an image stands for.
use Rattle.std.specs.Prelude.{ℕ, ◌+◌, ◌-◌, List, [], ◌∷◌, None, slice_set}
use Rattle.vc_base.specs.Cells.{Blocks}
use Rattle.vc_best.specs.Blocks.{layout_by}
use Rattle.vc_best.specs.Cells.{cells_of, zeroed_layout}
use Rattle.vc_commands.specs.Tagged.{name_by_tag}
use Rattle.vc_dict.specs.declared.dict.Dict.{Dict}
use Rattle.vc_image.specs.Load.{dicts_of}
use Rattle.vc_image_check.specs.Bytes.Contents.{contents_of_image}
use Rattle.vc_image_run.specs.Session.Names.{dict_name, region_name}
use Rattle.vc_model.specs.Discipline.{Terms}
use Rattle.vc_objects.specs.Parts.{dictionary_of}
use Rattle.vc_region.specs.Region.{OfBest, Region, region_with_labels}
use Rattle.vc_seg.specs.Segment.{Bytes}
use Rattle.vc_steps.specs.State.{State}
use Rattle.vc_views.specs.Views.{DictHome}

-- dictionaries over the cells of the region under their names, from that of this number on: none views another one
abbrev pub dict_homes : Blocks → ℕ → List Dict → List DictHome
dict_homes cells n [] = []
dict_homes cells n (d ∷ ds) =
    record { name = dict_name n; home = region_name; kind = d.kind; views = None; dict = dictionary_of d cells }
    ∷ dict_homes cells (n + 1) ds

-- the best region of segments, its blocks by their tags, with zeros in those without one
abbrev pub region_of_segs : List Bytes → Region ℕ
region_of_segs segs = OfBest (zeroed_layout (layout_by segs))

-- and the cells in it, the blocks without a tag
abbrev pub cells_of_segs : List Bytes → Blocks
cells_of_segs segs = cells_of (layout_by segs).blocks

-- a state in which nothing is open, once a best region of these segments is, over the discipline at a place, of those terms, with dictionaries
abbrev pub state_with : State → ℕ → Terms → List Bytes → List Dict → State
state_with s place terms segs dicts =
    record s {
      shelf = slice_set s.shelf (place - 1) None;
      homes = record { name = region_name; place = place; terms = terms; region = region_with_labels name_by_tag (region_of_segs segs); kept = [] } ∷ [];
      dicts = dict_homes (cells_of_segs segs) 1 dicts;
    }

-- once the region of an image is, with its dictionaries
abbrev pub image_state : State → ℕ → Terms → List ℕ → State
image_state s place terms image = state_with s place terms (contents_of_image image).segs (dicts_of image)
