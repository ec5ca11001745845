-- What is shown of a sound image.
use Rattle.std.specs.Prelude.{ℕ, List, IfSome, IsSome}
use Rattle.std.specs.List.{AllByRecursion}
use Rattle.vc_dict.specs.declared.dict.Dict.{Dict}
use Rattle.vc_best.specs.Blocks.{layout_by}
use Rattle.vc_best.specs.Cells.{cells_in}
use Rattle.vc_best.specs.declared.best.Best.{Best}
use Rattle.vc_region.specs.declared.region.Region.{Region}
use Rattle.vc_region.specs.OfBest.{best_in}
use Rattle.vc_image.specs.Load.{dicts_of}
use Rattle.vc_image_check.specs.Bytes.Contents.{contents_of_image}
use Rattle.vc_image_run.specs.Text.Text.{IsWholeInCells, image_text}

-- what the commands that look print of a region with its segments, and of dictionaries with its numbers
abbrev pub shown_of : List ℕ → List ℕ
shown_of image = image_text (layout_by (contents_of_image image).segs) (dicts_of image)

-- dictionaries are whole over a best region
abbrev pub AreShowable : {I : Type 0} {V : I → Type 0} → Region I V → List Dict → Type 0
AreShowable {I = I} {V = V} region dicts =
    IsSome (best_in region) × IfSome (best_in region) (λ (b : Best I V). AllByRecursion (IsWholeInCells (cells_in b)) dicts)
