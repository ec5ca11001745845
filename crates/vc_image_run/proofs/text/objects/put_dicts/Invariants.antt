use Rattle.vc_base.proofs.Common.{◌≡◌, ◌++◌, take, flat_map}
use Rattle.vc_best.specs.Cells.{cells_in}
use Rattle.vc_script.specs.Print.{line_of}
use Rattle.vc_image_run.specs.Text.Text.{walked_objects}
use Rattle.vc_image_run.proofs.text.objects.put_dicts.Given as goal

-- the lines of those so far are put
abbrev pub invariant-loop-dict : goal.invariant-loop-dict
invariant-loop-dict g l =
    l.text.items ≡ l.fn.text.items ++ flat_map (λ d. line_of (walked_objects (cells_in l.best) d)) (take l.dict-index l.dicts)
