use Rattle.vc_base.proofs.Common.{◌-◌, length, option_map}
use Rattle.vc_best.specs.Cells.{cells_in}
use Rattle.vc_dict.specs.Listed.{holders_of}
use Rattle.vc_dtlist.specs.Linked.{number_of}
use Rattle.vc_image_run.proofs.Walks.{Walked}
use Rattle.vc_image_run.proofs.text.objects.objects.Given as goal

-- the objects so far, and the holder behind them
abbrev pub invariant-loop-at : goal.invariant-loop-at
invariant-loop-at g l =
    Walked (cells_in l.best) (holders_of l.dict (cells_in l.best)) (option_map number_of l.at) l.items

abbrev pub decreases-loop-at : goal.decreases-loop-at
decreases-loop-at g l = length (holders_of l.dict (cells_in l.best)) - length l.items
