use Rattle.vc_best.specs.Cells.{cells_in}
use Rattle.vc_objects.specs.Parts.{IsWhole}
use Rattle.vc_dict_tests.proofs.large.seek_all.Given as goal

abbrev pub invariant-loop-j : goal.invariant-loop-j
invariant-loop-j g l = IsWhole (g.D.DictDisc.rules l.kind) l.dict (cells_in l.best)
