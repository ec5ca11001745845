use Rattle.vc_base.proofs.Common.{sym, ap, ◌∙◌, Blocks}
use Rattle.vc_best.specs.Cells.{cells_in}
use Rattle.vc_objects.proofs.Unlabelled.{left-cell}
use Rattle.vc_objects.proofs.tables.free_table.Goals as goal

pub returns-then-ne-clause-others : goal.returns-then-ne-clause-others
returns-then-ne-clause-others g c = λ a ne. ap (λ (f : Blocks). f a) c.free_cell.ensures.frees.cells ∙ left-cell (cells_in c.args.best.now) c.args.at.0 a (λ e. ne (sym e))
