use Rattle.vc_base.proofs.Common.{List, sym, subst}
use Rattle.vc_pool.specs.Cells.Cells.{Cells}
use Rattle.vc_pool.specs.Cells.Place.{cells_in}
use Rattle.vc_pool.specs.Cells.Carve.{IsUncarved}
use Rattle.vc_pool.proofs.NoneCarved.{clear-of}
use Rattle.vc_pool.proofs.cells.clear.clear_all.Goals as goal

pub returns : goal.returns
returns c = λ element k. subst (λ (ss : List Cells). IsUncarved element (cells_in c.args.segs.now) ss) (sym c.uncarve_each.ensures) (clear-of element (cells_in c.args.segs.now) k)
