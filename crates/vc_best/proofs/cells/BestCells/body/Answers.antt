use Rattle.vc_base.proofs.Common.{◌-◌, take, drop, ap, ◌∙◌, arith, take_rest, bytes_at}
use Rattle.vc_best.proofs.Common.{cells_in, layout_of}
use Rattle.vc_best.proofs.CellBytes.{cell-block, cell-range, cell-read, cell-size}
use Rattle.vc_best.proofs.cells.BestCells.body.Goals as goal

pub size-requires : goal.size-requires
size-requires g c = cell-block (layout_of c.args.self.now) c.args.self.now.whole c.args.at.0 32 c.requires

pub overflow_sub-size : goal.overflow_sub-size
overflow_sub-size g c =
    omega (arith, cell-size (layout_of c.args.self.now) c.args.self.now.whole c.args.at.0 32 c.requires c.size.result c.size.ensures, c.requires.enough)

pub read-requires : goal.read-requires
read-requires g c =
    let size = cell-size (layout_of c.args.self.now) c.args.self.now.whole c.args.at.0 32 c.requires c.size.result c.size.ensures in
    cell-range (layout_of c.args.self.now) c.args.self.now.whole c.args.at.0 32 c.requires 32 (c.size.result - 32) (omega (arith, size, c.requires.enough))

pub returns : goal.returns
returns g c =
    let size = cell-size (layout_of c.args.self.now) c.args.self.now.whole c.args.at.0 32 c.requires c.size.result c.size.ensures in
    let bytes = bytes_at (cells_in c.args.self.now) c.args.at.0 in
    cell-read (layout_of c.args.self.now) c.args.self.now.whole c.args.at.0 32 c.requires 32 (c.size.result - 32) c.read.result.now c.read.ensures
    ∙ (ap (λ n. take (n - 32) (drop 32 bytes)) size ∙ take_rest bytes 32)
