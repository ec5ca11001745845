use Rattle.vc_base.proofs.Common.{ℕ, length, ap, ◌∙◌, arith, Layout}
use Rattle.vc_best.proofs.Common.{blocks_in, cells_of, layout_of, zeroed_layout}
use Rattle.vc_best.proofs.CellBytes.{cell, cell-range, cells-written, layout-written}
use Rattle.vc_best.proofs.cells.BestCells.set_body.Goals as goal

pub write-requires : goal.write-requires
write-requires g c = let long = c.requires.length in cell-range (layout_of c.args.self.now) c.args.self.now.whole c.args.at.0 32 c.requires.place 32 (length c.args.bytes.now) (omega (arith, long))

pub returns-clause-blocks : goal.returns-clause-blocks
returns-clause-blocks g c =
    let block = cell (layout_of c.args.self.now) c.args.self.now.whole c.args.at.0 32 c.requires.place in
    ap (λ (r : Layout ℕ). cells_of r.blocks) c.write.ensures.written.layout
    ∙ cells-written 32 c.args.bytes.now c.args.at.0 (blocks_in c.args.self.now) block.0 block.1

pub returns-clause-rest : goal.returns-clause-rest
returns-clause-rest g c =
    let block = cell (layout_of c.args.self.now) c.args.self.now.whole c.args.at.0 32 c.requires.place in
    record {
      layout = ap zeroed_layout c.write.ensures.written.layout ∙ layout-written 32 c.args.bytes.now c.args.at.0 (layout_of c.args.self.now) block.0 block.1;
      disc = c.write.ensures.same_disc;
    }
