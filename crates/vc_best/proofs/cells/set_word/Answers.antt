use Rattle.vc_base.proofs.Common.{ℕ, ◌+◌, ◌*◌, length, ap, ◌∙◌, arith, bytes_at, with_word, with_bytes, Layout}
use Rattle.vc_best.proofs.Common.{blocks_in, cells_in, cells_of, layout_of, zeroed_layout}
use Rattle.vc_base.specs.Cells.{put}
use Rattle.vc_best.proofs.CellBytes.{cell, cell-most, cell-range, cells-written, layout-written}
use Rattle.vc_best.proofs.cells.set_word.Goals as goal

pub overflow_mul-k : goal.overflow_mul-k
overflow_mul-k g c = let most = cell-most (layout_of c.args.best.now) c.args.best.now.whole c.args.at.0 (8 * c.args.k + 8) c.requires in omega (arith, most)

pub write-requires : goal.write-requires
write-requires g c =
    let long = ap length c.to_le_bytes.ensures in
    let enough = c.requires.enough in
    cell-range (layout_of c.args.best.now) c.args.best.now.whole c.args.at.0 (8 * c.args.k + 8) c.requires (8 * c.args.k) (length c.to_le_bytes.result) (omega (arith, long, enough))

pub returns-clause-blocks : goal.returns-clause-blocks
unfolding with_word
returns-clause-blocks g c =
    let cells = cells_in c.args.best.now in
    let block = cell (layout_of c.args.best.now) c.args.best.now.whole c.args.at.0 (8 * c.args.k + 8) c.requires in
    ap (λ (r : Layout ℕ). cells_of r.blocks) c.write.ensures.written.layout
    ∙ (cells-written (8 * c.args.k) c.to_le_bytes.result c.args.at.0 (blocks_in c.args.best.now) block.0 block.1
    ∙ ap (λ src. put c.args.at.0 (with_bytes (8 * c.args.k) src (bytes_at cells c.args.at.0)) cells) c.to_le_bytes.ensures)

pub returns-clause-rest : goal.returns-clause-rest
returns-clause-rest g c =
    let block = cell (layout_of c.args.best.now) c.args.best.now.whole c.args.at.0 (8 * c.args.k + 8) c.requires in
    record {
      layout = ap zeroed_layout c.write.ensures.written.layout ∙ layout-written (8 * c.args.k) c.to_le_bytes.result c.args.at.0 (layout_of c.args.best.now) block.0 block.1;
      disc = c.write.ensures.same_disc;
    }
