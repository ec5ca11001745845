use Rattle.vc_base.proofs.Common.{◌+◌, ◌*◌, ap, ◌∙◌, arith, w64, from_le_bytes, word}
use Rattle.vc_best.proofs.Common.{layout_of}
use Rattle.vc_best.proofs.CellBytes.{cell-most, cell-range, cell-read}
use Rattle.vc_best.proofs.cells.word_in.Goals as goal

pub overflow_mul-k : goal.overflow_mul-k
overflow_mul-k g c = let most = cell-most (layout_of c.args.best.now) c.args.best.now.whole c.args.at.0 (8 * c.args.k + 8) c.requires in omega (arith, most)

pub read-requires : goal.read-requires
read-requires g c = cell-range (layout_of c.args.best.now) c.args.best.now.whole c.args.at.0 (8 * c.args.k + 8) c.requires (8 * c.args.k) 8 c.requires.enough

pub returns : goal.returns
unfolding word
returns g c =
    c.from_le_bytes.ensures
    ∙ ap (from_le_bytes w64) (c.copy_from_slice.ensures.after ∙ cell-read (layout_of c.args.best.now) c.args.best.now.whole c.args.at.0 (8 * c.args.k + 8) c.requires (8 * c.args.k) 8 c.read.result.now c.read.ensures)
