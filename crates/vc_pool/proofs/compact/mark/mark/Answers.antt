use Rattle.vc_base.proofs.Common.{◌||◌, ap}
use Rattle.vc_pool.specs.Cells.Place.{cells_in}
use Rattle.vc_pool.specs.Marks.{has_block_at}
use Rattle.vc_pool.proofs.BusySegments.{none-clear}
use Rattle.vc_pool.proofs.compact.mark.mark.Goals as goal

pub loop-segment-init : goal.loop-segment-init
loop-segment-init c =
    record {
      len = c.requires.len;
      marked = λ n. ap (λ m. m || has_block_at (cells_in c.args.segs.now) n) (none-clear c.args.marks.now n c.requires.clear);
    }
