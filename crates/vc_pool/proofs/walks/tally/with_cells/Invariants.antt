use Rattle.vc_base.proofs.Common.{◌≡◌, drop}
use Rattle.vc_seg.specs.Tally.{HasRoom, tallied_all}
use Rattle.vc_pool.specs.Sizes.{sizes_in}
use Rattle.vc_pool.proofs.walks.tally.with_cells.Given as goal

-- the tally so far, taken on over the cells that are left, is the result
abbrev pub invariant-loop-cell : goal.invariant-loop-cell
invariant-loop-cell l =
    record {
      room : HasRoom l.tally (sizes_in (drop l.cell-index l.cells));
      rest : tallied_all l.tally (sizes_in (drop l.cell-index l.cells)) ≡ tallied_all l.fn.before (sizes_in l.cells);
    }
