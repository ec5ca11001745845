use Rattle.vc_base.proofs.Common.{false, length, get_or, cell_for}
use Rattle.vc_pool.specs.Cells.Freed.{freed_cells}
use Rattle.vc_pool.specs.Cells.Place.{cells_in}
use Rattle.vc_pool.specs.Relink.{IsSifted, KeepsAll}
use Rattle.vc_pool.proofs.compact.relink.relink.Given as goal

-- of the freed cells up to the address those are left whose segment is marked
abbrev pub invariant-loop-at : goal.invariant-loop-at
invariant-loop-at l =
    record {
      sifted : IsSifted l.element (λ n. get_or l.fn.marks n false) (freed_cells (cells_in l.initial.segs) l.initial.freed.0) (cells_in l.segs) l.freed.0 l.last.0 l.at.0;
      keeps : KeepsAll (cell_for l.element) (cells_in l.initial.segs) (cells_in l.segs);
    }

abbrev pub decreases-loop-at : goal.decreases-loop-at
decreases-loop-at l = length (freed_cells (cells_in l.segs) l.at.0)
