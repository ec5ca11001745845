use Rattle.vc_base.proofs.Common.{false, get_or, cell_for}
use Rattle.vc_pool.specs.Cells.Freed.{freed_cells}
use Rattle.vc_pool.specs.Cells.Place.{cells_in}
use Rattle.vc_pool.proofs.PoolChange.{pool-freed, pool-of}
use Rattle.vc_pool.proofs.ChainSifting.{keeps-more, keeps-same, sift-first, sift-last}
use Rattle.vc_pool.proofs.compact.relink.relink.Goals as goal

pub loop-at-init : goal.loop-at-init
loop-at-init c =
    record {
      sifted = sift-first c.args.element (λ n. get_or c.args.marks.now n false) (cells_in c.args.segs.now) c.args.freed.now.0 c.requires.kept;
      keeps = keeps-same (cell_for c.args.element) (cells_in c.args.segs.now);
    }

pub loop-at-preserved : goal.loop-at-preserved
loop-at-preserved c =
    record {
      sifted = c.sift.ensures.sifted (freed_cells (cells_in c.args.segs.now) c.args.freed.now.0) c.loop-at.invariant.sifted;
      keeps = keeps-more (cell_for c.args.element) (cells_in c.args.segs.now) (cells_in c.loop-at.segs) (cells_in c.sift.new.segs) c.loop-at.invariant.keeps c.sift.ensures.keeps;
    }

pub returns-clause-kept : goal.returns-clause-kept
returns-clause-kept c =
    pool-of c.args.element (cells_in c.loop-at.segs) c.loop-at.freed.0 _
    (sift-last c.args.element (λ n. get_or c.args.marks.now n false) (cells_in c.loop-at.segs) c.loop-at.freed.0 (freed_cells (cells_in c.args.segs.now) c.args.freed.now.0) c.loop-at.last.0 c.loop-at.at.0 c.loop-at-test.false c.loop-at.invariant.sifted)

pub returns-clause-freed : goal.returns-clause-freed
returns-clause-freed c =
    pool-freed c.args.element (cells_in c.loop-at.segs) c.loop-at.freed.0 _
    (sift-last c.args.element (λ n. get_or c.args.marks.now n false) (cells_in c.loop-at.segs) c.loop-at.freed.0 (freed_cells (cells_in c.args.segs.now) c.args.freed.now.0) c.loop-at.last.0 c.loop-at.at.0 c.loop-at-test.false c.loop-at.invariant.sifted)
