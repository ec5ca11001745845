use Rattle.vc_base.proofs.Common.{◌<◌, ◌≤◌, ⊎_elim, arith, cases_lt}
use Rattle.vc_pool.proofs.BlockSizes.{fresh-at}
use Rattle.vc_pool.proofs.walks.first.first_block.Goals as goal

pub returns-clause-none : goal.returns-clause-none
returns-clause-none c =
    λ k behind listed.
    ⊎_elim
    (λ (low : k < c.loop-index.index). c.loop-index.invariant k behind low)
    (λ (high : c.loop-index.index ≤ k). let past = c.loop-index-test.false in fresh-at c.args.segment.now.carved k c.args.segment.now.cells.items c.requires.fresh (omega (arith, past, high)) listed)
    (cases_lt k c.loop-index.index)
