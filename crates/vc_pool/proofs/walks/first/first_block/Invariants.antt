use Rattle.vc_pool.specs.Cells.Cells.{cells_of}
use Rattle.vc_pool.specs.First.{AreEmpty}
use Rattle.vc_pool.proofs.walks.first.first_block.Given as goal

-- no block is in the cells so far
abbrev pub invariant-loop-index : goal.invariant-loop-index
invariant-loop-index l = AreEmpty l.from l.index (cells_of l.segment)
