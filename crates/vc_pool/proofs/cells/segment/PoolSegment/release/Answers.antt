use Rattle.vc_base.proofs.Common.{arith}
use Rattle.vc_pool.proofs.BlockPlaces.{offset-multiple}
use Rattle.vc_pool.proofs.cells.segment.PoolSegment.release.Goals as goal

pub store-requires-clause-multiple : goal.store-requires-clause-multiple
store-requires-clause-multiple c = let m = offset-multiple c.args.cell c.args.index c.requires.legal.multiple in omega (arith, m, c.offset_of.ensures)
