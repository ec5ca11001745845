use Rattle.vc_algebra.proofs.FillLemmas.{can-begin}
use Rattle.ranges.proofs.told.Goals as goal

pub shown-requires-clause-fill : goal.shown-requires-clause-fill
shown-requires-clause-fill g c = can-begin _ _ _ _ c.new-2.ensures c.requires
