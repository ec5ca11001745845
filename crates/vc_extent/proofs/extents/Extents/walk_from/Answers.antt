use Rattle.vc_base.proofs.Common.{get_or}
use Rattle.vc_extent.proofs.WalkStarts.{first-there}
use Rattle.vc_extent.proofs.extents.Extents.walk_from.Goals as goal

pub returns-clause-there : goal.returns-clause-there
returns-clause-there c = λ d. first-there (get_or c.args.self.now.segs.items c.place-place.result d).bytes (c.place-place.ensures.tiled d)
