use Rattle.vc_best.proofs.Common.{tiling}
use Rattle.vc_best.proofs.Held.{merged-of}
use Rattle.vc_best.proofs.best.Best.stat.Goals as goal

pub stat-requires : goal.stat-requires
stat-requires g c = merged-of (tiling c.args.self.now.extents.segs.items) c.args.self.now.merged
