use Rattle.vc_last.proofs.Types.{have}
use Rattle.vc_last.proofs.last.Last.stat.Goals as goal

pub stat_of-requires : goal.stat_of-requires
stat_of-requires g c = rw c.deref.ensures.value (have c.args.self.now.segs.items c.args.self.now.latest.0 c.args.self.now.kept)
