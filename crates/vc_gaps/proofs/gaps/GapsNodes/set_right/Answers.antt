use Rattle.vc_base.proofs.Common.{refl}
use Rattle.vc_gaps.proofs.Common.{tiling}
use Rattle.vc_gaps.proofs.LinkWritten.{second-linked, but-linked}
use Rattle.vc_gaps.proofs.gaps.GapsNodes.set_right.Goals as goal

pub returns-clause-store : goal.returns-clause-store
returns-clause-store c =
    second-linked (tiling c.args.self.now.extents.now.segs.items) (tiling c.set_link.new.self.segs.items) c.args.n c.args.v c.requires c.set_link.ensures.tiling

pub returns-clause-rest : goal.returns-clause-rest
returns-clause-rest c = (
  refl,
  but-linked c.args.self.now.extents.now.segs.items c.set_link.new.self.segs.items c.args.n 1 c.args.v c.requires c.set_link.ensures.tiling c.set_link.ensures.pairs,
)
