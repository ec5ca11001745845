use Rattle.vc_seg.specs.OneBlock.{IsBlockAt}
use Rattle.vc_best.specs.Parts.{layout_of}
use Rattle.vc_audit.specs.ProfileParts.{sites_in}
use Rattle.vc_audit.proofs.ProfileBare.{from-best}
use Rattle.vc_audit.proofs.profile.Profile.block_at.Goals as goal

pub returns : goal.returns
returns g c = from-best (IsBlockAt c.block_at.result (c.args.seg, c.args.off)) (sites_in c.args.self.now) (layout_of c.args.self.now.best).blocks c.block_at.ensures
