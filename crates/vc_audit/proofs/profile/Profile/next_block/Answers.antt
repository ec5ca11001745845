use Rattle.vc_base.proofs.Common.{◌≡◌, ◌⊎◌, HasBlock}
use Rattle.vc_seg.specs.OneBlock.{IsNextBlock}
use Rattle.vc_best.specs.Parts.{layout_of}
use Rattle.vc_audit.specs.ProfileParts.{sites_in}
use Rattle.vc_audit.proofs.ProfileBare.{from-best, to-best}
use Rattle.vc_audit.proofs.profile.Profile.next_block.Goals as goal

pub next_block-requires : goal.next_block-requires
next_block-requires g c = to-best (λ bs. (c.args.after.0 ≡ 0) ⊎ HasBlock bs c.args.after.0) (sites_in c.args.self.now) (layout_of c.args.self.now.best).blocks c.requires

pub returns : goal.returns
returns g c = from-best (IsNextBlock c.next_block.result c.args.after.0) (sites_in c.args.self.now) (layout_of c.args.self.now.best).blocks c.next_block.ensures
