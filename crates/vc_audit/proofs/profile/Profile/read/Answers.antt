use Rattle.vc_base.proofs.Common.{◌≡◌, ℕ, take, drop, Some, option_map, place_of, Block, find_block}
use Rattle.vc_seg.specs.OneBlock.{IsInBlock}
use Rattle.vc_best.specs.Parts.{layout_of}
use Rattle.vc_audit.specs.ProfileParts.{sites_in}
use Rattle.vc_audit.proofs.ProfileBare.{from-best, to-best}
use Rattle.vc_audit.proofs.profile.Profile.read.Goals as goal

pub read-requires : goal.read-requires
read-requires g c = to-best (λ bs. IsInBlock bs c.args.a.0 c.args.off c.args.len) (sites_in c.args.self.now) (layout_of c.args.self.now.best).blocks c.requires

pub returns : goal.returns
returns g c = from-best (λ bs. option_map (λ (b : Block ℕ). take c.args.len (drop c.args.off b.bytes)) (find_block (place_of c.args.a.0) bs) ≡ Some c.read.result.now) (sites_in c.args.self.now) (layout_of c.args.self.now.best).blocks c.read.ensures
