use Rattle.vc_base.proofs.Common.{◌≡◌, ℕ, Some, option_map, place_of, Block, HasBlock, find_block}
use Rattle.vc_best.specs.Parts.{layout_of}
use Rattle.vc_audit.specs.ProfileParts.{sites_in}
use Rattle.vc_audit.proofs.ProfileBare.{from-best, to-best}
use Rattle.vc_audit.proofs.profile.Profile.tag.Goals as goal

pub tag-requires : goal.tag-requires
tag-requires g c = to-best (λ bs. HasBlock bs c.args.a.0) (sites_in c.args.self.now) (layout_of c.args.self.now.best).blocks c.requires

pub returns : goal.returns
returns g c = from-best (λ bs. option_map (λ (b : Block ℕ). b.label) (find_block (place_of c.args.a.0) bs) ≡ Some c.tag.result) (sites_in c.args.self.now) (layout_of c.args.self.now.best).blocks c.tag.ensures
