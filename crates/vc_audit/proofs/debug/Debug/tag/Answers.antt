use Rattle.vc_base.proofs.Common.{option_map, ap, ◌∙◌, place_of, find_block}
use Rattle.vc_best.specs.Parts.{layout_of}
use Rattle.vc_audit.proofs.DebugBlocks.{live-down}
use Rattle.vc_audit.proofs.DebugFills.{label-user}
use Rattle.vc_audit.proofs.DebugUser.{found-in, user_in}
use Rattle.vc_audit.proofs.debug.Debug.tag.Goals as goal

pub guarded_addr-requires : goal.guarded_addr-requires
guarded_addr-requires g c = (live-down (layout_of c.args.self.now.best).blocks c.args.a.0 c.requires).0

pub tag-requires : goal.tag-requires
tag-requires g c = (user_in c.args.self.now c.args.a.0 c.guarded_addr.result.0 c.guarded_addr.ensures c.requires).live

pub returns : goal.returns
returns g c =
    let r = layout_of c.args.self.now.best in
    let x = c.guarded_addr.result.0 in
    let u = user_in c.args.self.now c.args.a.0 x c.guarded_addr.ensures c.requires in
    ap (option_map (λ b. b.label)) (found-in c.args.self.now u) ∙ (label-user (find_block (place_of x) r.blocks) ∙ c.tag.ensures)
