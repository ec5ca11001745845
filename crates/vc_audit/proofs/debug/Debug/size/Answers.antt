use Rattle.vc_base.proofs.Common.{option_map, ap, ◌∙◌, arith, place_of, find_block}
use Rattle.vc_best.specs.Parts.{layout_of}
use Rattle.vc_audit.proofs.DebugBlocks.{live-down}
use Rattle.vc_audit.proofs.DebugFills.{guards-size, size-user}
use Rattle.vc_audit.proofs.DebugUser.{found-in, user_in}
use Rattle.vc_audit.proofs.debug.Debug.size.Goals as goal

pub guarded_addr-requires : goal.guarded_addr-requires
guarded_addr-requires g c = (live-down (layout_of c.args.self.now.best).blocks c.args.a.0 c.requires).0

pub size-requires : goal.size-requires
size-requires g c = (user_in c.args.self.now c.args.a.0 c.guarded_addr.result.0 c.guarded_addr.ensures c.requires).live

pub overflow_sub-result : goal.overflow_sub-result
overflow_sub-result g c = let bounds = guards-size (layout_of c.args.self.now.best).blocks (place_of c.guarded_addr.result.0) c.size.result c.args.self.now.guarded c.size.ensures in omega (arith, bounds.0)

pub returns : goal.returns
returns g c =
    let r = layout_of c.args.self.now.best in
    let x = c.guarded_addr.result.0 in
    let u = user_in c.args.self.now c.args.a.0 x c.guarded_addr.ensures c.requires in
    ap (option_map (λ b. b.size)) (found-in c.args.self.now u) ∙ size-user (find_block (place_of x) r.blocks) c.size.result c.size.ensures
