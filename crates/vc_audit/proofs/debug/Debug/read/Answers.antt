use Rattle.vc_base.proofs.Common.{take, drop, option_map, ap, ◌∙◌, arith, place_of, find_block}
use Rattle.vc_best.specs.Parts.{layout_of}
use Rattle.vc_audit.proofs.DebugBlocks.{UserAt, live-down}
use Rattle.vc_audit.proofs.DebugFills.{read-user}
use Rattle.vc_audit.proofs.DebugUser.{found-in, range-guarded, range-in, range-most, user_in}
use Rattle.vc_audit.proofs.debug.Debug.read.Given.{Over}
use Rattle.vc_audit.proofs.debug.Debug.read.Goals as goal
use Rattle.vc_audit.proofs.debug.Debug.read.Goals.{After-guarded_addr}

pub guarded_addr-requires : goal.guarded_addr-requires
guarded_addr-requires g c = (live-down (layout_of c.args.self.now.best).blocks c.args.a.0 c.requires.block).0

-- the user's block, in the one with guards
user : (g : Over) (c : After-guarded_addr g) → UserAt (layout_of c.args.self.now.best) c.args.a.0 c.guarded_addr.result.0
user g c = user_in c.args.self.now c.args.a.0 c.guarded_addr.result.0 c.guarded_addr.ensures c.requires.block

pub overflow_add-off : goal.overflow_add-off
overflow_add-off g c = let most = range-most c.args.self.now (user g (goal.at.overflow_add-off g c).After-guarded_addr) c.args.off c.args.len c.requires.range in omega (arith, most)

pub read-requires : goal.read-requires
read-requires g c =
    let u = user g (goal.at.read-requires g c).After-guarded_addr in
    record { block = u.live; range = range-guarded c.args.self.now u c.args.off c.args.len c.requires.range }

pub returns : goal.returns
returns g c =
    let d = c.args.self.now in
    let u = user g (goal.at.returns g c).After-guarded_addr in
    ap (option_map (λ b. take c.args.len (drop c.args.off b.bytes))) (found-in d u)
    ∙ read-user (find_block (place_of c.guarded_addr.result.0) (layout_of d.best).blocks) c.args.off c.args.len c.read.result.now (range-in d u c.args.off c.args.len c.requires.range) c.read.ensures
